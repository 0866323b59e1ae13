-- Known free resources, entry by entry.
use Rattle.std.specs.List.{AllByRecursion}
use Rattle.std.specs.Map.{lookup, values_of}
use Rattle.std.proofs.Common.{refl, sym, ap, subst, ◌∙◌, zero, suc, inl, inr, add-one, arith, ◌≡◌, ℕ, ◌+◌, Bool, true, false, List, [], ◌∷◌, map, length, slice_get, slice_set, Option, Some, None, is_some, if◌then◌else◌}
use Rattle.std.proofs.lemmas.Bool.{cases_Bool, and_parts, and_from}
use Rattle.drf_tables.proofs.tables.Names.{set_value_at, Text, same_text, Resource, Holding, holdings_of, parts_on, each_from, each_map, active_at, AgentRow, Rows, changed, with_active, are_settled, with_free_at, Agent, Inside}
use Rattle.drf_role.specs.TextLaws.{same_from_test}
use Rattle.drf_bundle.specs.Taken.{rest_of_all}
use Rattle.drf_rows.specs.Cycle.{free_of}
use Rattle.drf_holdings.specs.Stored.{holdings_in}
use Rattle.drf_tables.specs.cycle.Drafts.{frees_after}
use Rattle.drf_tables.specs.Inside.{agent_row, frees_in, known_after, is_settled, rows_in, rows_of, IsKnown}
use Rattle.drf_tables.specs.declared.tables.Left.{Left}

-- ---- rows of changed entries

pub rows-each : (f : Text × Agent → Text × Agent) (g : AgentRow → AgentRow) → ((e : Text × Agent) → agent_row (f e) ≡ g (agent_row e))
    → (es : List (Text × Agent)) → map agent_row (map f es) ≡ map g (map agent_row es)
rows-each f g same [] = refl
rows-each f g same (e ∷ es) = λ i. same e i ∷ rows-each f g same es i

pub rows-with_active : (name : Text) (active : Bool) (es : List (Text × Agent))
    → map agent_row (map (changed name (with_active active)) es) ≡ map (active_at name active) (map agent_row es)
rows-with_active name active = rows-each (changed name (with_active active)) (active_at name active) (λ e. by e (same_text e.0 name))
  where
    by : (e : Text × Agent) (b : Bool)
        → agent_row (if b then (e.0, with_active active e.1) else e) ≡ (if b then record (agent_row e) { active = active } else agent_row e)
    by e true = refl
    by e false = refl

-- ---- known free resources of changed entries

pub known-with_active : (hs : List Holding) (name : Text) (active : Bool) (es : List (Text × Agent))
    → AllByRecursion (IsKnown hs) es → AllByRecursion (IsKnown hs) (map (changed name (with_active active)) es)
known-with_active hs name active es known =
    each_map (IsKnown hs) (changed name (with_active active)) es
    (each_from (IsKnown hs) (λ e. IsKnown hs (changed name (with_active active) e)) es (λ e was. by e was (same_text e.0 name)) known)
  where
    by : (e : Text × Agent) → IsKnown hs e → (b : Bool) → IsKnown hs (if b then (e.0, with_active active e.1) else e)
    by e was true = was
    by e was false = was

-- ---- known free resources of all agents

-- known free resources are right
free-settled : (rows : Rows) (e : Text × Agent) → is_some e.1.free ≡ true → IsKnown (holdings_of rows) e
    → e.1.free ≡ Some (free_of rows (agent_row e))
unfolding free_of
free-settled rows e some known = by e.1.free known some
  where
    by : (free : Option (List Resource)) → ((x : List Resource) → free ≡ Some x → x ≡ free_of rows (agent_row e))
        → is_some free ≡ true → free ≡ Some (free_of rows (agent_row e))
    by (Some x) is some = λ i. Some (is x refl i)
    by None is some = cc

-- if the free resources of all agents are known, they are right
pub frees-settled : (rows : Rows) (es : List (Text × Agent)) → is_settled es ≡ true → AllByRecursion (IsKnown (holdings_of rows)) es
    → frees_in es ≡ map (λ f. Some f) (map (free_of rows) (map agent_row es))
frees-settled rows [] all known = refl
frees-settled rows (e ∷ es) all known =
    let parts = and_parts (is_some e.1.free) (is_settled es) all in
    let head = free-settled rows e parts.0 known.0 in
    λ i. head i ∷ frees-settled rows es parts.1 known.1 i

-- the same for the agent that is found
pub known_found : (hs : List Holding) (name : Text) (es : List (Text × Agent)) (a : Agent)
    → AllByRecursion (IsKnown hs) es → lookup (same_text name) es ≡ Some a → IsKnown hs (name, a)
known_found hs name [] a known found = cc
known_found hs name (e ∷ es) a known found =
    let tested : Bool → Option Agent = λ b. if b then Some e.1 else lookup (same_text name) es in
    elim (cases_Bool (same_text name e.0)) [
      | inl same ↦
          let first : ◌≡◌ {A = Option Agent} (Some e.1) (Some a) = sym (ap tested same) ∙ found in
          let its : e.1 ≡ a = cc in
          subst (λ (f : Text × Agent). IsKnown hs f) (λ i. (sym (same_from_test name e.0 same) i, its i)) known.0
      | inr other ↦ known_found hs name es a known.1 (sym (ap tested other) ∙ found)
    ]

module _ (t : Inside) (name : Text) (a : Agent) where
  pub known_in : AllByRecursion (IsKnown (holdings_of (rows_in t))) t.agents.entries → lookup (same_text name) t.agents.entries ≡ Some a
      → IsKnown (holdings_in t.holdings) (name, a)
  unfolding rows_of
  known_in known found = known_found (holdings_in t.holdings) name t.agents.entries a known found

  -- its total without all that is held there is free
  pub left_free : rest_of_all a.total (parts_on name (holdings_in t.holdings)) ≡ free_of (rows_in t) (agent_row (name, a))
  unfolding free_of rows_of
  left_free = refl

-- its free resources, if those of all agents are known
pub free_found : (rows : Rows) (name : Text) (es : List (Text × Agent)) (a : Agent) → is_settled es ≡ true
    → AllByRecursion (IsKnown (holdings_of rows)) es → lookup (same_text name) es ≡ Some a
    → a.free ≡ Some (free_of rows (agent_row (name, a)))
free_found rows name [] a all known found = cc
free_found rows name (e ∷ es) a all known found =
    let parts = and_parts (is_some e.1.free) (is_settled es) all in
    let tested : Bool → Option Agent = λ b. if b then Some e.1 else lookup (same_text name) es in
    elim (cases_Bool (same_text name e.0)) [
      | inl same ↦
          let first : ◌≡◌ {A = Option Agent} (Some e.1) (Some a) = sym (ap tested same) ∙ found in
          let its : e.1 ≡ a = cc in
          subst (λ (f : Text × Agent). f.1.free ≡ Some (free_of rows (agent_row f)))
          (λ i. (sym (same_from_test name e.0 same) i, its i)) (free-settled rows e parts.0 known.0)
      | inr other ↦ free_found rows name es a parts.1 known.1 (sym (ap tested other) ∙ found)
    ]

-- if the list has free resources for each agent, all are known
pub settled-frees : (es : List (Text × Agent)) (frees : List (List Resource)) → frees_in es ≡ map (λ f. Some f) frees
    → is_settled es ≡ true
settled-frees [] frees same = refl
settled-frees (e ∷ es) [] same = cc
settled-frees (e ∷ es) (f ∷ fs) same =
    let head : e.1.free ≡ Some f = cc in
    let tail : frees_in es ≡ map (λ f. Some f) fs = cc in
    and_from (is_some e.1.free) (is_settled es) (ap is_some head) (settled-frees es fs tail)

-- if the list is right, the known free resources are right
pub known-frees : (rows : Rows) (es : List (Text × Agent)) → frees_in es ≡ map (λ f. Some f) (map (free_of rows) (map agent_row es))
    → AllByRecursion (IsKnown (holdings_of rows)) es
unfolding free_of
known-frees rows [] same = tt
known-frees rows (e ∷ es) same =
    let head : e.1.free ≡ Some (free_of rows (agent_row e)) = cc in
    let tail : frees_in es ≡ map (λ f. Some f) (map (free_of rows) (map agent_row es)) = cc in
    let known : IsKnown (holdings_of rows) e = λ free is. by free (sym is ∙ head) in
    (known, known-frees rows es tail)
  where
    by : (free : List Resource) → ◌≡◌ {A = Option (List Resource)} (Some free) (Some (free_of rows (agent_row e))) → free ≡ free_of rows (agent_row e)
    by free same = cc

set-some : (frees : List (List Resource)) (i : ℕ) (free : List Resource)
    → slice_set (map (λ f. Some f) frees) i (Some free) ≡ map (λ f. Some f) (slice_set frees i free)
set-some [] i free = refl
set-some (f ∷ fs) zero free = refl
set-some (f ∷ fs) (suc i) free = ap (λ l. Some f ∷ l) (set-some fs i free)

-- the free resources that remain after turns are known
pub known_after-some : (frees : List (List Resource)) (lefts : List Left)
    → known_after (map (λ f. Some f) frees) lefts ≡ map (λ f. Some f) (frees_after frees lefts)
known_after-some frees [] = refl
known_after-some frees (l ∷ ls) =
    ap (λ (fs : List (Option (List Resource))). known_after fs ls) (set-some frees l.agent l.free)
    ∙ known_after-some (slice_set frees l.agent l.free) ls

-- ---- by place

pub settled_at : (es : List (Text × Agent)) (i : ℕ) (a : Agent) → is_settled es ≡ true → slice_get (values_of es) i ≡ Some a
    → is_some a.free ≡ true
settled_at [] i a all at = cc
settled_at (e ∷ es) zero a all at =
    let same : e.1 ≡ a = cc in
    (λ j. is_some (sym same j).free) ∙ (and_parts (is_some e.1.free) (is_settled es) all).0
settled_at (e ∷ es) (suc i) a all at = settled_at es i a (and_parts (is_some e.1.free) (is_settled es) all).1 at

-- the free resources of one more agent are known
settled-next : (es : List (Text × Agent)) (i : ℕ) (a : Agent) → are_settled i es ≡ true → slice_get (values_of es) i ≡ Some a
    → is_some a.free ≡ true → are_settled (suc i) es ≡ true
settled-next [] i a all at some = cc
settled-next (e ∷ es) zero a all at some =
    let same : e.1 ≡ a = cc in
    let here : is_some e.1.free ≡ true = (λ j. is_some (same j).free) ∙ some in
    rw here refl
settled-next (e ∷ es) (suc i) a all at some =
    let parts = and_parts (is_some e.1.free) (are_settled i es) all in
    and_from (is_some e.1.free) (are_settled (suc i) es) parts.0 (settled-next es i a parts.1 at some)

pub settled-more : (es : List (Text × Agent)) (i : ℕ) (a : Agent) → are_settled i es ≡ true → slice_get (values_of es) i ≡ Some a
    → is_some a.free ≡ true → are_settled (i + 1) es ≡ true
settled-more es i a all at some = ap (λ n. are_settled n es) (add-one i) ∙ settled-next es i a all at some

settled-set_next : (es : List (Text × Agent)) (i : ℕ) (a w : Agent) → are_settled i es ≡ true → slice_get (values_of es) i ≡ Some a
    → is_some w.free ≡ true → are_settled (suc i) (set_value_at es i w) ≡ true
settled-set_next [] i a w all at some = cc
settled-set_next (e ∷ es) zero a w all at some = rw some refl
settled-set_next (e ∷ es) (suc i) a w all at some =
    let parts = and_parts (is_some e.1.free) (are_settled i es) all in
    and_from (is_some e.1.free) (are_settled (suc i) (set_value_at es i w)) parts.0 (settled-set_next es i a w parts.1 at some)

pub settled-set : (es : List (Text × Agent)) (i : ℕ) (a w : Agent) → are_settled i es ≡ true → slice_get (values_of es) i ≡ Some a
    → is_some w.free ≡ true → are_settled (i + 1) (set_value_at es i w) ≡ true
settled-set es i a w all at some = ap (λ n. are_settled n (set_value_at es i w)) (add-one i) ∙ settled-set_next es i a w all at some

-- known free resources stay right if the right ones are written at a place
pub known-set : (hs : List Holding) (es : List (Text × Agent)) (i : ℕ) (e : Text × Agent) (free : List Resource)
    → slice_get es i ≡ Some e → AllByRecursion (IsKnown hs) es → free ≡ rest_of_all e.1.total (parts_on e.0 hs)
    → AllByRecursion (IsKnown hs) (set_value_at es i (record e.1 { free = Some free }))
known-set hs [] i e free at known right = cc
known-set hs (f ∷ es) zero e free at known right =
    let same : f ≡ e = cc in
    let there : free ≡ rest_of_all e.1.total (parts_on f.0 hs) = right ∙ (λ j. rest_of_all e.1.total (parts_on (sym same j).0 hs)) in
    let head : IsKnown hs (f.0, record e.1 { free = Some free }) = λ other is. by other is ∙ there in
    (head, known.1)
  where
    by : (other : List Resource) → ◌≡◌ {A = Option (List Resource)} (Some free) (Some other) → other ≡ free
    by other is = cc
known-set hs (f ∷ es) (suc i) e free at known right = (known.0, known-set hs es i e free at known.1 right)

-- ---- free resources are written at a place

pub rows-free_at : (es : List (Text × Agent)) (i : ℕ) (free : List Resource) → map agent_row (with_free_at es i free) ≡ map agent_row es
rows-free_at [] i free = refl
rows-free_at (e ∷ es) zero free = refl
rows-free_at (e ∷ es) (suc i) free = ap (λ (rs : List AgentRow). agent_row e ∷ rs) (rows-free_at es i free)

pub frees-free_at : (es : List (Text × Agent)) (i : ℕ) (free : List Resource)
    → frees_in (with_free_at es i free) ≡ slice_set (frees_in es) i (Some free)
frees-free_at [] i free = refl
frees-free_at (e ∷ es) zero free = refl
frees-free_at (e ∷ es) (suc i) free = ap (λ (fs : List (Option (List Resource))). e.1.free ∷ fs) (frees-free_at es i free)

pub length-free_at : (es : List (Text × Agent)) (i : ℕ) (free : List Resource) → length (with_free_at es i free) ≡ length es
length-free_at [] i free = refl
length-free_at (e ∷ es) zero free = refl
length-free_at (e ∷ es) (suc i) free =
    let later = length-free_at es i free in
    omega (arith, later)
