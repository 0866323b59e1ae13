-- In two clusters that are alike except for names, each role would be granted the same, and the same roles come before
-- others.
use Rattle.std.specs.Prelude.{◌≡◌, ◌≢◌, ℕ, ◌+◌, Bool, true, false, not, ◌&&◌, List, [], ◌∷◌, ◌++◌, map, filter, sum_by, codes, Option, Some, None, if◌then◌else◌}
use Rattle.std.specs.List.{AllByRecursion, flat_map, list_any}
use Rattle.std.proofs.Common.{refl, sym, ap, ◌∙◌, inl, inr, cond, arith}
use Rattle.std.proofs.lemmas.Bool.{cases_Bool, false_from_ne_true}
use Rattle.std.proofs.lemmas.List.{map-append}
use Rattle.std.proofs.lemmas.Simd.{map-map}
use Rattle.drf_role.specs.Path.{Path, begins_with, client_path, same_path}
use Rattle.drf_role.proofs.PathLaws.{NoDots, no_dots-role}
use Rattle.drf_role.specs.Role.{IsRole}
use Rattle.drf_role.specs.Text.{Text, same_text}
use Rattle.drf_role.specs.TextLaws.{same_from_test}
use Rattle.drf_bundle.specs.Bundle.{clip, part_for}
use Rattle.drf_bundle.specs.Taken.{rest_of_all}
use Rattle.drf_bundle.specs.declared.resource.Resource.{Resource}
use Rattle.drf_rows.specs.Client.{Client, path_of}
use Rattle.drf_rows.specs.Consistent.{IsFramework, IsConsistent}
use Rattle.drf_rows.specs.Cycle.{free_of, grant, is_allocatable, new_offer, with_offer}
use Rattle.drf_rows.specs.Held.{active_clients, client_of, cluster_total, held_by, is_registered, weight_of}
use Rattle.drf_rows.specs.Held as rows_word
use Rattle.drf_rows.specs.Holdings.{Holding, amount_in, holding_of_offer, holding_of_task, holdings_of, held_where, is_under, parts_on}
use Rattle.drf_rows.specs.Quota.{consumption, entitlement, headrooms, is_within, reserved_for, unreserved_in}
use Rattle.drf_rows.specs.Share.{Standing, is_ahead, stands_before_below}
use Rattle.drf_row_laws.proofs.ConsistentLaws.{registered_once, same_text-swap, times_registered}
use Rattle.drf_row_laws.proofs.CycleLaws.{active_clients-with_offer}
use Rattle.drf_row_laws.proofs.HoldingsLaws.{held_where-cons}
use Rattle.drf_bundle.proofs.ListLaws.{each_append, sum_by-map}
use Rattle.drf_rows.specs.declared.rows.AgentRow.{AgentRow}
use Rattle.drf_rows.specs.declared.rows.ClientRow.{ClientRow}
use Rattle.drf_rows.specs.declared.rows.FrameworkRow.{FrameworkRow}
use Rattle.drf_rows.specs.declared.rows.OfferRow.{OfferRow}
use Rattle.drf_rows.specs.declared.rows.Rows.{Rows}
use Rattle.drf_rows.specs.declared.rows.TaskRow.{TaskRow}
use Rattle.drf_promises.specs.Frameworks.{unnamed_offer, unnamed_task, IsOfRoles, StandAlike}
use Rattle.drf_promises.specs.Siblings.{child, HoldsTheSame}
use Rattle.drf_promises.proofs.theorems.Counts.{count-with_offer}
use Rattle.drf_promises.proofs.theorems.Siblings.{sums_decide}
use Rattle.drf_promises.proofs.theorems.Unfiltered.{unheld}

-- ---- nodes of roles

no_dot : (part : Text) → part ≢ codes "." → same_text (codes ".") part ≡ false
no_dot part other = false_from_ne_true (same_text (codes ".") part) (λ same. other (sym (same_from_test (codes ".") part same)))

pub of_roles-role : (node : Path) → NoDots node → IsOfRoles node
of_roles-role [] dots role f g = refl
of_roles-role (n ∷ ns) dots [] f g =
    let other : same_text n (codes ".") ≡ false = same_text-swap n (codes ".") ∙ no_dot n dots.0 in
    rw other refl
of_roles-role (n ∷ ns) dots (r ∷ rs) f g = ap (λ b. same_text n r && b) (of_roles-role ns dots.1 rs f g)

-- the clients of the role itself
pub of_roles-own : (node : Path) → NoDots node → IsOfRoles (child node (codes "."))
of_roles-own [] dots [] f g = refl
of_roles-own [] dots (r ∷ rs) f g = refl
of_roles-own (n ∷ ns) dots [] f g =
    let other : same_text n (codes ".") ≡ false = same_text-swap n (codes ".") ∙ no_dot n dots.0 in
    rw other refl
of_roles-own (n ∷ ns) dots (r ∷ rs) f g = ap (λ b. same_text n r && b) (of_roles-own ns dots.1 rs f g)

no_dots-child : (parent : Path) (part : Text) → NoDots parent → part ≢ codes "." → NoDots (child parent part)
no_dots-child [] part dots other = (other, tt)
no_dots-child (p ∷ parent) part dots other = (dots.0, no_dots-child parent part dots.1 other)

-- ---- which role comes first

module _ (s t : Standing) (held : (node : Path) → IsOfRoles node → (label : Text) → t.held node label ≡ s.held node label)
    (count : (node : Path) → IsOfRoles node → t.count node ≡ s.count node) (weight : t.weight ≡ s.weight) (total : t.total ≡ s.total) where
  same_at : (node : Path) → IsOfRoles node → HoldsTheSame t s node
  same_at node roles = record { held = held node roles; count = count node roles; weight = ap (λ (w : Path → ℕ). w node) weight }

  ahead-alike : (parent : Path) (a b : Text) → IsOfRoles (child parent a) → IsOfRoles (child parent b) → is_ahead t parent a b ≡ is_ahead s parent a b
  ahead-alike parent a b one other = sums_decide t s parent a b (same_at (child parent a) one) (same_at (child parent b) other) total

  pub before-alike : (parent a b : Path) (f g h k : Text) → NoDots parent → NoDots a → NoDots b → same_path a b ≡ false
      → stands_before_below t parent (client_path a f) (client_path b g) ≡ stands_before_below s parent (client_path a h) (client_path b k)
  before-alike parent [] [] f g h k dots dots_a dots_b other = cc
  before-alike parent [] (y ∷ b) f g h k dots dots_a dots_b other =
      rw (no_dot y dots_b.0)
      (ahead-alike parent (codes ".") y (of_roles-own parent dots) (of_roles-role (child parent y) (no_dots-child parent y dots dots_b.0)))
  before-alike parent (x ∷ a) [] f g h k dots dots_a dots_b other =
      rw (same_text-swap x (codes ".") ∙ no_dot x dots_a.0)
      (ahead-alike parent x (codes ".") (of_roles-role (child parent x) (no_dots-child parent x dots dots_a.0)) (of_roles-own parent dots))
  before-alike parent (x ∷ a) (y ∷ b) f g h k dots dots_a dots_b other = elim (cases_Bool (same_text x y)) [
    | inl same ↦
        let apart : same_path a b ≡ false = rw same at other in
        rw same (before-alike (child parent x) a b f g h k (no_dots-child parent x dots dots_a.0) dots_a.1 dots_b.1 apart)
    | inr past ↦
        rw past
        (ahead-alike parent x y (of_roles-role (child parent x) (no_dots-child parent x dots dots_a.0))
        (of_roles-role (child parent y) (no_dots-child parent y dots dots_b.0)))
  ]

-- ---- holdings

-- the holding without its framework
abbrev unnamed : Holding → Holding
unnamed h = record h { client = record h.client { framework = [] } }

unnamed-all : (os : List OfferRow) (ts : List TaskRow)
    → map unnamed (map holding_of_offer os ++ map holding_of_task ts) ≡ map holding_of_offer (map unnamed_offer os) ++ map holding_of_task (map unnamed_task ts)
unnamed-all os ts =
    map-append unnamed (map holding_of_offer os) (map holding_of_task ts)
    ∙ (λ i. (map-map unnamed holding_of_offer os ∙ sym (map-map holding_of_offer unnamed_offer os)) i
    ++ (map-map unnamed holding_of_task ts ∙ sym (map-map holding_of_task unnamed_task ts)) i)

held-unnamed : (node : Path) → IsOfRoles node → (hs : List Holding) (label : Text)
    → held_where (is_under node) (map unnamed hs) label ≡ held_where (is_under node) hs label
held-unnamed node roles [] label = refl
held-unnamed node roles (h ∷ hs) label =
    held_where-cons (is_under node) (unnamed h) (map unnamed hs) label
    ∙ (λ i. cond (roles h.client.role [] h.client.framework i) (amount_in label h) 0 + held-unnamed node roles hs label i)
    ∙ sym (held_where-cons (is_under node) h hs label)

parts-unnamed : (agent : Text) (hs : List Holding) → parts_on agent (map unnamed hs) ≡ parts_on agent hs
parts-unnamed agent [] = refl
parts-unnamed agent (h ∷ hs) = elim (cases_Bool (same_text h.agent agent)) [
  | inl here ↦ rw here (ap (λ (parts : List (List Resource)). h.bundle ∷ parts) (parts-unnamed agent hs))
  | inr past ↦ rw past (parts-unnamed agent hs)
]

module _ (rows other : Rows) (alike : StandAlike rows other) where
  holdings-alike : map unnamed (holdings_of other) ≡ map unnamed (holdings_of rows)
  holdings-alike =
      unnamed-all other.offers other.tasks
      ∙ (λ i. map holding_of_offer (alike.offers i) ++ map holding_of_task (alike.tasks i))
      ∙ sym (unnamed-all rows.offers rows.tasks)

  held-alike : (node : Path) → IsOfRoles node → (label : Text) → held_by other node label ≡ held_by rows node label
  held-alike node roles label =
      sym (held-unnamed node roles (holdings_of other) label)
      ∙ ap (λ (hs : List Holding). held_where (is_under node) hs label) holdings-alike
      ∙ held-unnamed node roles (holdings_of rows) label

  free-alike : (agent : AgentRow) → free_of other agent ≡ free_of rows agent
  unfolding free_of
  free-alike agent =
      ap (rest_of_all agent.total)
      (sym (parts-unnamed agent.name (holdings_of other)) ∙ ap (parts_on agent.name) holdings-alike ∙ parts-unnamed agent.name (holdings_of rows))

  consumption-alike : (role : Path) (label : Text) → consumption other role label ≡ consumption rows role label
  consumption-alike role label =
      let of_one : Holding → ℕ = λ h. if is_within role h.client.role then unreserved_in label h.bundle else 0 in
      λ i.
      (sym (sum_by-map of_one unnamed (holdings_of other)) ∙ ap (sum_by of_one) holdings-alike ∙ sum_by-map of_one unnamed (holdings_of rows)) i
      + reserved_for (is_within role) (alike.agents i) label

  -- ---- grants

  -- the bundle, if it is large enough to be offered
  abbrev if_worth : List Resource → Option (List Resource)
  if_worth bundle = if is_allocatable bundle && not false then Some bundle else None

  pub grant-alike : (agent : AgentRow) (c d : Client) → d.role ≡ c.role → grant other agent d ≡ grant rows agent c
  grant-alike agent c d same =
      (λ i. let bundle : List Resource = entitlement other (free_of other agent) d in
      if is_allocatable bundle && not (unheld other.clock other.filters alike.unfiltered_too other.clock (omega arith) d agent.name bundle i) then Some bundle else None)
      ∙ ap if_worth
      (λ i. clip (headrooms (alike.limits i) (λ role label. consumption-alike role label i) (same i)) (part_for (same i) (free-alike agent i)))
      ∙ (λ i. let bundle : List Resource = entitlement rows (free_of rows agent) c in
      if is_allocatable bundle && not (sym (unheld rows.clock rows.filters alike.unfiltered rows.clock (omega arith) c agent.name bundle) i) then Some bundle else None)

  -- ---- which client comes first

  pub stands-alike : (a b c d : Client) → NoDots a.role → NoDots b.role → same_path a.role b.role ≡ false → c.role ≡ a.role → d.role ≡ b.role
      → stands_before_below (rows_word.standing_of other) [] (path_of c) (path_of d) ≡ stands_before_below (rows_word.standing_of rows) [] (path_of a) (path_of b)
  unfolding rows_word.standing_of
  stands-alike a b c d dots_a dots_b apart same_a same_b =
      (λ i. stands_before_below (rows_word.standing_of other) [] (client_path (same_a i) c.framework) (client_path (same_b i) d.framework))
      ∙ before-alike (rows_word.standing_of rows) (rows_word.standing_of other) held-alike alike.counts (ap weight_of alike.weights)
      (ap cluster_total alike.agents) [] a.role b.role c.framework d.framework a.framework b.framework tt dots_a dots_b apart

-- ---- one more offer

pub offer-alike : (rows other : Rows) (agent : AgentRow) (c d : Client) (bundle : List Resource) → IsConsistent rows → IsConsistent other
    → StandAlike rows other → d.role ≡ c.role → is_registered rows.frameworks c ≡ true → is_registered other.frameworks d ≡ true
    → StandAlike (with_offer rows (new_offer rows agent c bundle)) (with_offer other (new_offer other agent d bundle))
unfolding with_offer
offer-alike rows other agent c d bundle consistent right alike same known registered = record {
  agents = alike.agents;
  weights = alike.weights;
  limits = alike.limits;
  next_offer = ap (λ n. n + 1) alike.next_offer;
  offers =
      map-append unnamed_offer other.offers (new_offer other agent d bundle ∷ [])
      ∙ (λ i. alike.offers i
      ++ (record { number = alike.next_offer i; agent = agent.name; framework = []; role = same i; bundle = bundle }) ∷ [])
      ∙ sym (map-append unnamed_offer rows.offers (new_offer rows agent c bundle ∷ []));
  tasks = alike.tasks;
  parts = λ role.
      ap (list_any (λ k. same_path k.role role)) (active_clients-with_offer other (new_offer other agent d bundle))
      ∙ alike.parts role
      ∙ sym (ap (list_any (λ k. same_path k.role role)) (active_clients-with_offer rows (new_offer rows agent c bundle)));
  counts = λ node roles.
      count-with_offer other (new_offer other agent d bundle) node
      ∙ (λ i. alike.counts node roles i + cond (begins node roles i) (once i) 0)
      ∙ sym (count-with_offer rows (new_offer rows agent c bundle) node);
  unfiltered = alike.unfiltered;
  unfiltered_too = alike.unfiltered_too;
}
  where
    begins : (node : Path) → IsOfRoles node → begins_with (path_of d) node ≡ begins_with (path_of c) node
    begins node roles = ap (λ (role : Path). begins_with (client_path role d.framework) node) same ∙ roles c.role d.framework c.framework

    once : times_registered other.frameworks d ≡ times_registered rows.frameworks c
    once = registered_once other.frameworks d right.frameworks registered ∙ sym (registered_once rows.frameworks c consistent.frameworks known)

-- ---- an active client has a role

pub roles_of : (rows : Rows) → IsConsistent rows → AllByRecursion (λ c. NoDots c.role) (active_clients rows)
roles_of rows consistent = all rows.frameworks consistent.frameworks.each
  where
    one : (f : FrameworkRow) (cs : List ClientRow) → AllByRecursion IsRole (map (λ c. c.role) cs)
        → AllByRecursion (λ (c : Client). NoDots c.role) (map (client_of f) (filter (λ c. not c.suppressed) cs))
    one f [] each = tt
    one f (c ∷ cs) each = by c.suppressed (one f cs each.1)
      where
        by : (b : Bool) → AllByRecursion (λ (c : Client). NoDots c.role) (map (client_of f) (filter (λ c. not c.suppressed) cs))
            → AllByRecursion (λ (c : Client). NoDots c.role) (map (client_of f) (cond (not b) (c ∷ filter (λ c. not c.suppressed) cs) (filter (λ c. not c.suppressed) cs)))
        by true later = later
        by false later = (no_dots-role c.role each.0, later)

    all : (fs : List FrameworkRow) → AllByRecursion IsFramework fs
        → AllByRecursion (λ (c : Client). NoDots c.role) (flat_map (λ f. map (client_of f) (filter (λ c. not c.suppressed) f.clients)) fs)
    all [] each = tt
    all (f ∷ fs) each =
        each_append (λ (c : Client). NoDots c.role) (map (client_of f) (filter (λ c. not c.suppressed) f.clients))
        (flat_map (λ f. map (client_of f) (filter (λ c. not c.suppressed) f.clients)) fs)
        (one f f.clients each.0.roles) (all fs each.1)
