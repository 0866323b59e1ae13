-- Adding entries with the amount 0 to the nodes above a client.
use Rattle.std.specs.List.{list_all}
use Rattle.std.proofs.Common.{refl, sym, ap, subst, ◌∙◌, inl, inr, arith, get_or, length-set, ◌≡◌, ◌<◌, ◌+◌, ℕ, zero, suc, Bool, cond, false, true, ◌||◌, ◌⊎◌, IsTrue, List, [], ◌∷◌, Some, length, nat_lt, slice_get, slice_index_or, slice_set, take}
use Rattle.std.proofs.lemmas.Bool.{ltb-true, true≢false, cases_eq, and_from, and_parts}
use Rattle.std.proofs.lemmas.Option.{slice_get_within, slice_get-get_or}
use Rattle.drf_tree.proofs.Names.{amount_of, is_named, names_all, with_amount, Entry, Text, same_text, cases_same, same_itself, Path, Content, Sum, Tree, IsShapeOf, NamesFew, NamesFewOnWay, OnWay, is_live, path_at, AreRight, IsSumOf, IsTreeOf}
use Rattle.drf_bundle.proofs.theorems.QuantitiesLaws.{amount-with, named-with}
use Rattle.drf_tree.proofs.change.Climb.{IsClimbing, climb_end, live_on_way, on_way, some_part}
use Rattle.drf_tree.proofs.sums.Move.{AreMoved, IsMoved, none, not_moved, sum_after}
use Rattle.drf_tree.proofs.shape.Slice.{get_set_same, get_set_other}
use Rattle.drf_tree.proofs.change.Tree.{shape_again, tree_from}

-- ---- one more entry

pub nothing_of : (es : List Entry) (label : Text) → is_named es label ≡ false → amount_of es label ≡ 0
nothing_of [] label missing = refl
nothing_of (e ∷ es) label missing = by (same_text e.label label) missing (nothing_of es label)
  where
    by : (b : Bool) → (b || is_named es label) ≡ false → (is_named es label ≡ false → amount_of es label ≡ 0)
        → cond b e.amount (amount_of es label) ≡ 0
    by true other rest = absurd (true≢false other)
    by false other rest = rest other

pub named_zero : (es : List Entry) (label : Text) → is_named es label ≡ false → (other : Text)
    → amount_of (with_amount es label 0) other ≡ amount_of es other
named_zero es label missing other = amount-with es label 0 other ∙ elim (cases_same label other) [
  | inl same ↦ rw same.0 (sym (nothing_of es other (ap (is_named es) (sym same.1) ∙ missing)))
  | inr differ ↦ rw differ.0 refl
]

pub named_now : (es : List Entry) (label : Text) → is_named (with_amount es label 0) label ≡ true
named_now es label = named-with es label 0 label ∙ ap (λ (b : Bool). b || is_named es label) (same_itself label)

pub named_still : (es : List Entry) (label other : Text) → is_named es other ≡ true
    → is_named (with_amount es label 0) other ≡ true
named_still es label other named = named-with es label 0 other ∙ by (same_text label other) named
  where
    by : (b : Bool) → is_named es other ≡ true → (b || is_named es other) ≡ true
    by true so = refl
    by false so = so

-- no other label gets an entry
pub named_few : (es : List Entry) (label other : Text) → is_named (with_amount es label 0) other ≡ true
    → (is_named es other ≡ true) ⊎ (same_text label other ≡ true)
named_few es label other named = by (same_text label other) refl (sym (named-with es label 0 other) ∙ named)
  where
    by : (b : Bool) → same_text label other ≡ b → (b || is_named es other) ≡ true
        → (is_named es other ≡ true) ⊎ (same_text label other ≡ true)
    by true same so = inr same
    by false differ so = inl so

-- the label of an entry has an entry
pub named_at : (es : List Entry) (i : ℕ) (e : Entry) (label : Text) → i < length es → e ≡ get_or es i e
    → same_text e.label label ≡ true → is_named es label ≡ true
named_at [] i e label within is same = absurd (omega (arith, within))
named_at (x ∷ es) zero e label within is same =
    ap (λ (y : Entry). same_text y.label label || is_named es label) (sym is)
    ∙ ap (λ (b : Bool). b || is_named es label) same
named_at (x ∷ es) (suc i) e label within is same =
    ap (λ (b : Bool). same_text x.label label || b) (named_at es i e label (omega (arith, within)) is same)
    ∙ or_true (same_text x.label label)
  where
    or_true : (b : Bool) → (b || true) ≡ true
    or_true true = refl
    or_true false = refl

-- if no amount is 0, each label with an entry has an amount above 0
pub above_zero : (es : List Entry) (label : Text) → IsTrue (list_all (λ e. nat_lt 0 e.amount) es) → is_named es label ≡ true
    → 0 < amount_of es label
above_zero [] label above named = absurd (true≢false (sym named))
above_zero (e ∷ es) label above named = by (same_text e.label label) named (λ so. above_zero es label parts.1 so)
  where
    parts : (nat_lt 0 e.amount ≡ true) × (list_all (λ e. nat_lt 0 e.amount) es ≡ true)
    parts = and_parts (nat_lt 0 e.amount) (list_all (λ e. nat_lt 0 e.amount) es) above

    by : (b : Bool) → (b || is_named es label) ≡ true → (is_named es label ≡ true → 0 < amount_of es label)
        → 0 < cond b e.amount (amount_of es label)
    by true so rest = ltb-true 0 e.amount parts.0
    by false so rest = rest so

names_next : (old new es : List Entry) (i : ℕ) (e : Entry) → i < length es → e ≡ get_or es i e
    → ((other : Text) → is_named old other ≡ true → is_named new other ≡ true) → is_named new e.label ≡ true
    → names_all old (take i es) ≡ true → names_all new (take (suc i) es) ≡ true
names_next old new [] i e within is stay named all = absurd (omega (arith, within))
names_next old new (x ∷ es) zero e within is stay named all =
    and_from (is_named new x.label) true (ap (λ (y : Entry). is_named new y.label) (sym is) ∙ named) refl
names_next old new (x ∷ es) (suc i) e within is stay named all =
    let parts = and_parts (is_named old x.label) (names_all old (take i es)) all in
    and_from (is_named new x.label) (names_all new (take (suc i) es)) (stay x.label parts.0)
    (names_next old new es i e (omega (arith, within)) is stay named parts.1)

pub names_more : (old new es : List Entry) (i : ℕ) (e : Entry) → i < length es → e ≡ get_or es i e
    → ((other : Text) → is_named old other ≡ true → is_named new other ≡ true) → is_named new e.label ≡ true
    → names_all old (take i es) ≡ true → names_all new (take (i + 1) es) ≡ true
names_more old new es i e within is stay named all =
    let more : suc i ≡ i + 1 = omega arith in
    subst (λ (k : ℕ). names_all new (take k es) ≡ true) more (names_next old new es i e within is stay named all)

-- ---- sums with the same amounts, perhaps with more entries

pub record AreSame (old now : List Sum) : Type 0 where
  pub long : length now ≡ length old
  pub each : (i : ℕ) (s t : Sum) → slice_get old i ≡ Some s → slice_get now i ≡ Some t → IsMoved none none s t

pub are_same : (sums : List Sum) → AreSame sums sums
are_same sums = record {
  long = refl;
  each = λ i s t before after.
      let one : s ≡ t = cc in
      subst (IsMoved none none s) one (not_moved s);
}

pub same_held : (s : Sum) (held : List Entry) → ((label : Text) → amount_of held label ≡ amount_of s.held label)
    → IsMoved none none s (record s { held = held })
same_held s held same = record {
  held = λ label. omega (arith, same label);
  count = refl;
  clients = refl;
  active = refl;
  weight = refl;
}

same_twice : (s t u : Sum) → IsMoved none none s t → IsMoved none none t u → IsMoved none none s u
same_twice s t u first second = record {
  held = λ label. omega (arith, first.held label, second.held label);
  count = omega (arith, first.count, second.count);
  clients = omega (arith, first.clients, second.clients);
  active = omega (arith, first.active, second.active);
  weight = second.weight ∙ first.weight;
}

pub same_set : (old now : List Sum) (node : ℕ) (t u : Sum) → AreSame old now → slice_get now node ≡ Some t
    → IsMoved none none t u → AreSame old (slice_set now node u)
same_set old now node t u so at moved = record {
  long = length-set now node u ∙ so.long;
  each = λ i s v before after. elim (cases_eq i node) [
    | inl same ↦
        let put : slice_get (slice_set now node u) i ≡ Some u =
        ap (slice_get (slice_set now node u)) same ∙ get_set_same now node u (slice_get_within now node t at) in
        let is : u ≡ v = cc in
        let was : slice_get now i ≡ Some t = ap (slice_get now) same ∙ at in
        subst (IsMoved none none s) is (same_twice s t u (so.each i s t before was) moved)
    | inr other ↦ so.each i s v before (sym (get_set_other now node i u other) ∙ after)
  ];
}

-- the tree still has the sums of the same clients
pub same_tree : (content : Content) (old now : Tree) → IsTreeOf content old → now.places ≡ old.places
    → now.families ≡ old.families → now.marks ≡ old.marks → AreSame old.sums.items now.sums.items → IsTreeOf content now
same_tree content old now tree places families marks so =
    let stale : now.marks.stale ≡ old.marks.stale = λ i. (marks i).stale in
    tree_from content old now places families tree.paths tree.distinct
    (shape_again old.places.items old.families.items old.marks.stale now.marks.stale old.sums.items now.sums.items tree.shape
    (λ i. length (stale i)) so.long
    (λ i marked. tree.shape.unmarked i (ap (λ flags. slice_index_or flags i false) (sym stale) ∙ marked)))
    sums_now tree.complete
    (subst (AreRight content old.places.items old.families.items) (sym stale) tree.right)
  where
    stays : (node : Path) → AreMoved none none content content node
    stays node = record { held = λ label. refl; count = refl; clients = refl; active = refl; weight = refl }

    sums_now : (i : ℕ) (t : Sum) → is_live old.places.items i ≡ true → slice_get now.sums.items i ≡ Some t
        → IsSumOf content (path_at old.places.items i) t
    sums_now i t live at =
        let within : i < length old.sums.items = omega (arith, slice_get_within now.sums.items i t at, so.long) in
        let s : Sum = get_or old.sums.items i t in
        let was : slice_get old.sums.items i ≡ Some s = slice_get-get_or old.sums.items i t within in
        sum_after none none content content (path_at old.places.items i) s t (tree.sums i s live was)
        (stays (path_at old.places.items i)) (so.each i s t was at)

-- a node has entries for all labels of `others`, and few more
abbrev pub IsNamed : List Entry → ℕ → Sum → Sum → Type 0
IsNamed quantities i s t = (names_all t.held quantities ≡ true) × NamesFew quantities s.held t.held

-- at the end each node above the leaf has an entry for each label
pub named_end : (old now : Tree) → IsShapeOf old → (leaf node : ℕ) (quantities : List Entry)
    → IsClimbing old now leaf node (IsNamed quantities) → node ≡ 0
    → OnWay now leaf (λ s. names_all s.held quantities ≡ true)
named_end old now shape leaf node quantities so root i t on at =
    let done = climb_end old now shape leaf node (IsNamed quantities) so root in
    let way : on_way old.places.items leaf i ≡ true = ap (λ (v : _). on_way v.items leaf i) (sym so.places) ∙ on in
    let live = (live_on_way old.places.items leaf i way).0 in
    let within : i < length old.sums.items = omega (arith, slice_get_within now.sums.items i t at, done.long) in
    let named =
    done.passed i (get_or old.sums.items i t) t way
    (some_part old.places.items old.families.items old.marks.stale old.sums.items shape leaf i live)
    (slice_get-get_or old.sums.items i t within) at in
    named.0

-- and no others, except labels of which something is held
pub few_end : (old now : Tree) → IsShapeOf old → (leaf node : ℕ) (quantities : List Entry)
    → IsClimbing old now leaf node (IsNamed quantities) → node ≡ 0 → NamesFewOnWay old now leaf quantities
few_end old now shape leaf node quantities so root i s t on was at =
    let done = climb_end old now shape leaf node (IsNamed quantities) so root in
    let live = (live_on_way old.places.items leaf i on).0 in
    let named =
    done.passed i s t on
    (some_part old.places.items old.families.items old.marks.stale old.sums.items shape leaf i live) was at in
    named.1
