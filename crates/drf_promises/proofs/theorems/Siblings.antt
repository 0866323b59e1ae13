-- How far siblings come apart by one offer; only sums decide their order; and a client that holds more is served later.
use Rattle.std.specs.Prelude.{◌≡◌, ℕ, ◌*◌, ◌≤◌, Bool, true, false, ◌&&◌, ◌||◌, List, [], ◌∷◌, ◌++◌, nat_lt, ◌==◌}
use Rattle.std.proofs.Common.{refl, sym, ap, subst, ◌∙◌, inl, inr, arith, append_assoc, cond}
use Rattle.std.proofs.lemmas.Bool.{cases_Bool, and_parts, or_cases, ltb-true, ltb-false, eqb-true, true≢false}
use Rattle.std.proofs.lemmas.Bool.Decides.{nat_tests}
use Rattle.drf_role.specs.Text.{Text, text_below, same_text}
use Rattle.drf_role.specs.TextLaws.{same_itself, same_from_test}
use Rattle.drf_role.specs.PathLaws.{same_path-true}
use Rattle.drf_role.specs.Path.{Path, begins_with, same_path}
use Rattle.drf_bundle.specs.declared.quantities.Entry.{Entry}
use Rattle.drf_rows.specs.Share.{Fraction, Standing, is_less, is_same, share_of, weighted_share_of, is_ahead, stands_before_below}
use Rattle.drf_rows.specs.Cycle.{with_offer}
use Rattle.drf_rows.specs.Held.{count_of, held_by, weight_of}
use Rattle.drf_rows.specs.Holdings.{amount_in, is_under, holding_of_offer}
use Rattle.drf_rows.specs.Held as rows_word
use Rattle.drf_rows.specs.Client.{Client, path_of}
use Rattle.drf_rows.specs.Step.{effect}
use Rattle.drf_row_laws.proofs.ConsistentLaws.{same_text-swap, times_registered}
use Rattle.drf_row_laws.proofs.HoldingsLaws.{held_where-with_offer}
use Rattle.drf_row_laws.proofs.WeightLaws.{weight_of-in_range, role_has_its_weight, others_keep_their_weight}
use Rattle.drf_rows.specs.declared.event.Event.TheVariants.{SetWeight}
use Rattle.drf_rows.specs.declared.rows.Rows.{Rows}
use Rattle.drf_sorter.specs.Fractions.{dominant_of, weigh}
use Rattle.drf_sorter.specs.Served.{Weighs}
use Rattle.drf_sorter.proofs.theorems.OrderLaws.{greatest_above, weighted_share-above}
use Rattle.drf_promises.specs.Siblings.{child, AtMost, AtMostSum, OneOfferApart, SumsDecide, HoldsMore, MoreIsLater, OfferIsLater, WeightIsNotLater}
use Rattle.drf_promises.proofs.theorems.Counts.{count-with_offer}
use Rattle.drf_promises.proofs.theorems.Shares.{dominant_grows, dominant_sum, weighed_grows, weighed_sum, most_trans}

-- a node that is ahead has at most the same weighted share
pub ahead_at_most : (s : Standing) (parent : Path) (a b : Text) → is_ahead s parent a b ≡ true
    → AtMost (weighted_share_of s (child parent a)) (weighted_share_of s (child parent b))
unfolding is_ahead
ahead_at_most s parent a b ahead =
    let A : Fraction = weighted_share_of s (child parent a) in
    let B : Fraction = weighted_share_of s (child parent b) in
    elim (or_cases (is_less A B) _ ahead) [
      | inl less ↦ let below = ltb-true (A.part * B.whole) (B.part * A.whole) less in omega (arith, below)
      | inr tied ↦ let same = eqb-true (A.part * B.whole) (B.part * A.whole) (and_parts (is_same A B) _ tied).0 in omega (arith, same)
    ]

-- in terms of the new share, weight and total
pub one_offer_apart : OneOfferApart
one_offer_apart s t parent a b amounts ahead more =
    let A : Path = child parent a in
    let B : Path = child parent b in
    subst (λ (p : List Entry × ℕ). AtMostSum (weigh (dominant_of (t.held A) p.0) p.1) (weighted_share_of s B) (weigh (dominant_of amounts s.total) (s.weight A)))
    (λ i. (sym more.total i, sym more.weight i))
    (weighed_sum (dominant_of (t.held A) s.total) (share_of s A) (dominant_of amounts s.total) (share_of s B) (s.weight A) (s.weight B)
    (greatest_above (s.held A) s.total) (dominant_sum (t.held A) (s.held A) amounts more.held s.total) (ahead_at_most s parent a b ahead))

-- ---- only sums decide

pub sums_decide : SumsDecide
unfolding is_ahead
sums_decide s t parent a b same_a same_b total = λ i.
    let A : Fraction = weigh (dominant_of (λ label. same_a.held label i) (total i)) (same_a.weight i) in
    let B : Fraction = weigh (dominant_of (λ label. same_b.held label i) (total i)) (same_b.weight i) in
    is_less A B || (is_same A B && (nat_lt (same_a.count i) (same_b.count i) || (same_a.count i == same_b.count i && text_below a b)))

-- ---- holding more

less_stays : (A B C D : Fraction) → 1 ≤ A.whole → 1 ≤ B.whole → 1 ≤ C.whole → 1 ≤ D.whole → AtMost C A → AtMost B D → is_less A B ≡ true → is_less C D ≡ true
less_stays A B C D a b c d first second less = elim (cases_Bool (is_less C D)) [
  | inl here ↦ here
  | inr past ↦
      let back : AtMost D C = ltb-false (C.part * D.whole) (D.part * C.whole) past in
      let most : AtMost B A = most_trans B D A d second (most_trans D C A c back first) in
      absurd (omega (arith, most, ltb-true (A.part * B.whole) (B.part * A.whole) less))
]

-- comparing shares p and q, then counts m and n, then names
rank_stays : (p q r s m n j k : ℕ) (l : Bool) → (nat_lt p q ≡ true → nat_lt r s ≡ true) → ((p == q) ≡ true → r ≤ s) → j ≤ m → n ≤ k
    → (nat_lt p q || ((p == q) && (nat_lt m n || ((m == n) && l)))) ≡ true
    → (nat_lt r s || ((r == s) && (nat_lt j k || ((j == k) && l)))) ≡ true
rank_stays p q r s m n j k l less tied before after ahead = grind (arith, nat_tests)

pub share_grows : (s t : Standing) (node : Path) → t.total ≡ s.total → ((label : Text) → s.held node label ≤ t.held node label)
    → t.weight node ≤ s.weight node → AtMost (weighted_share_of s node) (weighted_share_of t node)
share_grows s t node total more lighter =
    subst (λ (es : List Entry). AtMost (weighted_share_of s node) (weigh (dominant_of (t.held node) es) (t.weight node))) (sym total)
    (weighed_grows (share_of s node) (dominant_of (t.held node) s.total) (s.weight node) (t.weight node)
    (dominant_grows (s.held node) (t.held node) more s.total) lighter)

module _ (s t : Standing) (weighs : Weighs s) (weigh_still : Weighs t) (total : t.total ≡ s.total) where
  ahead_stays : (parent : Path) (a b : Text) → HoldsMore t s (child parent a) → HoldsMore s t (child parent b)
      → is_ahead s parent a b ≡ true → is_ahead t parent a b ≡ true
  unfolding is_ahead
  ahead_stays parent a b less more ahead =
      let A : Fraction = weighted_share_of s (child parent a) in
      let B : Fraction = weighted_share_of s (child parent b) in
      let C : Fraction = weighted_share_of t (child parent a) in
      let D : Fraction = weighted_share_of t (child parent b) in
      let above : (node : Path) → 1 ≤ (weighted_share_of s node).whole = λ node. weighted_share-above s node (weighs node) in
      let above_still : (node : Path) → 1 ≤ (weighted_share_of t node).whole = λ node. weighted_share-above t node (weigh_still node) in
      let first : AtMost C A = share_grows t s (child parent a) (sym total) less.held less.weight in
      let second : AtMost B D = share_grows s t (child parent b) total more.held more.weight in
      rank_stays (A.part * B.whole) (B.part * A.whole) (C.part * D.whole) (D.part * C.whole) (s.count (child parent a)) (s.count (child parent b))
      (t.count (child parent a)) (t.count (child parent b)) (text_below a b)
      (less_stays A B C D (above (child parent a)) (above (child parent b)) (above_still (child parent a)) (above_still (child parent b)) first second)
      (λ same. let tied : AtMost A B = omega (arith, eqb-true (A.part * B.whole) (B.part * A.whole) same) in
      most_trans C A D (above (child parent a)) first (most_trans A B D (above (child parent b)) tied second))
      less.count more.count ahead

-- ---- along paths

pub child_begins : (parent rest : Path) (x : Text) → begins_with (parent ++ x ∷ rest) (child parent x) ≡ true
child_begins [] rest x = rw (same_itself x)
child_begins (z ∷ parent) rest x = rw (same_itself z) (child_begins parent rest x)

pub child_differs : (parent rest : Path) (x y : Text) → same_text x y ≡ false → begins_with (parent ++ y ∷ rest) (child parent x) ≡ false
child_differs [] rest x y other = rw other
child_differs (z ∷ parent) rest x y other = rw (same_itself z) (child_differs parent rest x y other)

module _ (s t : Standing) (weighs : Weighs s) (weigh_still : Weighs t) (total : t.total ≡ s.total) (first second : Path)
    (less : (node : Path) → begins_with first node ≡ true → begins_with second node ≡ false → HoldsMore t s node)
    (more : (node : Path) → begins_with second node ≡ true → begins_with first node ≡ false → HoldsMore s t node) where
  before_stays : (parent a b : Path) → first ≡ parent ++ a → second ≡ parent ++ b → stands_before_below s parent a b ≡ true
      → stands_before_below t parent a b ≡ true
  before_stays parent [] b one two before = cc
  before_stays parent (x ∷ a) [] one two before = cc
  before_stays parent (x ∷ a) (y ∷ b) one two before = elim (cases_Bool (same_text x y)) [
    | inl same ↦
        let one_text : x ≡ y = same_from_test x y same in
        rw same
        (before_stays (child parent x) a b (one ∙ sym (append_assoc parent (x ∷ []) a))
        (two ∙ ap (λ (z : Text). parent ++ z ∷ b) (sym one_text) ∙ sym (append_assoc parent (x ∷ []) b)) (rw same at before))
    | inr other ↦
        let back : same_text y x ≡ false = same_text-swap y x ∙ other in
        rw other
        (ahead_stays s t weighs weigh_still total parent x y
        (less (child parent x) (ap (λ (p : Path). begins_with p (child parent x)) one ∙ child_begins parent a x)
        (ap (λ (p : Path). begins_with p (child parent x)) two ∙ child_differs parent b x y other))
        (more (child parent y) (ap (λ (p : Path). begins_with p (child parent y)) two ∙ child_begins parent b y)
        (ap (λ (p : Path). begins_with p (child parent y)) one ∙ child_differs parent a y x back))
        (rw other at before))
  ]

pub more_is_later : MoreIsLater
more_is_later s t first second weighs weigh_still total less more before =
    before_stays s t weighs weigh_still total first second less more [] first second refl refl before

-- ---- one more offer

pub offer_is_later : OfferIsLater
unfolding with_offer rows_word.standing_of
offer_is_later rows offer first consistent before =
    more_is_later (rows_word.standing_of rows) (rows_word.standing_of after) (path_of first) (path_of client)
    (λ node. weighs node) (λ node. weighs node) refl
    (λ node own other. record { held = λ label. held node label other; count = count node other; weight = omega arith })
    (λ node own other. record {
      held = λ label. omega (arith, held_where-with_offer (is_under node) rows offer label);
      count = omega (arith, count-with_offer rows offer node);
      weight = omega arith;
    }) before
  where
    after : Rows
    after = with_offer rows offer

    client : Client
    client = (holding_of_offer offer).client

    weighs : (node : Path) → 1 ≤ weight_of rows.weights node
    weighs node = (weight_of-in_range rows.weights node consistent.weights.each).0

    -- at nodes that are not its own nothing changes
    held : (node : Path) (label : Text) → begins_with (path_of client) node ≡ false → held_by after node label ≤ held_by rows node label
    held node label other =
        omega (
          arith,
          held_where-with_offer (is_under node) rows offer label,
          ap {B = ℕ} (λ b. cond b (amount_in label (holding_of_offer offer)) 0) other,
        )

    count : (node : Path) → begins_with (path_of client) node ≡ false → count_of after node ≤ count_of rows node
    count node other = omega (arith, count-with_offer rows offer node, ap {B = ℕ} (λ b. cond b (times_registered rows.frameworks client) 0) other)

-- ---- a greater weight

pub weight_is_not_later : WeightIsNotLater
unfolding effect rows_word.standing_of
weight_is_not_later rows role weight first second consistent greater within before =
    more_is_later (rows_word.standing_of rows) (rows_word.standing_of after) (path_of first) (path_of second) weighs
    (λ node. omega (arith, grows node, weighs node)) refl
    (λ node own other. record { held = λ label. omega arith; count = omega arith; weight = grows node })
    (λ node other own. record { held = λ label. omega arith; count = omega arith; weight = stays node own }) before
  where
    after : Rows
    after = effect rows (SetWeight role weight)

    weighs : (node : Path) → 1 ≤ weight_of rows.weights node
    weighs node = (weight_of-in_range rows.weights node consistent.weights.each).0

    grows : (node : Path) → weight_of rows.weights node ≤ weight_of after.weights node
    grows node = elim (cases_Bool (same_path role node)) [
      | inl same ↦
          let here : weight_of rows.weights role ≤ weight_of after.weights role = omega (arith, role_has_its_weight rows role weight, greater) in
          subst (λ (n : Path). weight_of rows.weights n ≤ weight_of after.weights n) (same_path-true role node same) here
      | inr other ↦ omega (arith, others_keep_their_weight rows role weight node other)
    ]

    stays : (node : Path) → begins_with (path_of first) node ≡ false → weight_of after.weights node ≤ weight_of rows.weights node
    stays node own = elim (cases_Bool (same_path role node)) [
      | inl same ↦
          absurd (true≢false (sym within ∙ ap (begins_with (path_of first)) (same_path-true role node same) ∙ own))
      | inr other ↦ omega (arith, others_keep_their_weight rows role weight node other)
    ]
