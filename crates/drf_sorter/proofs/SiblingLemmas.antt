-- Siblings that differ only in their names.
use Rattle.std.proofs.Common.{◌≡◌, ◌*◌, ℕ, true, IsTrue, List, [], ◌∷◌, ◌++◌, ◌&&◌, ◌||◌, ◌==◌, nat_lt, sym, ap, ◌∙◌}
use Rattle.std.proofs.lemmas.Bool.{or_right, and_from, eq-eqb}
use Rattle.std.proofs.lemmas.List.{append-nil, append_assoc}
use Rattle.drf_role.specs.Text.{text_below}
use Rattle.drf_role.specs.TextLaws.{same_itself}
use Rattle.drf_role.proofs.TextLaws.{below_other}
use Rattle.drf_rows.specs.Share.{Standing, is_ahead, is_less, is_same, stands_before, stands_before_below, weighted_share_of}
use Rattle.drf_sorter.specs.Fractions.{dominant_of, weigh}

-- the parts that two paths share do not decide
after_shared : (s : Standing) (above shared xs ys : List (List ℕ))
    → stands_before_below s above (shared ++ xs) (shared ++ ys) ≡ stands_before_below s (above ++ shared) xs ys
after_shared s above [] xs ys = ap (λ node. stands_before_below s node xs ys) (sym (append-nil above))
after_shared s above (x ∷ shared) xs ys =
    rw (same_itself x)
    (after_shared s (above ++ x ∷ []) shared xs ys
    ∙ ap (λ node. stands_before_below s node xs ys) (append_assoc above (x ∷ []) shared))

module _ (s : Standing) (parent : List (List ℕ)) (a b : List ℕ) where
  ahead_by_name : weighted_share_of s (parent ++ a ∷ []) ≡ weighted_share_of s (parent ++ b ∷ [])
      → s.count (parent ++ a ∷ []) ≡ s.count (parent ++ b ∷ []) → IsTrue (text_below a b)
      → is_ahead s parent a b ≡ true
  unfolding is_ahead
  ahead_by_name shares counts below =
      let f = weighted_share_of s (parent ++ a ∷ []) in
      let g = weighted_share_of s (parent ++ b ∷ []) in
      let m = s.count (parent ++ a ∷ []) in
      let n = s.count (parent ++ b ∷ []) in
      or_right (is_less f g) (is_same f g && (nat_lt m n || (m == n && text_below a b)))
      (and_from (is_same f g) (nat_lt m n || (m == n && text_below a b))
      (eq-eqb (f.part * g.whole) (g.part * f.whole) (λ i. (shares i).part * (sym shares i).whole))
      (or_right (nat_lt m n) (m == n && text_below a b) (and_from (m == n) (text_below a b) (eq-eqb m n counts) below)))

  pub lesser_name_first : (below_a below_b : List (List ℕ))
      → s.weight (parent ++ a ∷ []) ≡ s.weight (parent ++ b ∷ [])
      → ((label : List ℕ) → s.held (parent ++ a ∷ []) label ≡ s.held (parent ++ b ∷ []) label)
      → s.count (parent ++ a ∷ []) ≡ s.count (parent ++ b ∷ []) → IsTrue (text_below a b)
      → IsTrue (stands_before s (parent ++ a ∷ below_a) (parent ++ b ∷ below_b))
  lesser_name_first below_a below_b weights held counts below =
      let shares : weighted_share_of s (parent ++ a ∷ []) ≡ weighted_share_of s (parent ++ b ∷ []) =
      λ i. weigh (dominant_of (λ label. held label i) s.total) (weights i) in
      after_shared s [] parent (a ∷ below_a) (b ∷ below_b)
      ∙ rw (below_other a b below) (ahead_by_name shares counts below)
