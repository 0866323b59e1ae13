-- A walk by frames, step by step: the clients that are left stay the same, and the number of steps that are left decreases.
use Rattle.std.proofs.Common.{refl, sym, ap, ◌∙◌, append_assoc, arith, ◌≡◌, ◌+◌, ℕ, zero, suc, List, [], ◌∷◌, ◌++◌, None, Some, drop, flat_map, length, slice_get, sum_by, append-nil}
use Rattle.std.proofs.lemmas.Option.{same_Some}
use Rattle.drf_tree.proofs.Names.{Path, Frame, pending, walk}

-- ---- lists by place

pub drop_past : {X : Type 0} (xs : List X) (i : ℕ) → slice_get xs i ≡ None → drop i xs ≡ []
drop_past [] zero none = refl
drop_past [] (suc i) none = refl
drop_past (x ∷ xs) zero none = absurd cc
drop_past (x ∷ xs) (suc i) none = drop_past xs i none

pub drop_next : {X : Type 0} (xs : List X) (i : ℕ) (x : X) → slice_get xs i ≡ Some x → drop i xs ≡ x ∷ drop (i + 1) xs
drop_next [] i x some = absurd cc
drop_next (y ∷ ys) zero x some = ap (λ (z : _). z ∷ ys) (same_Some y x some)
drop_next (y ∷ ys) (suc i) x some = let next : suc i + 1 ≡ suc (i + 1) = omega arith in rw next (drop_next ys i x some)

-- ---- the clients that are left

module _ (clients : List Path) (path : ℕ → Path) (family : ℕ → List ℕ) where
  abbrev pub Walked : ℕ → ℕ → List Path
  Walked m x = walk clients path family m x

  abbrev pub Pending : ℕ → List Frame → List Path
  Pending n frames = pending clients path family n frames

  -- the clients of the later frames come first
  pub pending_apart : (prefix rest : List Frame) (m n : ℕ) → n ≡ length prefix + m
      → Pending n (prefix ++ rest) ≡ Pending m rest ++ Pending n prefix
  pending_apart [] rest m n deep =
      let same : n ≡ m = omega (arith, deep) in
      ap (λ (k : ℕ). Pending k rest) same ∙ sym (append-nil (Pending m rest))
  pending_apart (g ∷ prefix) rest m zero deep = absurd (omega (arith, deep))
  pending_apart (g ∷ prefix) rest m (suc n) deep =
      let above : List Path = flat_map (Walked n) (drop g.next (family g.node)) in
      ap (λ (ps : List Path). ps ++ above) (pending_apart prefix rest m n (omega (arith, deep)))
      ∙ append_assoc (Pending m rest) (Pending n prefix) above

  -- the clients of the last frame are those left in its family
  pub pending_last : (prefix : List Frame) (f : Frame) (m n : ℕ) → n ≡ length prefix + suc m
      → Pending n (prefix ++ f ∷ []) ≡ flat_map (Walked m) (drop f.next (family f.node)) ++ Pending n prefix
  pending_last prefix f m n deep = pending_apart prefix (f ∷ []) (suc m) n deep

-- ---- the steps that are left

-- the steps to visit a node and everything up to `n` parts below it
abbrev pub size : (ℕ → List ℕ) → ℕ → ℕ → ℕ
size family zero x = 2
size family (suc n) x = 2 + sum_by (size family n) (family x)

-- the steps to visit the rest of each frame, the root's first
abbrev pub left : (ℕ → List ℕ) → ℕ → List Frame → ℕ
left family depth [] = 0
left family zero (f ∷ frames) = 0
left family (suc n) (f ∷ frames) = 1 + sum_by (size family n) (drop f.next (family f.node)) + left family n frames

pub left_last : (family : ℕ → List ℕ) (prefix : List Frame) (f : Frame) (m n : ℕ) → n ≡ length prefix + suc m
    → left family n (prefix ++ f ∷ []) ≡ 1 + sum_by (size family m) (drop f.next (family f.node)) + left family n prefix
left_last family [] f m zero deep = absurd (omega (arith, deep))
left_last family [] f m (suc n) deep =
    let same : n ≡ m = omega (arith, deep) in
    ap (λ (k : ℕ). 1 + sum_by (size family k) (drop f.next (family f.node)) + 0) same
left_last family (g ∷ prefix) f m zero deep = absurd (omega (arith, deep))
left_last family (g ∷ prefix) f m (suc n) deep =
    omega (arith, left_last family prefix f m n (omega (arith, deep)))
