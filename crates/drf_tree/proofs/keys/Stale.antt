-- A loop that computes the keys of dirty children again.
use Rattle.std.specs.List.{AllByRecursion, IsDistinct}
use Rattle.std.proofs.Common.{◌≢◌, sym, ap, subst, ◌∙◌, inl, inr, arith, get_or, ◌≡◌, ◌<◌, ◌+◌, ◌==◌, ℕ, Bool, true, false, List, [], ◌∷◌, Some, drop, length, map, slice_get, slice_index_or, slice_set, suc, take, zero}
use Rattle.std.proofs.Math.Seq.{drop-cons, map-set_same, take-suc-set}
use Rattle.std.proofs.lemmas.Bool.{true≢false, false≢true, cases_Bool, cases_eq}
use Rattle.std.proofs.lemmas.List.{drop-set-lt, get_or-set_other, length-map, length-set}
use Rattle.std.proofs.lemmas.Map.Keys.{IsDistinct-head, IsDistinct-tail}
use Rattle.drf_tree.proofs.Names.{each_append, each_from_both, list_any_at, Child, Sum, Entry, IsFresh, IsKeyed, WasRight, has_child, is_same, known, numbers_of}
use Rattle.drf_tree.proofs.marks.Flags.{down_at}
use Rattle.drf_tree.proofs.shape.SameFamily.{each_unmapped}
use Rattle.drf_tree.proofs.shape.Way.{equal_self}

-- the dirty flag is what it was
abbrev pub IsUntouched : List Bool → List Bool → Child → Type 0
IsUntouched stale now c = slice_index_or now c.node false ≡ slice_index_or stale c.node false

-- the keys of the children before position `i` are fresh
pub record AreStepped (total : List Entry) (sums : List Sum) (stale later : List Bool) (old children : List Child) (i : ℕ) : Type 0 where
  pub same : map known children ≡ map known old
  pub done : AllByRecursion (IsFresh total sums stale old) (take i children)
  pub rest : drop i children ≡ drop i old
  pub flags : AllByRecursion (IsUntouched stale later) (drop i old)
  pub once : IsDistinct is_same (numbers_of (drop i old))
  pub others : (j : ℕ) → has_child j old ≡ false → slice_index_or later j false ≡ slice_index_or stale j false
  pub down : (j : ℕ) → slice_index_or later j false ≡ true → slice_index_or stale j false ≡ true
  pub long : length later ≡ length stale

-- ---- reading a position

from_drop : {X : Type 0} (xs : List X) (i : ℕ) (x : X) (rest : List X) → drop i xs ≡ x ∷ rest → slice_get xs i ≡ Some x
from_drop [] zero x rest is = absurd cc
from_drop [] (suc i) x rest is = absurd cc
from_drop (y ∷ xs) zero x rest is = cc
from_drop (y ∷ xs) (suc i) x rest is = from_drop xs i x rest is

tail_of : {X : Type 0} (xs : List X) (i : ℕ) (x : X) (rest : List X) → drop i xs ≡ x ∷ rest → rest ≡ drop (suc i) xs
tail_of [] zero x rest is = absurd cc
tail_of [] (suc i) x rest is = absurd cc
tail_of (y ∷ xs) zero x rest is = cc
tail_of (y ∷ xs) (suc i) x rest is = tail_of xs i x rest is

module _ (total : List Entry) (sums : List Sum) (stale now : List Bool) (old children : List Child) (i : ℕ) (child d : Child)
    (was : AreStepped total sums stale now old children i) (inside : i < length old) (at : child ≡ get_or children i d) where
  below : i < length children
  below = omega (arith, inside, ap length was.same, length-map children known, length-map old known)

  first : drop i old ≡ child ∷ drop (suc i) children
  first = sym was.rest ∙ drop-cons children i d below ∙ ap (λ (c : Child). c ∷ drop (suc i) children) (sym at)

  -- the child at the position is the one that was there
  was_there : slice_get old i ≡ Some child
  was_there = from_drop old i child (drop (suc i) children) first

  rest_more : drop (suc i) children ≡ drop (suc i) old
  rest_more = tail_of old i child (drop (suc i) children) first

  parted : drop i old ≡ child ∷ drop (suc i) old
  parted = first ∙ ap (λ (cs : List Child). child ∷ cs) rest_more

  flags_parted : IsUntouched stale now child × AllByRecursion (IsUntouched stale now) (drop (suc i) old)
  flags_parted = subst (AllByRecursion (IsUntouched stale now)) parted was.flags

  once_parted : IsDistinct is_same (child.node ∷ numbers_of (drop (suc i) old))
  once_parted = subst (λ (cs : List Child). IsDistinct is_same (numbers_of cs)) parted was.once

  -- the child is one of the family
  listed : has_child child.node old ≡ true
  listed = list_any_at (λ (c : Child). c.node == child.node) old i child was_there (equal_self child.node)

  -- its key is computed again if it is dirty, and its flag is cleared
  module _ (later : List Bool) (new : Child) (named : known new ≡ known child) (cleared : later ≡ slice_set now child.node false)
      (anew : slice_index_or now child.node false ≡ true → IsKeyed total sums new)
      (kept : slice_index_or now child.node false ≡ false → new ≡ child) where
    fresh : IsFresh total sums stale old new
    fresh = elim (cases_Bool (slice_index_or now child.node false)) [
      | inl up ↦ inl (anew up)
      | inr clear ↦
          inr (subst (WasRight stale old) (sym (kept clear))
          (record { place = i; there = was_there; unmarked = sym flags_parted.0 ∙ clear }))
    ]

    other_flag : (j : ℕ) → j ≢ child.node → slice_index_or later j false ≡ slice_index_or now j false
    other_flag j other =
        ap (λ (fs : List Bool). slice_index_or fs j false) cleared ∙ get_or-set_other now child.node j false false other

    flags_more : AllByRecursion (IsUntouched stale later) (drop (suc i) old)
    flags_more =
        each_from_both (IsUntouched stale now) (λ c. is_same child.node c.node ≡ false) (IsUntouched stale later) (drop (suc i) old)
        (λ c untouched differ.
        other_flag c.node (λ same. true≢false (sym (equal_self child.node) ∙ ap (λ (n : ℕ). child.node == n) (sym same) ∙ differ))
        ∙ untouched) flags_parted.1
        (each_unmapped (λ n. is_same child.node n ≡ false) (λ c. c.node) (drop (suc i) old)
        (IsDistinct-head is_same child.node (numbers_of (drop (suc i) old)) once_parted))

    down_more : (j : ℕ) → slice_index_or later j false ≡ true → slice_index_or stale j false ≡ true
    down_more j up = elim (cases_eq j child.node) [
      | inl same ↦
          absurd (false≢true (sym (down_at now child.node j same) ∙ ap (λ (fs : List Bool). slice_index_or fs j false) (sym cleared) ∙ up))
      | inr other ↦ was.down j (sym (other_flag j other) ∙ up)
    ]

    stepped_suc : AreStepped total sums stale later old (slice_set children i new) (suc i)
    stepped_suc = record {
      same = map-set_same known children i new d (named ∙ ap known at) ∙ was.same;
      done =
          subst (AllByRecursion (IsFresh total sums stale old)) (sym (take-suc-set children i new below))
          (each_append (IsFresh total sums stale old) (take i children) (new ∷ []) was.done (fresh, tt));
      rest = drop-set-lt (suc i) children i new (omega arith) ∙ rest_more;
      flags = flags_more;
      once = IsDistinct-tail is_same child.node (numbers_of (drop (suc i) old)) once_parted;
      others = λ j none.
          other_flag j (λ same. true≢false (sym listed ∙ ap (λ (n : ℕ). has_child n old) (sym same) ∙ none)) ∙ was.others j none;
      down = down_more;
      long = ap length cleared ∙ length-set now child.node false ∙ was.long;
    }

    pub stepped : AreStepped total sums stale later old (slice_set children i new) (i + 1)
    stepped = subst (AreStepped total sums stale later old (slice_set children i new)) {x = suc i} {y = i + 1} (omega arith) stepped_suc
