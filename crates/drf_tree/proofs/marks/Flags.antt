-- Setting and clearing dirty flags, one at a time.
use Rattle.std.proofs.Common.{refl, ap, ◌∙◌, arith, ◌≡◌, ◌≤◌, ◌<◌, ◌+◌, ◌-◌, ◌^◌, ℕ, min, zero, suc, Bool, true, false, List, [], ◌∷◌, cond, length, slice_index_or, slice_set}
use Rattle.std.proofs.Math.Nat.{min-le_left}
use Rattle.std.proofs.lemmas.List.Sums.{count_by-le-length, sum_by-set}
use Rattle.drf_tree.proofs.Names.{count_by-cons, Defers, Flags, Spends, marked_in}

abbrev pub one_if : Bool → ℕ
one_if flag = cond flag 1 0

pub few_marked : (stale : List Bool) → marked_in stale ≤ length stale
few_marked stale = count_by-le-length (λ flag. flag) stale

pub marked_once : (stale : List Bool) (i : ℕ) → i < length stale → slice_index_or stale i false ≡ false
    → marked_in (slice_set stale i true) ≡ marked_in stale + 1
marked_once stale i below clear =
    omega (arith, sum_by-set one_if stale i true false below, ap one_if clear)

pub marked_less : (stale : List Bool) (i : ℕ) → i < length stale → slice_index_or stale i false ≡ true
    → marked_in (slice_set stale i false) + 1 ≡ marked_in stale
marked_less stale i below marked =
    omega (arith, sum_by-set one_if stale i false false below, ap one_if marked)

-- if the count is 0, no flag is set
pub none_marked : (stale : List Bool) → marked_in stale ≡ 0 → (i : ℕ) → slice_index_or stale i false ≡ false
none_marked [] none zero = refl
none_marked [] none (suc i) = refl
none_marked (true ∷ stale) none zero = absurd (omega (arith, none, count_by-cons (λ (flag : Bool). flag) true stale))
none_marked (false ∷ stale) none zero = refl
none_marked (flag ∷ stale) none (suc i) =
    let fewer : marked_in stale ≡ 0 = omega (arith, none, count_by-cons (λ (f : Bool). f) flag stale) in
    none_marked stale fewer i

-- if no flag is set, the count is 0
pub all_clear : (stale : List Bool) → ((i : ℕ) → slice_index_or stale i false ≡ false) → marked_in stale ≡ 0
all_clear [] none = refl
all_clear (flag ∷ stale) none =
    omega (
      arith,
      count_by-cons (λ (f : Bool). f) flag stale,
      ap one_if (none zero),
      all_clear stale (λ i. none (suc i)),
    )

-- a flag that is cleared, and the others
pub down_at : (stale : List Bool) (node i : ℕ) → i ≡ node → slice_index_or (slice_set stale node false) i false ≡ false
down_at [] node i same = refl
down_at (flag ∷ stale) zero zero same = refl
down_at (flag ∷ stale) zero (suc i) same = absurd (omega (arith, same))
down_at (flag ∷ stale) (suc node) zero same = absurd (omega (arith, same))
down_at (flag ∷ stale) (suc node) (suc i) same = down_at stale node i (omega (arith, same))

-- two steps, one after the other
module _ {old mid new : Flags} {first second : ℕ} where
  pub spends-both : Spends old mid first → Spends mid new second → Spends old new (first + second)
  spends-both a b = record { made = omega (arith, a.made, b.made); work = omega (arith, a.work, b.work) }

  pub defers-both : Defers old mid first → Defers mid new second → Defers old new (first + second)
  defers-both a b = record { made = b.made ∙ a.made; work = omega (arith, a.work, b.work) }

-- a key that is computed for a flag that is cleared adds no work
pub renewed_one : (old mid new : Flags) → mid.made ≡ old.made → marked_in mid.stale + 1 ≡ marked_in old.stale
    → new.made ≡ min (mid.made + 1) (2 ^ 64 - 1) → mid.made ≤ new.made → new.stale ≡ mid.stale → Spends old new 0
renewed_one old mid new same less made no_less stale = record {
  made = omega (arith, same, no_less);
  work = omega (arith, same, less, made, min-le_left (mid.made + 1) (2 ^ 64 - 1), ap marked_in stale);
}
