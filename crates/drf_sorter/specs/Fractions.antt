-- The comparison of fractions, and shares divided by weights.
use Rattle.std.specs.Prelude.{ℕ, ◌*◌, List, map, nat_lt}
use Rattle.std.specs.declared.cmp.Ordering.{Ordering}
use Rattle.std.specs.List.{filter}
use Rattle.std.specs.Ordering.{nat_cmp}
use Rattle.drf_bundle.specs.declared.quantities.Entry.{Entry}
use Rattle.drf_role.specs.Text.{Text}
use Rattle.drf_rows.specs.Share.{Fraction, greatest}

-- fractions are compared by their cross products
abbrev pub fraction_cmp : Fraction → Fraction → Ordering
fraction_cmp a b = nat_cmp (a.part * b.whole) (b.part * a.whole)

-- a share divided by a weight in thousandths
abbrev pub weighted : ℕ → ℕ → ℕ → Fraction
weighted part whole weight = record { part = part * 1000; whole = whole * weight }

-- the fraction divided by a weight in thousandths
abbrev pub weigh : Fraction → ℕ → Fraction
weigh f weight = weighted f.part f.whole weight

-- the amount held of each scalar whose total is above 0, as a fraction of the total
abbrev pub held_fractions : (Text → ℕ) → List Entry → List Fraction
held_fractions held total =
    map (λ e. record { part = held e.label; whole = e.amount }) (filter (λ e. nat_lt 0 e.amount) total)

-- the greatest of these fractions: the dominant share
abbrev pub dominant_of : (Text → ℕ) → List Entry → Fraction
dominant_of held total = greatest (held_fractions held total)
