-- Dominant shares as exact fractions, and the order of clients.
-- The dominant share is that of Ghodsi et al., "Dominant Resource Fairness" (NSDI 2011). The tree of roles and the
-- order of siblings are those of the hierarchical sorter of Mesos.
use Rattle.std.specs.Prelude.{ℕ, zero, suc, ◌*◌, ◌/◌, ◌%◌, ◌≤◌, IsTrue, Bool, true, false, ◌&&◌, ◌||◌, List, [], ◌∷◌, ◌++◌, map, if◌then◌else◌, nat_lt, ◌==◌}
use Rattle.std.specs.Int.{IsGcd}
use Rattle.std.specs.List.{filter, list_all}
use Rattle.drf_role.specs.Text.{Text, same_text, text_below}
use Rattle.drf_role.specs.Path.{Path}
use Rattle.drf_bundle.specs.declared.quantities.Entry.{Entry}

-- the fraction part / whole
pub record Fraction : Type 0 where
  pub part : ℕ
  pub whole : ℕ

-- a < b, by cross products, so that nothing is rounded
abbrev pub is_less : Fraction → Fraction → Bool
is_less a b = nat_lt (a.part * b.whole) (b.part * a.whole)

-- a = b, by cross products
abbrev pub is_same : Fraction → Fraction → Bool
is_same a b = a.part * b.whole == b.part * a.whole

-- the greater of two fractions
abbrev pub greater : Fraction → Fraction → Fraction
greater a b = if is_less a b then b else a

-- the greatest of some fractions, or 0/1 if there are none
abbrev pub greatest : List Fraction → Fraction
greatest [] = record { part = 0; whole = 1 }
greatest (f ∷ fs) = greater f (greatest fs)

-- Euclid's algorithm with two divisions in a step; each step at least halves the second number, so `steps` bounds its
-- bits
abbrev pub divisor_within : ℕ → ℕ → ℕ → ℕ
divisor_within zero a b = a
divisor_within (suc steps) a b =
    if b == 0 then a else if a % b == 0 then b else divisor_within steps (a % b) (b % (a % b))

-- the greatest common divisor, if the second number is below 2 ^ 128
unfoldable pub common_divisor : ℕ → ℕ → ℕ
common_divisor a b = divisor_within 128 a b

-- the fraction in lowest terms
abbrev pub lowest_terms : Fraction → Fraction
lowest_terms f = record {
  part = f.part / common_divisor f.part f.whole;
  whole = f.whole / common_divisor f.part f.whole;
}

-- `terms` is the fraction `f` in lowest terms
pub record IsLowest (f terms : Fraction) : Type 0 where
  pub same : IsTrue (is_same terms f)
  pub reduced : IsGcd terms.part terms.whole 1
  pub some : 1 ≤ terms.whole

-- what the order of clients depends on
pub record Standing : Type 0 where
  -- how much of a scalar a node holds, in thousandths
  pub held : Path → Text → ℕ
  -- how many offers the clients of a node have received
  pub count : Path → ℕ
  -- the cluster's total of each scalar
  pub total : List Entry
  -- the weight of a node, in thousandths
  pub weight : Path → ℕ

-- the fraction of the total that a node holds of each scalar whose total is not 0
abbrev pub fractions_of : Standing → Path → List Fraction
fractions_of s node =
    map (λ e. record { part = s.held node e.label; whole = e.amount }) (filter (λ e. nat_lt 0 e.amount) s.total)

-- the dominant share of a node: the greatest of these fractions
abbrev pub share_of : Standing → Path → Fraction
share_of s node = greatest (fractions_of s node)

-- the weighted share of a node: its dominant share divided by its weight
abbrev pub weighted_share_of : Standing → Path → Fraction
weighted_share_of s node = record {
  part = (share_of s node).part * 1000;
  whole = (share_of s node).whole * s.weight node;
}

-- of two siblings, the one with the smaller weighted share is served first; if the shares are equal, the one with the
-- smaller count; if these are equal too, the one whose name is less in byte order
unfoldable pub is_ahead : Standing → Path → Text → Text → Bool
is_ahead s parent a b =
    is_less (weighted_share_of s (parent ++ a ∷ [])) (weighted_share_of s (parent ++ b ∷ []))
    || (is_same (weighted_share_of s (parent ++ a ∷ [])) (weighted_share_of s (parent ++ b ∷ []))
    && (nat_lt (s.count (parent ++ a ∷ [])) (s.count (parent ++ b ∷ []))
    || (s.count (parent ++ a ∷ []) == s.count (parent ++ b ∷ []) && text_below a b)))

-- below a common parent, the first parts at which two paths differ decide
abbrev pub stands_before_below : Standing → Path → Path → Path → Bool
stands_before_below s parent [] others = false
stands_before_below s parent (a ∷ below_a) [] = false
stands_before_below s parent (a ∷ below_a) (b ∷ below_b) =
    if same_text a b then stands_before_below s (parent ++ a ∷ []) below_a below_b else is_ahead s parent a b

-- the first client path is served before the second
abbrev pub stands_before : Standing → Path → Path → Bool
stands_before s a b = stands_before_below s [] a b

-- each path in the list is served before all later ones
abbrev pub is_serving_order : Standing → List Path → Bool
is_serving_order s [] = true
is_serving_order s (path ∷ paths) = list_all (stands_before s path) paths && is_serving_order s paths
