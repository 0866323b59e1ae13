-- Shares as fractions.
use Rattle.std.specs.Prelude.{◌≡◌, ◌*◌, ℕ, Bool, IsTrue}
use Rattle.std.specs.declared.cmp.Ordering.{Ordering}
use Rattle.drf_rows.specs.Share.{Fraction, is_same, share_of, weighted_share_of}
use Rattle.drf_sorter.specs.Content.{Content, standing_in}
use Rattle.drf_sorter.specs.Fractions.{fraction_cmp, weighted}
use Rattle.drf_role.specs.Path.{Path}
use Rattle.drf_sorter.specs.declared.share.Share.{Share}

-- the fraction of a share
abbrev pub fraction_of : Share → Fraction
fraction_of s = weighted s.part s.whole s.weight

-- the share is this fraction, with weight 1
pub record IsUnweighted (fraction : Fraction) (share : Share) : Type 0 where
  pub part : share.part ≡ fraction.part
  pub whole : share.whole ≡ fraction.whole
  pub weight : share.weight ≡ 1000

-- the fraction with these two terms
abbrev pub terms : ℕ × ℕ → Fraction
terms numbers = record { part = numbers.0; whole = numbers.1 }

-- the cross product of two shares, without the factor 1000 that both sides have
abbrev pub cross_product : Share → Share → ℕ
cross_product a b = a.part * (b.whole * b.weight)

-- shares are ordered as their fractions are
abbrev pub share_cmp : Share → Share → Ordering
share_cmp a b = fraction_cmp (fraction_of a) (fraction_of b)

abbrev pub share_eq : Share → Share → Bool
share_eq a b = is_same (fraction_of a) (fraction_of b)

-- the share of a node, its weighted share, and its count of offers
pub record IsShareOf (content : Content) (node : Path) (answer : Share × Share × ℕ) : Type 0 where
  pub share : IsTrue (is_same (fraction_of answer.0) (share_of (standing_in content) node))
  pub weighted : fraction_of answer.1 ≡ weighted_share_of (standing_in content) node
  pub count : answer.2 ≡ (standing_in content).count node
