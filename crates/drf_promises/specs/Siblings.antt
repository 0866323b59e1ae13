-- The promises about siblings: the roles and clients below one node of the tree.
use Rattle.std.specs.Prelude.{◌≡◌, ℕ, ◌+◌, ◌*◌, ◌≤◌, true, false, [], ◌∷◌, ◌++◌}
use Rattle.drf_role.specs.Path.{Path, begins_with}
use Rattle.drf_role.specs.Text.{Text}
use Rattle.drf_rows.specs.Client.{Client, path_of}
use Rattle.drf_rows.specs.Consistent.{IsConsistent}
use Rattle.drf_rows.specs.Cycle.{with_offer}
use Rattle.drf_rows.specs.Held.{standing_of, weight_of}
use Rattle.drf_rows.specs.Holdings.{holding_of_offer}
use Rattle.drf_rows.specs.Share.{Fraction, Standing, weighted_share_of, is_ahead, stands_before}
use Rattle.drf_rows.specs.Step.{effect}
use Rattle.drf_rows.specs.declared.event.Event.TheVariants.{SetWeight}
use Rattle.drf_rows.specs.declared.rows.OfferRow.{OfferRow}
use Rattle.drf_rows.specs.declared.rows.Rows.{Rows}
use Rattle.drf_sorter.specs.Fractions.{dominant_of, weigh}
use Rattle.drf_sorter.specs.Served.{Weighs}

-- the path of a child of the parent
abbrev pub child : Path → Text → Path
child parent name = parent ++ name ∷ []

-- ---- one offer apart

-- the first fraction is at most the second
abbrev pub AtMost : Fraction → Fraction → Type 0
AtMost f g = f.part * g.whole ≤ g.part * f.whole

-- the first fraction is at most the sum of the other two
abbrev pub AtMostSum : Fraction → Fraction → Fraction → Type 0
AtMostSum f g h = f.part * (g.whole * h.whole) ≤ (g.part * h.whole + h.part * g.whole) * f.whole

-- the dominant share of some amounts, divided by the weight of a node
abbrev pub weighted_share_in : Standing → Path → (Text → ℕ) → Fraction
weighted_share_in s node amounts = weigh (dominant_of amounts s.total) (s.weight node)

-- from s to t, the node gets these amounts and keeps its weight, and the cluster's total is the same
pub record GetsMore (s t : Standing) (node : Path) (amounts : Text → ℕ) : Type 0 where
  pub held : (label : Text) → t.held node label ≡ s.held node label + amounts label
  pub weight : t.weight node ≡ s.weight node
  pub total : t.total ≡ s.total

-- If a node comes before a sibling and gets some amounts, it passes it by no more than these: its new weighted share is
-- at most the sibling's old one, plus the share of these amounts divided by its own weight.
abbrev pub OneOfferApart : Type 0
OneOfferApart =
    (s t : Standing) (parent : Path) (a b : Text) (amounts : Text → ℕ)
    → is_ahead s parent a b ≡ true
    → GetsMore s t (child parent a) amounts
    → AtMostSum (weighted_share_of t (child parent a)) (weighted_share_of s (child parent b)) (weighted_share_in s (child parent a) amounts)

-- ---- sums decide

-- in both, the clients of the node hold the same together and received as many offers, and the node has the same weight
pub record HoldsTheSame (s t : Standing) (node : Path) : Type 0 where
  pub held : (label : Text) → s.held node label ≡ t.held node label
  pub count : s.count node ≡ t.count node
  pub weight : s.weight node ≡ t.weight node

-- these sums decide which of two siblings comes first, however they are divided among clients and roles below
abbrev pub SumsDecide : Type 0
SumsDecide =
    (s t : Standing) (parent : Path) (a b : Text)
    → HoldsTheSame s t (child parent a)
    → HoldsTheSame s t (child parent b)
    → s.total ≡ t.total
    → is_ahead s parent a b ≡ is_ahead t parent a b

-- ---- a client that holds more is served later

-- from s to t, the node holds at least as much, has received at least as many offers, and has at most the same weight
pub record HoldsMore (s t : Standing) (node : Path) : Type 0 where
  pub held : (label : Text) → s.held node label ≤ t.held node label
  pub count : s.count node ≤ t.count node
  pub weight : t.weight node ≤ s.weight node

-- a client stays before another if no node that only it is under holds more, and no node that only the other is under
-- holds less
abbrev pub MoreIsLater : Type 0
MoreIsLater =
    (s t : Standing) (first second : Path)
    → Weighs s
    → Weighs t
    → t.total ≡ s.total
    → ((node : Path) → begins_with first node ≡ true → begins_with second node ≡ false → HoldsMore t s node)
    → ((node : Path) → begins_with second node ≡ true → begins_with first node ≡ false → HoldsMore s t node)
    → stands_before s first second ≡ true
    → stands_before t first second ≡ true

-- so a client that is served before another stays before it when the other is made an offer
abbrev pub OfferIsLater : Type 0
OfferIsLater =
    (rows : Rows) (offer : OfferRow) (first : Client)
    → IsConsistent rows
    → stands_before (standing_of rows) (path_of first) (path_of (holding_of_offer offer).client) ≡ true
    → stands_before (standing_of (with_offer rows offer)) (path_of first) (path_of (holding_of_offer offer).client) ≡ true

-- a greater weight of its role moves no client behind another
abbrev pub WeightIsNotLater : Type 0
WeightIsNotLater =
    (rows : Rows) (role : Path) (weight : ℕ) (first second : Client)
    → IsConsistent rows
    → weight_of rows.weights role ≤ weight
    → begins_with (path_of first) role ≡ true
    → stands_before (standing_of rows) (path_of first) (path_of second) ≡ true
    → stands_before (standing_of (effect rows (SetWeight role weight))) (path_of first) (path_of second) ≡ true
