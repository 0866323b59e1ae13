-- Statements about shares and about the order of clients, which are proved.
use Rattle.std.specs.Prelude.{◌≡◌, ◌<◌, ◌≤◌, ◌^◌, ℕ, Bool, List, [], ◌∷◌, ◌++◌, IsTrue, codes}
use Rattle.std.specs.List.Sorted.{IsPermutation}
use Rattle.std.specs.Ordering.{nat_cmp}
use Rattle.drf_bundle.specs.Quantities.{amount_of}
use Rattle.drf_bundle.specs.declared.quantities.Entry.{Entry}
use Rattle.drf_role.specs.Path.{Path, client_path}
use Rattle.drf_role.specs.Text.{Text, text_below}
use Rattle.drf_rows.specs.Consistent.{IsConsistent}
use Rattle.drf_rows.specs.Held.{weight_of}
use Rattle.drf_rows.specs.Share.{Fraction, Standing, IsLowest, is_less, is_same, lowest_terms, stands_before, weighted_share_of}
use Rattle.drf_rows.specs.declared.rows.Rows.{Rows}
use Rattle.drf_sorter.specs.Content.{Content, IsOrderOf, activated, charged, discharged, standing_in, with_change, with_weight}
use Rattle.drf_sorter.specs.Share.{cross_product, share_cmp}
use Rattle.drf_sorter.specs.declared.share.Share.{Share}

-- shares are compared by products that are below 2^124
abbrev pub ProductsFit : Type 0
ProductsFit =
    (a b : Share) → (share_cmp a b ≡ nat_cmp (cross_product a b) (cross_product b a)) × (cross_product a b < 2 ^ 124)

-- a fraction has at most one form in lowest terms
abbrev pub OneLowestForm : Type 0
OneLowestForm = (f a b : Fraction) → 1 ≤ f.whole → IsLowest f a → IsLowest f b → a ≡ b

-- the function finds it
abbrev pub LowestIsFound : Type 0
LowestIsFound = (f : Fraction) → 1 ≤ f.whole → f.whole < 2 ^ 128 → IsLowest f (lowest_terms f)

-- equal fractions have the same form in lowest terms
abbrev pub SameLowestForm : Type 0
SameLowestForm =
    (f g : Fraction)
    → 1 ≤ f.whole
    → f.whole < 2 ^ 128
    → 1 ≤ g.whole
    → g.whole < 2 ^ 128
    → IsTrue (is_same f g)
    → lowest_terms f ≡ lowest_terms g

-- the form of nothing is 0/1
abbrev pub NothingIsZero : Type 0
NothingIsZero =
    (whole : ℕ)
    → 1 ≤ whole
    → whole < 2 ^ 128
    → lowest_terms (record { part = 0; whole = whole }) ≡ record { part = 0; whole = 1 }

-- of two siblings with the same weight, holdings and count of offers, the one whose name is less comes first, with all clients below it
abbrev pub LesserNameFirst : Type 0
LesserNameFirst =
    (s : Standing) (parent : Path) (a b : Text) (below_a below_b : Path)
    → s.weight (parent ++ a ∷ []) ≡ s.weight (parent ++ b ∷ [])
    → ((label : Text) → s.held (parent ++ a ∷ []) label ≡ s.held (parent ++ b ∷ []) label)
    → s.count (parent ++ a ∷ []) ≡ s.count (parent ++ b ∷ [])
    → IsTrue (text_below a b)
    → IsTrue (stands_before s (parent ++ a ∷ below_a) (parent ++ b ∷ below_b))

-- a role that holds something has a smaller weighted share under a greater weight
abbrev pub HeavierHasLess : Type 0
HeavierHasLess =
    (content : Content) (role : Path) (label : Text) (light heavy : ℕ)
    → 0 < (standing_in content).held role label
    → 0 < amount_of content.total label
    → light < heavy
    → IsTrue
    (is_less (weighted_share_of (standing_in (with_weight content role heavy)) role)
    (weighted_share_of (standing_in (with_weight content role light)) role))

-- a `.` node and a framework have no weight of their own, since no component of a role is `.`
abbrev pub ClientsHaveDefaultWeight : Type 0
ClientsHaveDefaultWeight =
    (rows : Rows) (role : Path) (framework : Text)
    → IsConsistent rows
    → (weight_of rows.weights (role ++ codes "." ∷ []) ≡ 1000) × (weight_of rows.weights (client_path role framework) ≡ 1000)

-- a charge of one offer that is undone changes nothing
abbrev pub UndoneChargeChangesNothing : Type 0
UndoneChargeChangesNothing =
    (content : Content) (path : Path) (quantities : List Entry)
    → with_change (with_change content path (charged quantities 1)) path (discharged quantities) ≡ content

-- suppressing or activating a client changes no share and no count
abbrev pub SuppressedCounts : Type 0
SuppressedCounts =
    (content : Content) (path : Path) (active : Bool)
    → standing_in (with_change content path (activated active)) ≡ standing_in content

-- the order in which clients are added does not affect the order in which they are served
abbrev pub ArrivalDoesNotMatter : Type 0
ArrivalDoesNotMatter =
    (one other : Content) (first second : List Path)
    → IsPermutation one.clients other.clients
    → one.total ≡ other.total
    → one.weights ≡ other.weights
    → IsOrderOf one first
    → IsOrderOf other second
    → first ≡ second
