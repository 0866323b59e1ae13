-- The index of clients by their paths, and the list of grants, as the code stores them.
use Rattle.std.specs.Prelude.{◌≡◌, ℕ, ◌<◌, List, map, filter, length, take, slice_index, Option}
use Rattle.std.specs.List.{list_any, position}
use Rattle.std.specs.Borrow.{Bor}
use Rattle.std.specs.Map.{lookup}
use Rattle.drf_role.specs.Path.{Path, same_path}
use Rattle.drf_explain.specs.declared.finding.Finding.{Finding}
use Rattle.drf_why.specs.Passers.{Turn}
use Rattle.drf_why.specs.Pick.{is_grant, is_inactive, is_nothing_free, is_of_client}
use Rattle.drf_why.specs.declared.grants.Grants.{Grants}
use Rattle.drf_why.specs.declared.places.Places.{Places}
use Rattle.drf_why.specs.declared.turn.FoundTurn.{FoundTurn}

-- the stored index of a client
abbrev pub place_in : Places → Path → Option ℕ
place_in places path = lookup (same_path path) places.by_client.entries

-- each stored index is that of the client's first finding
abbrev pub ArePlacesIn : List Finding → Places → Type 0
ArePlacesIn findings places = (path : Path) → place_in places path ≡ position (is_of_client path) findings

-- borrowed findings as a list
abbrev pub findings_of : List (Bor Finding) → List Finding
findings_of findings = map (λ f. f.now) findings

-- `all` has the grants among the findings, and `before` has for each finding the number of grants before it
pub record AreGrantsIn (findings : List Finding) (grants : Grants) : Type 0 where
  pub all : findings_of grants.all.items ≡ filter is_grant findings
  pub long : length grants.before.items ≡ length findings
  pub before : (place : ℕ) → place < length findings → slice_index grants.before.items place ≡ length (filter is_grant (take place findings))

-- the findings of the turn
abbrev pub turn_of : FoundTurn → Turn
turn_of t = (t.turn.now.reported.items, t.turn.now.untouched.items)

-- the index agrees with the findings of the turn
pub record IsFound (t : FoundTurn) : Type 0 where
  pub reported : ArePlacesIn t.turn.now.reported.items t.reported
  pub untouched : ArePlacesIn t.turn.now.untouched.items t.untouched
  pub grants : AreGrantsIn t.turn.now.reported.items t.grants
  pub inactive : t.inactive ≡ list_any is_inactive t.turn.now.reported.items
  pub nothing_free : t.nothing_free ≡ list_any is_nothing_free t.turn.now.reported.items
