-- Looking up limits by prefixes of a role's text.
use Rattle.std.specs.Prelude.{◌≡◌, ℕ, ◌+◌, ◌-◌, ◌<◌, Bool, true, false, not, ◌||◌, nat_le, List, [], ◌∷◌, map, filter, length, sum_by, take, Option}
use Rattle.std.specs.List.{list_all}
use Rattle.drf_role.specs.Text.{Text}
use Rattle.drf_role.specs.Parts.{parts_of}
use Rattle.drf_role.specs.Path.{Path, same_path}
use Rattle.drf_bundle.specs.Quantities.{is_named}
use Rattle.drf_rows.specs.Quota.{Consumed, room_under}
use Rattle.drf_rows.specs.declared.rows.LimitRow.{LimitRow}
use Rattle.drf_gates.specs.quota.Allowance.{least_with}

-- the path that a text names; the empty text names the empty path
abbrev pub path_in : Text → Path
path_in [] = []
path_in (b ∷ bs) = parts_of (b ∷ bs)

-- the length of the parts with a `/` after each; without the last `/` it is where the last part ends
abbrev pub size_of : Path → ℕ
size_of path = sum_by (λ part. length part + 1) path

abbrev pub end_of : Path → ℕ
end_of path = size_of path - 1

-- the limits of this path
abbrev pub limits_at : Path → List LimitRow → List LimitRow
limits_at path limits = filter (λ l. same_path path l.role) limits

-- a limit passes a test, or does not name the scalar
abbrev pub passes_one : (LimitRow → Bool) → Text → LimitRow → Bool
passes_one test label l = not (is_named l.limit label) || test l

-- the limit of the role's first `len` parts, if there is one, passes a test
abbrev pub prefix_passes : (LimitRow → Bool) → Path → Text → ℕ → List LimitRow → Bool
prefix_passes test role label len limits = list_all (passes_one test label) (limits_at (take len role) limits)

-- the limit of the role's first `len` parts, if there is one, leaves at least `least` of a scalar
abbrev pub prefix_leaves : Consumed → Path → Text → ℕ → ℕ → List LimitRow → Bool
prefix_leaves consumed role label least = prefix_passes (λ l. nat_le least (room_under consumed label l)) role label

-- `len` is the least number of the role's first parts whose limit leaves less than `least` of a scalar
pub record IsFirstShort (consumed : Consumed) (role : Path) (label : Text) (least : ℕ) (limits : List LimitRow) (len : ℕ) : Type 0 where
  pub short : prefix_leaves consumed role label least len limits ≡ false
  pub first : (fewer : ℕ) → fewer < len → prefix_leaves consumed role label least fewer limits ≡ true

-- the least of `known` and of what these limits leave of a scalar
abbrev pub least_at : Option ℕ → Consumed → List LimitRow → Text → Option ℕ
least_at known consumed limits label = least_with known (map (room_under consumed label) (filter (λ l. is_named l.limit label) limits))
