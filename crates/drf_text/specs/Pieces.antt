-- The pieces of a text of a bundle or of quantities: how the text is cut, which errors a piece has by itself, and what
-- a piece without errors means.
use Rattle.std.specs.Prelude.{ℕ, ◌+◌, ◌-◌, ◌^◌, Bool, true, not, ◌&&◌, ◌==◌, List, [], length, map, filter, take, drop, Option, Some, None, if◌then◌else◌, nat_lt, nat_le, slice_index_or}
use Rattle.std.specs.List.{list_all, list_any, slice_split, before_first, after_first, count_by, flat_map, range_with_len}
use Rattle.std.specs.Str.Parse.{digits_value}
use Rattle.std.specs.FinSet as set
use Rattle.drf_role.specs.Text.{Text}
use Rattle.drf_role.specs.Path.{Path}
use Rattle.drf_role.specs.Parts.{parts_of}
use Rattle.drf_role.specs.Role.{default_role}
use Rattle.drf_bundle.specs.declared.resource.Resource.{Resource}
use Rattle.drf_bundle.specs.declared.value.Value.{Value}
use Rattle.drf_bundle.specs.declared.value.Value.TheVariants.{Scalar, Ranges, Items}
use Rattle.drf_text.specs.Blanks.{is_blank, trimmed}
use Rattle.drf_text.specs.Number.{are_digits, is_number, thousandths_of}
use Rattle.drf_role.specs.Tests.{is_label, is_role}
use Rattle.drf_text.specs.declared.fault.TextFault.{TextFault}
use Rattle.drf_text.specs.declared.fault.TextFault.TheVariants.{Syntax, BadName, BadRole, BadNumber}

-- ---- cutting

-- the text begins, or ends, with this byte
abbrev pub begins : ℕ → Text → Bool
begins c text = slice_index_or text 0 0 == c

abbrev pub ends : ℕ → Text → Bool
ends c text = nat_lt 0 (length text) && slice_index_or text (length text - 1) 0 == c

-- the text without its first and its last byte
abbrev pub inside : Text → Text
inside text = take (length text - 2) (drop 1 text)

-- the parts between commas, trimmed; a blank text has none
abbrev pub parts_between : Text → List Text
parts_between text = if list_all is_blank text then [] else map trimmed (slice_split (λ b. b == 44) text)

abbrev pub parts_inside : Text → List Text
parts_inside text = parts_between (inside text)

-- the pieces of a text: the nonblank parts between `;`, trimmed
abbrev pub pieces_of : Text → List Text
pieces_of text = filter (λ piece. nat_lt 0 (length piece)) (map trimmed (slice_split (λ b. b == 59) text))

-- ---- the parts of a piece

-- the trimmed parts before and after the first `:`
abbrev pub head_of : Text → Text
head_of piece = trimmed (before_first (λ b. b == 58) piece)

abbrev pub body_of : Text → Text
body_of piece = trimmed (after_first (λ b. b == 58) piece)

abbrev pub is_reserved : Text → Bool
is_reserved head = list_any (λ b. b == 40) head

abbrev pub name_of : Text → Text
name_of head = trimmed (before_first (λ b. b == 40) head)

-- the part between the first `(` and the last byte
abbrev pub role_text_of : Text → Text
role_text_of head = let rest = after_first (λ b. b == 40) head in trimmed (take (length rest - 1) rest)

-- the ends of a range
abbrev pub low_of : Text → Text
low_of part = trimmed (before_first (λ b. b == 45) part)

abbrev pub high_of : Text → Text
high_of part = trimmed (after_first (λ b. b == 45) part)

-- ---- the errors of a piece by itself

abbrev pub is_head : Text → Bool
is_head head = if is_reserved head then ends 41 head else not (list_any (λ b. b == 41) head)

abbrev pub has_one_dash : Text → Bool
has_one_dash part = count_by (λ b. b == 45) part == 1

abbrev pub is_body : Text → Bool
is_body body =
    if begins 91 body then ends 93 body && list_all has_one_dash (parts_inside body)
    else if begins 123 body then ends 125 body
    else true

abbrev pub is_end : Text → Bool
is_end text = are_digits text && nat_lt (digits_value 10 text) (2 ^ 32)

abbrev pub is_range : Text → Bool
is_range part = is_end (low_of part) && is_end (high_of part) && nat_le (digits_value 10 (low_of part)) (digits_value 10 (high_of part))

-- there is a `:`, and brackets and dashes are only where they are allowed
abbrev pub has_form : Text → Bool
has_form piece = list_any (λ b. b == 58) piece && is_head (head_of piece) && is_body (body_of piece)

-- the members of a set are names; other kinds of values have none
abbrev pub members_are_labels : Text → Bool
members_are_labels body = if begins 123 body then list_all is_label (parts_inside body) else true

abbrev pub has_labels : Text → Bool
has_labels piece = is_label (name_of (head_of piece)) && members_are_labels (body_of piece)

-- the text in parentheses is not a role
abbrev pub has_bad_role : Text → Bool
has_bad_role head = is_reserved head && not (is_role (role_text_of head))

-- ranges have two valid ends in order, and a scalar is a number; a set has no numbers
abbrev pub has_numbers : Text → Bool
has_numbers body =
    if begins 91 body then list_all is_range (parts_inside body)
    else if begins 123 body then true
    else is_number body

-- the first error of a piece, if it has one
abbrev pub first_fault : Text → Bool → Option TextFault
first_fault piece bad_role =
    if not (has_form piece) then Some Syntax
    else if not (has_labels piece) then Some BadName
    else if bad_role then Some BadRole
    else if not (has_numbers (body_of piece)) then Some BadNumber
    else None

-- the first error of a piece of a bundle
abbrev pub fault_of : Text → Option TextFault
fault_of piece = first_fault piece (has_bad_role (head_of piece))

-- the first error of a piece of quantities, which must have no parentheses
abbrev pub quantity_fault_of : Text → Option TextFault
quantity_fault_of piece = first_fault piece (is_reserved (head_of piece))

-- ---- the meaning of a piece without errors

abbrev pub numbers_of : Text → List ℕ
numbers_of part = range_with_len (digits_value 10 (low_of part)) (digits_value 10 (high_of part) + 1 - digits_value 10 (low_of part))

-- here a scalar has no upper bound
abbrev pub value_of : Text → Value
value_of body =
    if begins 91 body then Ranges (set.from_list (flat_map numbers_of (parts_inside body)))
    else if begins 123 body then Items (set.from_list (parts_inside body))
    else Scalar (thousandths_of body)

abbrev pub role_of : Text → Path
role_of head = if is_reserved head then parts_of (role_text_of head) else default_role

abbrev pub resource_of : Text → Resource
resource_of piece = record { label = name_of (head_of piece); role = role_of (head_of piece); value = value_of (body_of piece) }
