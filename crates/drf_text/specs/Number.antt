-- The meaning of a number, in thousandths.
use Rattle.std.specs.Prelude.{ℕ, ◌+◌, ◌-◌, ◌*◌, ◌^◌, Bool, true, ◌&&◌, ◌==◌, length, Result, Ok, Err, if◌then◌else◌, nat_lt, nat_le, slice_index_or}
use Rattle.std.specs.List.{list_all, list_any, before_first, after_first}
use Rattle.std.specs.Char.{is_ascii_digit}
use Rattle.std.specs.Str.Parse.{digits_value}
use Rattle.drf_role.specs.Text.{Text}
use Rattle.drf_text.specs.Blanks.{trimmed}
use Rattle.drf_text.specs.declared.fault.TextFault.{TextFault}
use Rattle.drf_text.specs.declared.fault.TextFault.TheVariants.{BadNumber, TooLarge}

abbrev pub is_point : ℕ → Bool
is_point b = b == 46

-- one or more digits, and nothing else
abbrev pub are_digits : Text → Bool
are_digits text = nat_lt 0 (length text) && list_all is_ascii_digit text

-- the part before the first point, or the whole text
abbrev pub whole_of : Text → Text
whole_of text = before_first is_point text

-- the part after the first point
abbrev pub decimals_of : Text → Text
decimals_of text = after_first is_point text

-- digits before the point and, if there is a point, digits after it
abbrev pub is_number : Text → Bool
is_number text = are_digits (whole_of text) && (if list_any is_point text then are_digits (decimals_of text) else true)

-- the decimal digit at an index, 0 after the end
abbrev pub digit_at : Text → ℕ → ℕ
digit_at decimals place = slice_index_or decimals place 48 - 48

-- decimals rounded to thousandths by the first four digits, half up
abbrev pub rounded : Text → ℕ
rounded decimals =
    100 * digit_at decimals 0 + 10 * digit_at decimals 1 + digit_at decimals 2 + (if nat_le 5 (digit_at decimals 3) then 1 else 0)

-- the number in thousandths
abbrev pub thousandths_of : Text → ℕ
thousandths_of text = digits_value 10 (whole_of text) * 1000 + rounded (decimals_of text)

-- the number, if it is below 2^64 thousandths
abbrev pub small_or_fault : ℕ → Result ℕ TextFault
small_or_fault thousandths = if nat_lt thousandths (2 ^ 64) then Ok thousandths else Err TooLarge

unfoldable pub number_of : Text → Result ℕ TextFault
number_of text = if is_number text then small_or_fault (thousandths_of text) else Err BadNumber

-- the meaning of the text of a weight
abbrev pub weight_of : Text → Result ℕ TextFault
weight_of text = number_of (trimmed text)
