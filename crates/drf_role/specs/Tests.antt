-- Tests for names, labels and roles.
use Rattle.std.specs.Prelude.{ℕ, Bool, not, ◌&&◌, ◌||◌, ◌==◌, length, nat_le, nat_lt, codes, slice_index_or}
use Rattle.std.specs.List.{list_all}
use Rattle.std.specs.Char.{is_ascii_alphanumeric, is_ascii_graphic}
use Rattle.drf_role.specs.Text.{Text, same_text}
use Rattle.drf_role.specs.Parts.{parts_of}

-- a letter, a digit, `_`, `-` or `.`
abbrev pub is_name_byte : ℕ → Bool
is_name_byte b = is_ascii_alphanumeric b || (b == 95 || (b == 45 || b == 46))

-- one of these, or `/`
abbrev pub is_label_byte : ℕ → Bool
is_label_byte b = is_name_byte b || b == 47

abbrev pub is_name : Text → Bool
is_name text = nat_lt 0 (length text) && (nat_le (length text) 64 && list_all is_name_byte text)

abbrev pub is_label : Text → Bool
is_label text = nat_lt 0 (length text) && (nat_le (length text) 64 && list_all is_label_byte text)

-- a visible character other than `/`, `(`, `)`, `:` and `;`
abbrev pub is_component_byte : ℕ → Bool
is_component_byte b = is_ascii_graphic b && not (b == 47 || (b == 40 || (b == 41 || (b == 58 || b == 59))))

-- a component is not `.`, `..` or `*`, and does not begin with `-`
abbrev pub is_component : Text → Bool
is_component text =
    nat_lt 0 (length text) && not (slice_index_or text 0 0 == 45)
    && not (same_text text (codes ".") || (same_text text (codes "..") || same_text text (codes "*")))
    && list_all is_component_byte text

-- `*`, or at most 8 components joined by `/`, in at most 64 bytes
abbrev pub is_role : Text → Bool
is_role text =
    same_text text (codes "*")
    || (nat_le (length text) 64 && (nat_le (length (parts_of text)) 8 && list_all is_component (parts_of text)))
