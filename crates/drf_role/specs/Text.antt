-- Texts as lists of bytes.
use Rattle.std.specs.Prelude.{ℕ, Bool, List, ◌==◌}
use Rattle.std.specs.Cmp.Lexicographic.{pointwise, slice_cmp}
use Rattle.std.specs.Ordering.{nat_cmp, is_lt}

-- the bytes of a text
abbrev pub Text : Type 0
Text = List ℕ

-- the two texts have the same bytes
abbrev pub same_text : Text → Text → Bool
same_text = pointwise ◌==◌

-- the first text comes before the second in byte order
abbrev pub text_below : Text → Text → Bool
text_below a b = is_lt (slice_cmp nat_cmp a b)
