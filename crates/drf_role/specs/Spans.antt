-- Where the parts of a text begin and end, and what is stored of the text.
use Rattle.std.specs.Prelude.{◌≡◌, ℕ, ◌+◌, List, [], ◌∷◌, codes, length}
use Rattle.std.specs.Arc.{arc_value}
use Rattle.std.specs.Str.{IsAscii}
use Rattle.std.specs.String.{string_bytes}
use Rattle.drf_role.specs.declared.joined.Kept.{Kept}
use Rattle.drf_role.specs.declared.joined.Kept.TheVariants.{Star, Shared}
use Rattle.drf_role.specs.declared.joined.Span.{Span}
use Rattle.drf_role.specs.Parts.{parts_of}

-- the places of consecutive parts with one byte between each two
abbrev pub spans_from : ℕ → List (List ℕ) → List Span
spans_from start [] = []
spans_from start (part ∷ parts) = (record { start = start; end = start + length part }) ∷ spans_from (start + length part + 1) parts

-- these are the places of the parts of the text, which is ASCII
pub record IsCut (text : List ℕ) (spans : List Span) : Type 0 where
  pub ascii : IsAscii text
  pub exact : spans ≡ spans_from 0 (parts_of text)

-- the stored text; for `*` nothing is stored
abbrev pub text_in : Kept → List ℕ
text_in Star = codes "*"
text_in (Shared cut) = string_bytes (arc_value cut).text

-- the places of its parts
abbrev pub spans_in : Kept → List Span
spans_in Star = spans_from 0 (codes "*" ∷ [])
spans_in (Shared cut) = (arc_value cut).spans.items
