-- The texts of the items of an array, and lines whose value is known.
use Rattle.std.proofs.Common.{◌≡◌, ℕ, List, [], ◌∷◌, ◌++◌, Option, Some, None, Ok, option_map, Global, refl, sym, ap, append-nil, append_assoc}
use Rattle.std.specs.Str.{IsUtf8}
use Rattle.std.proofs.lemmas.Str.{is_utf8-from_IsUtf8}
use Rattle.json.specs.declared.value.Value.{Value}
use Rattle.serde_json.specs.Read.{read}
use Rattle.serde_json.specs.Data.{Data}
use Rattle.serde_json.specs.Find.{as_str}
use Rattle.drf_lines.specs.LineValue.{line_view, items_seen}
use Rattle.drf_lines.specs.Meaning.{value_in}
use Rattle.drf_lines.specs.Object.{texts_of}

pub value_read : (line : List ℕ) (value : Data) → IsUtf8 line → read line ≡ Some value → value_in line ≡ Ok value
unfolding value_in
value_read line value utf8 e = rw (is_utf8-from_IsUtf8 line utf8, e)

-- ---- the texts of an array, item by item

-- the texts so far, followed by those of the remaining items
abbrev pub texts_after : {A : Type 0} → List (List ℕ) → List (Value A) → Option (List (List ℕ))
texts_after texts values = option_map (λ more. texts ++ more) (texts_of (items_seen values))

pub texts_after-nil : {A : Type 0} (values : List (Value A)) → texts_after [] values ≡ texts_of (items_seen values)
texts_after-nil values = at (texts_of (items_seen values))
  where
    at : (o : Option (List (List ℕ))) → option_map (λ more. [] ++ more) o ≡ o
    at None = refl
    at (Some more) = refl

pub texts_after-end : (texts : List (List ℕ)) → texts_after {A = Global} texts [] ≡ Some texts
texts_after-end texts = ap Some (append-nil texts)

pub texts_after-text : {A : Type 0} (texts : List (List ℕ)) (value : Value A) (values : List (Value A)) (text : List ℕ)
    → as_str (line_view value) ≡ Some text
    → texts_after texts (value ∷ values) ≡ texts_after (texts ++ text ∷ []) values
texts_after-text texts value values text e = rw e (at (texts_of (items_seen values)))
  where
    at : (o : Option (List (List ℕ)))
        → option_map (λ more. texts ++ more) (option_map (λ more. text ∷ more) o)
        ≡ option_map (λ more. (texts ++ text ∷ []) ++ more) o
    at None = refl
    at (Some more) = ap Some (sym (append_assoc texts (text ∷ []) more))

pub texts_after-none : {A : Type 0} (texts : List (List ℕ)) (value : Value A) (values : List (Value A)) → as_str (line_view value) ≡ None
    → texts_after texts (value ∷ values) ≡ None
texts_after-none texts value values e = rw e
