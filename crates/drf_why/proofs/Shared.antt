-- The stored weighted shares are those of the report.
use Rattle.std.specs.Prelude.{◌≡◌, ℕ, ◌+◌, ◌<◌, Bool, true, false, List, [], length, drop, find, Option, Some, None, string_bytes}
use Rattle.std.specs.HashMap.{HashMap, UpdatesBy, get_by_text}
use Rattle.std.specs.Option.{option_map, option_map_or}
use Rattle.std.specs.Str.{bytes_eq}
use Rattle.std.specs.String.{string_eq}
use Rattle.std.specs.declared.string.String.{String}
use Rattle.std.proofs.Common.{refl, sym, ap, ◌∙◌, cond, get_or}
use Rattle.std.proofs.lemmas.List.{drop_more}
use Rattle.std.proofs.lemmas.Map.Text.{hash_map_updates_text}
use Rattle.drf_lines.specs.ReportLine.{fraction_text}
use Rattle.drf_role.specs.Parts.{text_of}
use Rattle.drf_role.specs.Text.{Text, same_text}
use Rattle.drf_rows.specs.declared.report.NodeLine.{NodeLine}
use Rattle.drf_why.specs.Shares.{share_at, reported_share}

map-cond : {X Y : Type 0} (f : X → Y) (b : Bool) (x : X) (o : Option X) → option_map f (cond b (Some x) o) ≡ cond b (Some (f x)) (option_map f o)
map-cond f true x o = refl
map-cond f false x o = refl

-- one more share is stored
pub share_put : {Y Z S : Type 0} (old new : HashMap (String Y) (String Z) S) (key : String Y) (share : String Z) (text reported : Text)
    → UpdatesBy string_eq (string_eq key) old new (Some share) → string_bytes key ≡ text → string_bytes share ≡ reported
    → (node : Text) → share_at new node ≡ cond (same_text text node) (Some reported) (share_at old node)
share_put old new key share text reported updates its says node =
    ap (option_map string_bytes) (hash_map_updates_text (string_bytes key) old new (Some share) updates node)
    ∙ map-cond string_bytes (bytes_eq (string_bytes key) node) share (get_by_text old node)
    ∙ (λ i. cond (same_text (its i) node) (Some (says i)) (share_at old node))

-- the shares after one line more; lines are read from the last to the first
pub share_more : (lines : List NodeLine) (i j : ℕ) (line : NodeLine) (node : Text) → i ≡ j + 1 → j < length lines → line ≡ get_or lines j line
    → cond (same_text (text_of line.path) node) (Some (fraction_text line.weighted)) (reported_share (drop i lines) node) ≡ reported_share (drop j lines) node
share_more lines i j line node next inside is =
    let first : NodeLine = get_or lines j line in
    (λ k. cond (same_text (text_of (is k).path) node) (Some (fraction_text (is k).weighted)) (reported_share (drop (next k) lines) node))
    ∙ sym (map-cond (λ (l : NodeLine). fraction_text l.weighted) (same_text (text_of first.path) node) first
    (find (λ (l : NodeLine). same_text (text_of l.path) node) (drop (j + 1) lines)))
    ∙ sym (ap (λ (ls : List NodeLine). reported_share ls node) (drop_more lines j line inside))

-- the stored share of a node is that of the report
pub share-reported : {Z : Type 0} (found : Option (String Z)) (lines : List NodeLine) (node : Text) → option_map string_bytes found ≡ reported_share lines node
    → option_map_or string_bytes found []
    ≡ option_map_or (λ (line : NodeLine). fraction_text line.weighted) (find (λ (line : NodeLine). same_text (text_of line.path) node) lines) []
share-reported found lines node is =
    sym (or-map string_bytes found)
    ∙ ap (λ o. option_map_or (λ (text : Text). text) o []) is
    ∙ or-map (λ (line : NodeLine). fraction_text line.weighted) (find (λ (line : NodeLine). same_text (text_of line.path) node) lines)
  where
    or-map : {X : Type 0} (f : X → Text) (o : Option X) → option_map_or (λ (text : Text). text) (option_map f o) [] ≡ option_map_or f o []
    or-map f None = refl
    or-map f (Some x) = refl
