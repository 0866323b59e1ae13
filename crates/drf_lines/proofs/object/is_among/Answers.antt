use Rattle.std.proofs.Common.{◌≡◌, ◌+◌, ◌<◌, ℕ, List, [], map, drop, length, Bor, sym, ap, ◌∙◌}
use Rattle.std.specs.Prelude.{◌||◌}
use Rattle.std.specs.List.{slice_index_or}
use Rattle.std.specs.Str.{bytes_eq}
use Rattle.std.proofs.lemmas.List.{at_drop_more}
use Rattle.drf_lines.specs.LineValue.{is_among}
use Rattle.drf_lines.proofs.object.is_among.Goals as goal

-- the name at an index is the first of the remaining names
first_left : (names : List (Bor (List ℕ))) (key : List ℕ) (i : ℕ) (d : Bor (List ℕ)) → i < length names
    → is_among (map (λ name. name.now) (drop i names)) key
    ≡ (bytes_eq (slice_index_or names i d).now key || is_among (map (λ name. name.now) (drop (i + 1) names)) key)
first_left names key i d inside = at_drop_more (λ (left : List (Bor (List ℕ))). is_among (map (λ name. name.now) left) key) names i d inside

abbrev none : Bor (List ℕ)
none = record { ref_ptr = (0, 0); now = [] }

pub returns-then-eq : goal.returns-then-eq
returns-then-eq c =
    let left = first_left c.args.names.now c.args.key.now c.loop-name.name-index none c.loop-name-test.true in
    let rest = is_among (map (λ (name : Bor (List ℕ)). name.now) (drop (c.loop-name.name-index + 1) c.args.names.now)) c.args.key.now in
    sym (sym c.loop-name.invariant ∙ left ∙ ap (λ b. b || rest) (sym c.eq.ensures ∙ c.if-eq.true))

pub loop-name-preserved : goal.loop-name-preserved
loop-name-preserved c =
    let left = first_left c.args.names.now c.args.key.now c.loop-name.name-index none c.loop-name-test.true in
    let rest = is_among (map (λ (name : Bor (List ℕ)). name.now) (drop (c.loop-name.name-index + 1) c.args.names.now)) c.args.key.now in
    sym (ap (λ b. b || rest) (sym c.eq.ensures ∙ c.if-eq.false)) ∙ sym left ∙ c.loop-name.invariant
