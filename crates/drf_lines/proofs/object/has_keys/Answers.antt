use Rattle.std.proofs.Common.{◌≡◌, ◌+◌, ◌<◌, [], ◌∷◌, ◌++◌, set, take, drop, false, sym, ap, ◌∙◌, arith, ne_eqb}
use Rattle.std.specs.Prelude.{◌==◌}
use Rattle.std.proofs.lemmas.List.{length-append, map-append, take_more_set, length-set}
use Rattle.json.specs.Strict.{keys}
use Rattle.json.specs.Value.{members_view}
use Rattle.serde_json.specs.Data.{no_members}
use Rattle.drf_lines.specs.LineValue.{members_of}
use Rattle.drf_lines.specs.Object.{member_count}
use Rattle.drf_lines.proofs.KeyCounts.{count_after, count_grows, keys_counted, next_key, last_key, texts, texts_length}
use Rattle.drf_lines.proofs.object.has_keys.Goals as goal

pub returns-then-found-count : goal.returns-then-found-count
returns-then-found-count c =
    let l = c.loop-member in
    let all = c.args.members.now in
    let m = c.member-item.result in
    let names = texts (take l.found l.names) in
    let more = names ++ m.0.now ∷ [] in
    let rest = keys (members_view (drop (l.member-index + 1) all)) in
    let total = member_count (members_of (members_view all) no_members) in
    let whole : total ≡ count_after more rest =
    keys_counted (members_view all) ∙ sym l.invariant.2
    ∙ next_key names all l.member-index m false c.loop-member-test.true c.member-item.is (sym c.is_among.ensures ∙ c.if-is_among.false) in
    let above : c.args.count < total =
    omega (arith, whole, count_grows more rest, length-append names (m.0.now ∷ []), texts_length l.names l.found (omega arith)) in
    sym (ne_eqb total c.args.count (λ e. omega arith))

pub returns : goal.returns
returns c =
    let l = c.loop-member in
    let all = c.args.members.now in
    let names = texts (take l.found l.names) in
    ap (λ n. n == c.args.count) (sym (
    keys_counted (members_view all) ∙ sym l.invariant.2 ∙ last_key names all l.member-index c.loop-member-test.false
    ∙ texts_length l.names l.found (omega arith)))

pub loop-member-preserved : goal.loop-member-preserved
loop-member-preserved c =
    let l = c.loop-member in
    let all = c.args.members.now in
    let m = c.member-item.result in
    let names = texts (take l.found l.names) in
    let rest = keys (members_view (drop (l.member-index + 1) all)) in
    let kept : texts (take (l.found + 1) (set l.names l.found m.0)) ≡ names ++ m.0.now ∷ [] =
    ap texts (take_more_set l.names l.found m.0 (omega arith)) ∙ map-append _ (take l.found l.names) (m.0 ∷ []) in (
      length-set l.names l.found m.0 ∙ l.invariant.0,
      omega arith,
      ap (λ names. count_after names rest) kept
          ∙ sym (next_key names all l.member-index m false c.loop-member-test.true c.member-item.is (sym c.is_among.ensures ∙ c.if-is_among.false))
          ∙ l.invariant.2,
    )
