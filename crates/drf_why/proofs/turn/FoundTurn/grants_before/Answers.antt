use Rattle.std.proofs.Common.{◌≡◌, ◌≤◌, List, length, take, subst, sym, ap, ◌∙◌}
use Rattle.std.specs.Borrow.{Bor}
use Rattle.std.specs.Prelude.{filter}
use Rattle.std.proofs.lemmas.List.{length-take-le}
use Rattle.drf_explain.specs.declared.finding.Finding.{Finding}
use Rattle.drf_why.specs.Pick.{earlier_at, earlier_on, is_grant}
use Rattle.drf_why.specs.Places.{findings_of}
use Rattle.drf_why.proofs.PassersFound.{grants_few, grants_prefix, place-inside}
use Rattle.drf_why.proofs.turn.FoundTurn.grants_before.Goals as goal

pub slice_bounds-result-end-2 : goal.slice_bounds-result-end-2
slice_bounds-result-end-2 c =
    let found = c.args.self.now in
    let reported = found.turn.now.reported.items in
    let place = c.in-Some.place in
    let before = c.index-before.result.now in
    let inside = place-inside reported found.reported c.args.client.now c.get.result place c.requires.reported c.get.ensures c.in-Some.is in
    sym (length-take-le before c.as_slice-all.result.now
    (subst (λ (all : List (Bor Finding)). before ≤ length all) (sym c.as_slice-all.ensures.value)
    (grants_few reported found.grants place before c.requires.grants inside c.index-before.ensures)))

pub returns : goal.returns
returns c =
    let found = c.args.self.now in
    let reported = found.turn.now.reported.items in
    let place = c.in-Some.place in
    let before = c.index-before.result.now in
    let inside = place-inside reported found.reported c.args.client.now c.get.result place c.requires.reported c.get.ensures c.in-Some.is in
    let earlier : earlier_on c.args.client.now reported ≡ take place reported =
    ap (earlier_at reported) (sym (c.requires.reported c.args.client.now) ∙ sym c.get.ensures ∙ c.in-Some.is) in
    ap (λ (all : List (Bor Finding)). findings_of (take before all)) c.as_slice-all.ensures.value
    ∙ grants_prefix reported found.grants place before c.requires.grants inside c.index-before.ensures
    ∙ ap (filter is_grant) (sym earlier)
