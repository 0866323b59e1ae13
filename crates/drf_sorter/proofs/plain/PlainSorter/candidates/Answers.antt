use Rattle.std.proofs.Common.{◌+◌, ◌-◌, ◌^◌, ◌∷◌, ◌++◌, [], length, map, min, ap, arith, sym, ◌∙◌}
use Rattle.std.specs.List.{filter, sum_by}
use Rattle.std.proofs.lemmas.List.{map_push, take_all}
use Rattle.std.proofs.lemmas.List.Elements.{All-push}
use Rattle.drf_sorter.specs.declared.candidate.Candidate.{Candidate}
use Rattle.drf_sorter.specs.Candidates.{HasKeys}
use Rattle.drf_sorter.specs.Plain.{plain_standing}
use Rattle.drf_sorter.specs.declared.client.Client.{Client}
use Rattle.drf_sorter.proofs.PlainLemmas.{passed_more, passed_same, made_more, active_paths-ranked}
use Rattle.drf_sorter.proofs.plain.PlainSorter.candidates.Goals.{then-client+in_ok-candidate+in_ok-push, else-client}
use Rattle.drf_sorter.proofs.plain.PlainSorter.candidates.Goals as goal

pub loop-client-preserved : goal.loop-client-preserved
loop-client-preserved c =
    let clients = c.args.self.now.clients.items in
    let inside = rw c.deref-client-items.ensures.value at c.loop-client-test.true in
    let is = rw c.deref-client-items.ensures.value at c.client-item.is in
    elim c.if-client.branch [
      | then-client+in_ok-candidate+in_ok-push w ↦
          let more =
          passed_more (λ (x : Client). x.active) (λ x. x.path) clients c.loop-client.client-index c.client-item.result
          inside is w.if-client.true in
          let items = ap (λ v. v.items) w.candidates-is ∙ w.in_ok-push.ensures.items in
          record {
            paths = ap (map (λ (d : Candidate). d.path)) items
                ∙ map_push (λ (d : Candidate). d.path) c.loop-client.candidates.items w.in_ok-candidate.field-0
                ∙ (λ j. c.loop-client.invariant.paths j ++ w.in_ok-candidate.ensures.path j ∷ [])
                ∙ sym more;
            keys = rw items (All-push (HasKeys (plain_standing c.args.self.now)) c.loop-client.candidates.items
                w.in_ok-candidate.field-0 c.loop-client.invariant.keys w.in_ok-candidate.ensures.keys);
            counted = made_more c.args.made.now c.loop-client.made c.if-client.made _ _ c.client-item.result.path
                c.loop-client.invariant.counted (w.made-is ∙ w.in_ok-candidate.ensures.counted) more;
            made = omega (arith, w.made-is, w.in_ok-candidate.ensures.made, c.loop-client.invariant.made);
          }
      | else-client w ↦
          let same =
          passed_same (λ (x : Client). x.active) (λ x. x.path) clients c.loop-client.client-index c.client-item.result
          inside is w.if-client.false in
          record {
            paths = ap (λ v. map (λ (d : Candidate). d.path) v.items) w.candidates-is ∙ c.loop-client.invariant.paths
                ∙ sym same;
            keys = rw w.candidates-is c.loop-client.invariant.keys;
            counted = rw (w.made-is, same) c.loop-client.invariant.counted;
            made = omega (arith, w.made-is, c.loop-client.invariant.made);
          }
    ]

pub returns-clause-paths : goal.returns-clause-paths
returns-clause-paths c =
    let clients = c.args.self.now.clients.items in
    c.loop-client.invariant.paths
    ∙ ap (λ cs. map (λ (x : Client). x.path) (filter (λ x. x.active) cs))
    (take_all c.loop-client.client-index clients (rw c.deref-client-items.ensures.value at c.loop-client-test.false))
    ∙ active_paths-ranked c.args.self.now

pub returns-clause-counted : goal.returns-clause-counted
returns-clause-counted c =
    let clients = c.args.self.now.clients.items in
    let all =
    ap (λ cs. map (λ (x : Client). x.path) (filter (λ x. x.active) cs))
    (take_all c.loop-client.client-index clients (rw c.deref-client-items.ensures.value at c.loop-client-test.false))
    ∙ active_paths-ranked c.args.self.now in
    c.loop-client.invariant.counted ∙ ap (λ paths. min (c.args.made.now + sum_by length paths) (2 ^ 64 - 1)) all
