use Rattle.std.proofs.Common.{◌≡◌, ◌++◌, [], ap, sym, ◌∙◌, length, take, drop, arith}
use Rattle.std.proofs.Math.Seq.{take-append_seam}
use Rattle.drf_explain.specs.Each.{turns_by_agent}
use Rattle.drf_rows.specs.declared.rows.Rows.{Rows}
use Rattle.drf_why.specs.Tally.{tallies_of}
use Rattle.drf_why.proofs.Lists.{length-tallies}
use Rattle.drf_why.proofs.summary.tallies_at.Goals as goal

pub returns : goal.returns
returns c =
    let rows = c.args.rows.now in
    let turns = turns_by_agent rows c.args.at in
    let reported = c.in_ok-explanations.ensures ∙ ap (λ (r : Rows). turns_by_agent r c.args.at) (sym c.requires.rows) in
    let first = c.as_mut_slice.ensures.value ∙ c.in_ok-found.ensures in
    let counted = c.in_ok-count_agents.ensures rows [] first ∙ ap (tallies_of rows) reported in
    let as_many : length c.as_mut_slice.result.now ≡ length c.count_agents.new.tallies =
    ap length first ∙ length-tallies rows [] turns ∙ sym (ap length counted) in
    let len : c.in_ok-found.found.len ≡ length c.count_agents.new.tallies = let a = c.as_mut_slice.ensures.len in omega (arith, a, as_many) in
    let new = c.count_agents.new.tallies in
    let rest = drop (length new) c.in_ok-found.found.items in
    ap (λ n. take n (new ++ rest)) len ∙ take-append_seam new rest ∙ counted
