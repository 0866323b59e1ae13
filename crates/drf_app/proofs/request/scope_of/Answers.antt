use Rattle.std.proofs.Common.{ap₂, codes, ◌∙◌}
use Rattle.clap.specs.Words.{found_of}
use Rattle.clap.proofs.WalkLemmas.{first_value-rows, raw_values-rows}
use Rattle.drf_app.specs.Line.{asked_by}
use Rattle.drf_app.proofs.request.scope_of.Goals as goal

pub returns : goal.returns
returns c =
    let found = found_of c.args.explain.now in
    record {
      each = c.flag_of-each.result;
      summary = c.flag_of-summary.result;
      is_each = c.flag_of-each.ensures;
      is_summary = c.flag_of-summary.ensures;
      asked = c.scope_by.ensures
          ∙ ap₂ (asked_by c.flag_of-each.result c.flag_of-summary.result) (c.get_str-agent.ensures ∙ first_value-rows found (codes "agent"))
          (c.get_strs-client.ensures ∙ raw_values-rows found (codes "client"));
    }
