use Rattle.std.proofs.Common.{◌∙◌}
use Rattle.indexmap.specs.IndexMap.{insert_entry}
use Rattle.drf_role.specs.Path.{same_path}
use Rattle.drf_why.proofs.passer.count_in.Goals as goal

pub returns : goal.returns
returns c =
    let entries = c.args.by_client.now.entries in
    c.in_ok-insert.ensures.entries
    ∙ (λ i. insert_entry same_path entries (c.in_ok-client.ensures i) (c.next_agents-agents.ensures i))
