use Rattle.std.proofs.Common.{ap, ◌∙◌}
use Rattle.std.specs.Prelude.{codes}
use Rattle.drf_role.specs.Parts.{text_of}
use Rattle.serde_json.specs.Data.{object, put, string}
use Rattle.serde_json.specs.View.{members_view}
use Rattle.serde_json.proofs.Views.{view-Object}
use Rattle.drf_why.specs.Tally.{with_counts}
use Rattle.drf_why.proofs.tally.tally_value.Goals as goal

pub returns : goal.returns
returns c =
    let t = c.args.tally.now in
    view-Object c.put_client.new.members
    ∙ ap object (c.in_ok-put_client.ensures
    ∙ ap (put (codes "client") (string (text_of t.client)))
    (c.in_ok-put_counts.ensures ∙ ap (λ es. with_counts t (members_view es)) c.new-members.ensures.empty))
