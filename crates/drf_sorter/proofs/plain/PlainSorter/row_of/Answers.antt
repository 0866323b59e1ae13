use Rattle.std.proofs.Common.{◌∙◌}
use Rattle.drf_sorter.proofs.ChangeLemmas.{row-found}
use Rattle.drf_sorter.proofs.plain.PlainSorter.row_of.Goals as goal

pub returns : goal.returns
returns c =
    let sorter = c.args.self.now in
    c.get_index_of.ensures.index ∙ row-found sorter.clients.items sorter.paths.keys c.args.path.now sorter.listed
