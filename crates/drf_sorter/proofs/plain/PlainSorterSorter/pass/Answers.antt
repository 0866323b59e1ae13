use Rattle.std.proofs.Common.{sym}
use Rattle.std.proofs.lemmas.List.{drop-drop}
use Rattle.drf_sorter.proofs.plain.PlainSorterSorter.pass.Goals as goal

pub returns-then-self-len-clause-queue : goal.returns-then-self-len-clause-queue
returns-then-self-len-clause-queue c = sym (drop-drop 1 c.args.self.now.next c.args.self.now.queue.items)
