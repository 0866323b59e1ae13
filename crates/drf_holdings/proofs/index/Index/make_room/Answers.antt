use Rattle.std.proofs.Common.{rules}
use Rattle.std.specs.VecDeque.{deque_items, deque_len}
use Rattle.drf_holdings.proofs.Lists.{some_kept}
use Rattle.indexmap.proofs.CallerLemmas.{filter-RetainsPairs}
use Rattle.drf_holdings.proofs.index.Index.make_room.Goals as goal

pub returns : goal.returns
returns c n =
    some_kept deque_items deque_len (λ v. v.ok.0) c.args.self.now.lists.entries c.retain.new.self.entries c.len.ensures.unique
    (filter-RetainsPairs _ _ _ (λ k v b w g call. search rules) _ _ c.retain.ensures.filtered) n
