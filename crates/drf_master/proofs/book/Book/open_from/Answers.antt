use Rattle.drf_master.proofs.Followers.{book-begun}
use Rattle.drf_master.proofs.book.Book.open_from.Goals as goal

pub invariant_of-result : goal.invariant_of-result
invariant_of-result g c =
    book-begun g.K.Naming.start c.args.core c.new.result.items c.empty.result.core c.empty.result.taken c.requires.start c.new.ensures.items c.empty.ensures
