use Rattle.std.proofs.Common.{[], ◌∷◌, ◌++◌, ◌∙◌}
use Rattle.drf_master.proofs.Followers.{book-recorded}
use Rattle.drf_master.proofs.book.Book.record.Goals as goal

pub invariant_of-self : goal.invariant_of-self
invariant_of-self g c =
    book-recorded g.K.Naming.start c.self.inside.entries.items c.push_reserved.new.self.items c.self.inside.core c.take_copied.new.core c.empty.result.core c.empty.result.taken
    c.args.event c.in-Ok.stepped.reply c.self.invariant.legal c.self.invariant.run c.in-Ok.ensures.reply c.in-Ok.ensures.ok
    (c.push_reserved.ensures.items ∙ (λ i. c.in-Ok.ensures.same i ++ c.copied_entry-entry.ensures.entry i ∷ [])) c.empty.ensures

pub returns-in-Err-clause-err : goal.returns-in-Err-clause-err
returns-in-Err-clause-err g c =
    rw (← c.self.view_is) (record { limits = c.in-Err.ensures.err.limits; entries = c.in-Err.ensures.same; room = c.in-Err.ensures.no_less })
