use Rattle.drf_master.proofs.Followers.{next-asked}
use Rattle.drf_master.proofs.follower.Follower.work_out.Goals as goal

pub returns-clause-next : goal.returns-clause-next
returns-clause-next g c =
    next-asked c.args.self.now.core.limits g.K.Naming.start c.args.entries.now c.catch_up.new.self.core c.step.new.self c.catch_up.new.self.taken c.args.event.now
    c.in_ok-asked.asked c.in_ok-reply.reply c.requires.legal c.catch_up.ensures.taken c.in_ok-catch_up.ensures.ok c.in_ok-asked.ensures
    c.in_ok-reply.ensures.reply c.in_ok-reply.ensures.ok
