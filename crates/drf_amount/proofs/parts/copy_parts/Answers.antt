use Rattle.drf_amount.proofs.Split.{copy_more}
use Rattle.drf_amount.proofs.parts.copy_parts.Goals as goal

pub loop-number-preserved-in_ok-insert : goal.loop-number-preserved-in_ok-insert
loop-number-preserved-in_ok-insert g c = copy_more c.args.parts.now.entries c.loop-number.copy.entries c.loop-number.number-iterator c.next.new.self c.insert.new.self.entries c.requires.0 c.in-Some.number.now c.in-Some.part.now c.in_ok-copy.field-0 c.requires.1 c.loop-number.invariant c.in-Some.ensures.steps c.in_ok-copy.ensures.same c.in_ok-insert.ensures.entries

pub loop-number-preserved : goal.loop-number-preserved
loop-number-preserved g c = copy_more c.args.parts.now.entries c.loop-number.copy.entries c.loop-number.number-iterator c.next.new.self c.insert.new.self.entries c.requires.0 c.in-Some.number.now c.in-Some.part.now c.in_ok-copy.field-0 c.requires.1 c.loop-number.invariant c.in-Some.ensures.steps c.in_ok-copy.ensures.same c.in_ok-insert.ensures.entries
