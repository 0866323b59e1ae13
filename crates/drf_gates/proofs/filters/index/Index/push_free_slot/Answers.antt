use Rattle.std.proofs.Common.{refl}
use Rattle.drf_gates.specs.declared.filters.index.Link.{Link}
use Rattle.drf_gates.proofs.filters.Held.{tidy-push_free_slot, hashes-push, befores-push}
use Rattle.drf_gates.proofs.filters.index.Index.push_free_slot.Goals as goal

pub returns-clause-hashes : goal.returns-clause-hashes
returns-clause-hashes c =
    let link : Link = record { mark = 0; before = 18446744073709551615 } in
    hashes-push c.args.self.now.links.items c.push_reserved.new.self.items link _ c.push_reserved.ensures.items refl

pub returns-clause-chained : goal.returns-clause-chained
returns-clause-chained c =
    let link : Link = record { mark = 0; before = 18446744073709551615 } in
    tidy-push_free_slot c.args.self.now c.push_reserved.new.self.items 18446744073709551615 c.requires.chained
    (hashes-push c.args.self.now.links.items c.push_reserved.new.self.items link _ c.push_reserved.ensures.items refl)
    (befores-push c.args.self.now.links.items c.push_reserved.new.self.items link c.push_reserved.ensures.items)
