use Rattle.std.proofs.lemmas.List.{map-set}
use Rattle.drf_gates.specs.filters.Index.{link_hash}
use Rattle.drf_gates.specs.declared.filters.index.Link.{Link}
use Rattle.drf_gates.proofs.filters.index.Index.part.Goals as goal

pub returns-clause-befores : goal.returns-clause-befores
returns-clause-befores c =
    map-set (λ (l : Link). l.before) c.args.self.now.links.items c.args.place (record { mark = c.link-mark.result.mark; before = 18446744073709551615 })

pub returns-clause-hashes : goal.returns-clause-hashes
returns-clause-hashes c =
    map-set link_hash c.args.self.now.links.items c.args.place (record { mark = c.link-mark.result.mark; before = 18446744073709551615 })
