use Rattle.std.proofs.Common.{ℕ, Option, None, set, ap, sym, ◌∙◌}
use Rattle.std.proofs.lemmas.List.{map-set, set-get_or}
use Rattle.drf_gates.specs.filters.Index.{link_hash, hashes_in}
use Rattle.drf_gates.specs.declared.filters.index.Link.{Link}
use Rattle.drf_gates.proofs.filters.Held.{hash-linked, hash-some}
use Rattle.drf_gates.proofs.filters.index.Index.set_before.Goals as goal

pub returns-clause-befores : goal.returns-clause-befores
returns-clause-befores c =
    map-set (λ (l : Link). l.before) c.args.self.now.links.items c.args.place (record { mark = c.link-mark.result.mark; before = c.args.before })

pub returns-clause-hashes : goal.returns-clause-hashes
returns-clause-hashes c =
    let index = c.args.self.now in
    let link : Link = record { mark = c.link-mark.result.mark; before = c.args.before } in
    let same = hash-linked link c.requires.before ∙ sym (hash-some c.link-mark.result (λ e. c.requires.chained (sym c.link-mark.ensures.hash ∙ e))) ∙ c.link-mark.ensures.hash in
    map-set link_hash index.links.items c.args.place link ∙ ap (λ (h : Option ℕ). set (hashes_in index) c.args.place h) same
    ∙ set-get_or (hashes_in index) c.args.place None
