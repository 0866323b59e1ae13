use Rattle.std.proofs.Common.{◌≡◌, ◌+◌, ◌==◌, ℕ, List, true, false, ap, set, ◌∙◌, get_or, arith}
use Rattle.std.proofs.lemmas.Bool.Decides.{nat_tests}
use Rattle.std.proofs.lemmas.List.{get_or_default, length-take}
use Rattle.drf_gates.specs.filters.Index.{buckets_in}
use Rattle.drf_gates.proofs.filters.Held.{tidy-free_slot, tidy-next}
use Rattle.drf_gates.proofs.filters.index.Index.chain.Goals as goal

pub set_before-requires-clause-before : goal.set_before-requires-clause-before
set_before-requires-clause-before c =
    let index = c.args.self.now in
    let head : c.index-head.result.now ≡ get_or index.heads.items c.bucket-bucket.result 0 =
    c.index-head.ensures ∙ get_or_default index.heads.items c.bucket-bucket.result c.index-head.result.now 0 c.bucket-bucket.ensures.within
    in
    let last = c.requires.chained.head c.bucket-bucket.result c.bucket-bucket.ensures.within in
    omega (arith, head, last.within, length-take c.args.place (buckets_in index), c.requires.within, index.links.ok.0, index.links.ok.1, index.links.small)

pub returns-then-link-clause-chained : goal.returns-then-link-clause-chained
returns-then-link-clause-chained c =
    let index = c.args.self.now in
    let free_slot : (c.link-link.result.before == 18446744073709551615) ≡ true = grind (arith, nat_tests, c.if-link.true) in
    tidy-free_slot index c.args.place c.link-link.result c.requires.chained c.requires.within c.link-link.ensures.hash free_slot

pub returns-clause-chained : goal.returns-clause-chained
returns-clause-chained c =
    let index = c.args.self.now in
    let linked : (c.link-link.result.before == 18446744073709551615) ≡ false = grind (arith, nat_tests, c.if-link.false) in
    let head : c.index-head.result.now ≡ get_or index.heads.items c.bucket-bucket.result 0 =
    c.index-head.ensures ∙ get_or_default index.heads.items c.bucket-bucket.result c.index-head.result.now 0 c.bucket-bucket.ensures.within
    in
    tidy-next index (set c.set_before.new.self.heads.items c.bucket-bucket.result (c.args.place + 1)) c.set_before.new.self.links.items c.args.place c.bucket-bucket.result c.index-head.result.now c.link-link.result c.requires.chained c.requires.within c.link-link.ensures.hash linked
    c.bucket-bucket.ensures.value c.bucket-bucket.ensures.within head c.set_before.ensures.hashes c.set_before.ensures.befores
    (ap (λ (hs : List ℕ). set hs c.bucket-bucket.result (c.args.place + 1)) (ap (λ h. h.items) c.set_before.ensures.heads))
