use Rattle.std.proofs.Common.{◌≡◌, ◌+◌, ◌<◌, ℕ, Some, length, get_or, set, ap, refl, ◌∙◌, arith}
use Rattle.std.proofs.lemmas.List.{get_or_default}
use Rattle.drf_gates.specs.declared.filters.index.Link.{Link}
use Rattle.drf_gates.proofs.filters.Held.{tidy-push, hashes-push, befores-push, hash-linked, buckets-long}
use Rattle.drf_gates.proofs.filters.index.Index.push.Goals as goal

pub returns-clause-hashes : goal.returns-clause-hashes
returns-clause-hashes c =
    let index = c.args.self.now in
    let head : c.index-before.result.now ≡ get_or index.heads.items c.bucket-bucket.result 0 =
    c.index-before.ensures ∙ get_or_default index.heads.items c.bucket-bucket.result c.index-before.result.now 0 c.bucket-bucket.ensures.within
    in
    let last = c.requires.chained.head c.bucket-bucket.result c.bucket-bucket.ensures.within in
    let below : c.index-before.result.now < 18446744073709551615 = omega (arith, head, last.within, buckets-long index, index.links.ok.0, index.links.ok.1, index.links.small) in
    let link : Link = record { mark = c.row_hash-mark.result; before = c.index-before.result.now } in
    hashes-push index.links.items c.push_reserved.new.self.items link _ c.push_reserved.ensures.items
    (hash-linked link below ∙ ap (λ (h : ℕ). Some h) c.row_hash-mark.ensures)

pub returns-clause-chained : goal.returns-clause-chained
returns-clause-chained c =
    let index = c.args.self.now in
    let link : Link = record { mark = c.row_hash-mark.result; before = c.index-before.result.now } in
    let next : c.len.result ≡ length index.links.items + 1 = omega (arith, c.len.ensures, c.push_reserved.ensures.len, index.links.ok.0) in
    let head : c.index-before.result.now ≡ get_or index.heads.items c.bucket-bucket.result 0 =
    c.index-before.ensures ∙ get_or_default index.heads.items c.bucket-bucket.result c.index-before.result.now 0 c.bucket-bucket.ensures.within
    in
    let last = c.requires.chained.head c.bucket-bucket.result c.bucket-bucket.ensures.within in
    let below : c.index-before.result.now < 18446744073709551615 = omega (arith, head, last.within, buckets-long index, index.links.ok.0, index.links.ok.1, index.links.small) in
    tidy-push index (set index.heads.items c.bucket-bucket.result c.len.result) c.push_reserved.new.self.items c.row_hash-mark.result c.bucket-bucket.result c.index-before.result.now c.len.result c.requires.chained c.bucket-bucket.ensures.value
    c.bucket-bucket.ensures.within next head
    (hashes-push index.links.items c.push_reserved.new.self.items link (Some c.row_hash-mark.result) c.push_reserved.ensures.items (hash-linked link below))
    (befores-push index.links.items c.push_reserved.new.self.items link c.push_reserved.ensures.items) refl
