use Rattle.std.proofs.Common.{◌≡◌, ◌+◌, ◌-◌, ℕ, subst, ◌∙◌, arith, get_or}
use Rattle.std.proofs.lemmas.List.{get_or_default}
use Rattle.drf_gates.specs.filters.Index.{IsLedTo}
use Rattle.drf_gates.proofs.filters.Held.{led-start, led-more, led-within, led-less, led-on_head, led-on_link, link-bucket}
use Rattle.drf_gates.proofs.filters.index.Index.unlink.Goals as goal

pub loop-after-init : goal.loop-after-init
loop-after-init c =
    let index = c.args.self.now in
    let bucket = c.bucket-bucket.result in
    let head : c.index-after.result.now ≡ get_or index.heads.items bucket 0 =
    c.index-after.ensures ∙ get_or_default index.heads.items bucket c.index-after.result.now 0 c.bucket-bucket.ensures.within
    in
    record {
      led = led-start index bucket c.index-after.result.now head;
      comes = led-on_head index bucket c.index-after.result.now c.args.place c.requires.chained c.bucket-bucket.ensures.within head c.requires.within
          (link-bucket index c.args.place bucket c.link-link.result c.requires.within c.link-link.ensures.hash c.requires.hashed c.bucket-bucket.ensures.value);
    }

pub loop-after-smaller : goal.loop-after-smaller
loop-after-smaller c =
    led-less c.args.self.now c.bucket-bucket.result c.loop-after.from c.loop-after.after (c.loop-after.after - 1) c.link-after.result.before c.requires.chained
    c.bucket-bucket.ensures.within c.loop-after.invariant.led (omega (arith, c.loop-after-test.true)) c.link-after.ensures.before

pub loop-after-preserved : goal.loop-after-preserved
loop-after-preserved c =
    let index = c.args.self.now in
    let bucket = c.bucket-bucket.result in
    let inv = c.loop-after.invariant in
    let after = c.loop-after.after in
    let at : after ≡ (after - 1) + 1 = omega (arith, c.loop-after-test.true) in
    record {
      led = led-more index bucket c.loop-after.from after (after - 1) c.link-after.result.before c.requires.chained c.bucket-bucket.ensures.within inv.led at
          c.link-after.ensures.before;
      comes = led-on_link index bucket c.loop-after.from after (after - 1) c.link-after.result.before c.args.place c.requires.chained c.bucket-bucket.ensures.within
          inv.led at c.link-after.ensures.before c.loop-after-test.true
          (link-bucket index c.args.place bucket c.link-link.result c.requires.within c.link-link.ensures.hash c.requires.hashed c.bucket-bucket.ensures.value);
    }

pub pass-requires-clause-led : goal.pass-requires-clause-led
pass-requires-clause-led c =
    subst (λ (a : ℕ). IsLedTo c.args.self.now c.bucket-bucket.result c.loop-after.from a) (omega (arith, c.loop-after.invariant.comes, c.loop-after-test.false))
    c.loop-after.invariant.led

pub link-after-requires : goal.link-after-requires
link-after-requires c =
    omega (
      arith,
      led-within c.args.self.now c.bucket-bucket.result c.loop-after.from c.loop-after.after c.requires.chained c.bucket-bucket.ensures.within c.loop-after.invariant.led,
      c.loop-after-test.true,
    )
