use Rattle.std.proofs.Common.{◌≡◌, ◌-◌, ◌<◌, ◌==◌, ℕ, Option, false, length, get_or, ap, sym, ◌∙◌, arith}
use Rattle.std.proofs.lemmas.Bool.Decides.{nat_tests}
use Rattle.std.proofs.lemmas.List.{get_or_default}
use Rattle.drf_rows.specs.Filters.{holds_back}
use Rattle.drf_rows.specs.Client.{Client}
use Rattle.drf_rows.specs.declared.rows.FilterRow.{FilterRow}
use Rattle.drf_gates.specs.filters.Index.{hash_bucket, pair_hash}
use Rattle.drf_gates.specs.filters.Slots.{slot_passes}
use Rattle.drf_gates.specs.declared.filters.index.Key.TheVariants.{ClientAndAgent}
use Rattle.drf_gates.proofs.filters.Held.{held_hash, held_by, held_by_none, walk-start, walk-less, walk-marked, walk-next}
use Rattle.drf_gates.proofs.filters.slots.Slots.hold_back.Goals.{else-link-hash-via-then-link-hash+else-slot_holds_back, else-link-hash-via-else-link-hash}
use Rattle.drf_gates.proofs.filters.slots.Slots.hold_back.Goals as goal

pub loop-after-init : goal.loop-after-init
loop-after-init c =
    let s = c.args.self.now in
    let client : Client = record { role = c.args.role.now; framework = c.args.framework.now } in
    let not_empty : (s.rows.len == 0) ≡ false = sym c.is_empty.ensures ∙ c.if-is_empty.false in
    let some : 0 < length s.pairs.heads.items = grind (arith, nat_tests, not_empty, s.rows.ok.0, c.requires.pairs.marked.enough) in
    walk-start s.rows.items s.pairs (slot_passes (holds_back c.args.now client c.args.agent.now c.args.bundle.now))
    (pair_hash s.pairs.start client.role client.framework c.args.agent.now) ClientAndAgent c.requires.pairs
    (held_hash s.pairs.start c.args.now client c.args.agent.now c.args.bundle.now) some c.last-after.result
    (c.last-after.ensures ∙ ap (λ (h : ℕ). get_or s.pairs.heads.items (hash_bucket (length s.pairs.heads.items) h) 0) c.pair_hash-hash.ensures)

pub loop-after-smaller : goal.loop-after-smaller
loop-after-smaller c =
    let s = c.args.self.now in
    let client : Client = record { role = c.args.role.now; framework = c.args.framework.now } in
    let after = c.loop-after.after in
    let some : 0 < length s.pairs.heads.items = omega (arith, c.loop-after.invariant.within, c.loop-after-test.true, c.requires.pairs.marked.enough) in
    walk-less s.rows.items s.pairs (slot_passes (holds_back c.args.now client c.args.agent.now c.args.bundle.now))
    (pair_hash s.pairs.start client.role client.framework c.args.agent.now) ClientAndAgent c.requires.pairs
    (held_hash s.pairs.start c.args.now client c.args.agent.now c.args.bundle.now) some after (after - 1) c.link-link.result.before
    (omega arith) c.link-link.ensures.before c.loop-after.invariant

pub loop-after-preserved : goal.loop-after-preserved
loop-after-preserved c =
    let s = c.args.self.now in
    let client : Client = record { role = c.args.role.now; framework = c.args.framework.now } in
    let test = slot_passes (holds_back c.args.now client c.args.agent.now c.args.bundle.now) in
    let hash = pair_hash s.pairs.start client.role client.framework c.args.agent.now in
    let its = held_hash s.pairs.start c.args.now client c.args.agent.now c.args.bundle.now in
    let after = c.loop-after.after in
    let small : after - 1 < length s.rows.items = omega (arith, c.loop-after.invariant.within, c.loop-after-test.true) in
    let some : 0 < length s.pairs.heads.items = omega (arith, small, c.requires.pairs.marked.enough) in
    let fails : (d : Option FilterRow) → test (get_or s.rows.items (after - 1) d) ≡ false =
    elim c.else-link-hash.branch [
      | else-link-hash-via-then-link-hash+else-slot_holds_back w ↦ λ d.
          ap test (get_or_default s.rows.items (after - 1) d w.index.result.now small ∙ sym w.index.ensures) ∙ sym w.slot_holds_back.ensures ∙ w.if-slot_holds_back.false
      | else-link-hash-via-else-link-hash w ↦ λ d.
          walk-marked s.rows.items s.pairs test hash ClientAndAgent c.requires.pairs its some (after - 1) d c.link-link.result small c.link-link.ensures.hash
          (λ e. w.if-link-hash.false (e ∙ sym c.pair_hash-hash.ensures))
    ] in
    walk-next s.rows.items s.pairs test hash ClientAndAgent c.requires.pairs its some after (after - 1) c.link-link.result.before (omega arith)
    c.link-link.ensures.before fails c.loop-after.invariant

pub returns-then-slot_holds_back : goal.returns-then-slot_holds_back
returns-then-slot_holds_back c =
    let s = c.args.self.now in
    let client : Client = record { role = c.args.role.now; framework = c.args.framework.now } in
    sym (held_by (holds_back c.args.now client c.args.agent.now c.args.bundle.now) s.rows.items (c.loop-after.after - 1) c.index.result.now
    (omega (arith, c.loop-after.invariant.within, c.loop-after-test.true)) c.index.ensures (sym c.slot_holds_back.ensures ∙ c.if-slot_holds_back.true))

pub returns : goal.returns
returns c =
    let s = c.args.self.now in
    let client : Client = record { role = c.args.role.now; framework = c.args.framework.now } in
    sym (held_by_none (holds_back c.args.now client c.args.agent.now c.args.bundle.now) s.rows.items
    (λ k d after below. c.loop-after.invariant.passed k d (omega (arith, c.loop-after-test.false)) below))
