use Rattle.std.proofs.Common.{◌≡◌, ◌+◌, ◌||◌, Bool, true, false, true≢false, List, ℕ, ◌++◌, ◌∷◌, [], refl, ap, ◌∙◌, sym, length, take, drop, append_assoc, arith}
use Rattle.std.proofs.lemmas.List.Folds.{list_any-append}
use Rattle.std.proofs.lemmas.List.{take-append-drop}
use Rattle.std.proofs.lemmas.Option.{slice_get_read}
use Rattle.std.specs.List.{list_any}
use Rattle.drf_rows.specs.Step.{replies_to}
use Rattle.drf_rows.specs.declared.event.Event.{Event}
use Rattle.drf_rows.specs.declared.reply.Reply.{Reply}
use Rattle.drf_sorter.proofs.theorems.SpendLaws.{spends-at_ok}
use Rattle.drf_core.specs.Working.{may_make_keys}
use Rattle.drf_core.proofs.stepping.Allowance.{spends-more}
use Rattle.drf_core.proofs.stepping.Step.{on_err, HasStopped-at, IsAfterAll-more, reply-more, take_one_more}
use Rattle.drf_core.proofs.allocator.Core.run.Goals as goal

or_false : (a b : Bool) → (a || b) ≡ false → (a ≡ false) × (b ≡ false)
or_false false b none = (refl, none)
or_false true b none = absurd (true≢false none)

-- if no event of a list computes keys, no event of a prefix does
none_before : (events : List Event) (i : ℕ) → list_any may_make_keys events ≡ false
    → list_any may_make_keys (take i events) ≡ false
none_before events i none =
    (or_false (list_any may_make_keys (take i events)) (list_any may_make_keys (drop i events))
    (sym (list_any-append may_make_keys (take i events) (drop i events))
    ∙ ap (list_any may_make_keys) (take-append-drop i events) ∙ none)).0

-- memory ran out for the reply
pub returns-in_err-reserve-clause-stopped : goal.returns-in_err-reserve-clause-stopped
returns-in_err-reserve-clause-stopped g c =
    let events = c.args.events.now in
    let i = c.loop-event.event-index in
    let at = slice_get_read events (length events) i c.event-item.result refl c.loop-event-test.true c.event-item.is in
    on_err c.from_residual.result
    (HasStopped-at c.args.self.now c.loop-event.self c.loop-event.self events i c.event-item.result c.args.replies.now.items c.reserve.new.self.items _
    at c.loop-event.invariant.after (record { limits = refl; rows = refl }) (c.reserve.ensures.items ∙ c.loop-event.invariant.reported)
    (λ room. absurd (omega (arith, room, c.in_err-reserve.ensures.full, c.in_err-reserve.ensures.err, c.reserve.ensures.len))))

pub returns-in_err-reserve-clause-keys : goal.returns-in_err-reserve-clause-keys
returns-in_err-reserve-clause-keys g c none =
    c.loop-event.invariant.keys (none_before c.args.events.now c.loop-event.event-index none)

-- memory ran out for an event that is not refused early
pub returns-in_err-reply-clause-stopped : goal.returns-in_err-reply-clause-stopped
returns-in_err-reply-clause-stopped g c =
    let events = c.args.events.now in
    let i = c.loop-event.event-index in
    let at = slice_get_read events (length events) i c.event-item.result refl c.loop-event-test.true c.event-item.is in
    on_err c.from_residual-in_err-reply.result
    (HasStopped-at c.args.self.now c.loop-event.self c.step_borrowed.new.self events i c.event-item.result c.args.replies.now.items c.reserve.new.self.items _
    at c.loop-event.invariant.after c.in_err-reply.ensures.err (c.reserve.ensures.items ∙ c.loop-event.invariant.reported)
    (λ room. c.in_err-reply.ensures.not_refused))

pub returns-in_err-reply-clause-keys : goal.returns-in_err-reply-clause-keys
returns-in_err-reply-clause-keys g c none =
    let events = c.args.events.now in
    let i = c.loop-event.event-index in
    let at = slice_get_read events (length events) i c.event-item.result refl c.loop-event-test.true c.event-item.is in
    let more : take (i + 1) events ≡ take i events ++ c.event-item.result ∷ [] = take_one_more events i c.event-item.result at in
    let each = or_false (list_any may_make_keys (take i events)) (may_make_keys c.event-item.result || false)
    (sym (list_any-append may_make_keys (take i events) (c.event-item.result ∷ []))
    ∙ ap (list_any may_make_keys) (sym more) ∙ none_before events (i + 1) none) in
    c.step_borrowed.ensures.keys (or_false (may_make_keys c.event-item.result) false each.1).0 ∙ c.loop-event.invariant.keys each.0

pub loop-event-preserved : goal.loop-event-preserved
loop-event-preserved g c =
    let events = c.args.events.now in
    let i = c.loop-event.event-index in
    let event : Event = c.event-item.result in
    let before : List Event = take i events in
    let at = slice_get_read events (length events) i event refl c.loop-event-test.true c.event-item.is in
    let more : take (i + 1) events ≡ before ++ event ∷ [] = take_one_more events i event at in
    let reported : c.push_reserved.new.self.items ≡ (c.args.replies.now.items ++ replies_to c.args.self.now.limits c.args.self.now.rows before) ++ c.in_ok-reply.reply ∷ [] =
    c.push_reserved.ensures.items ∙ ap (λ (rs : List Reply). rs ++ c.in_ok-reply.reply ∷ []) (c.reserve.ensures.items ∙ c.loop-event.invariant.reported) in
    let after = c.loop-event.invariant.after in
    rw more (record {
      after = IsAfterAll-more c.args.self.now c.loop-event.self c.step_borrowed.new.self before event after c.in_ok-reply.ensures.ok;
      safe = c.step_borrowed.ensures.safe;
      spends = spends-more c.args.self.now.limits c.loop-event.self.limits c.args.self.now.rows c.loop-event.self.rows before event
          after.limits after.rows c.loop-event.invariant.spends (spends-at_ok c.in_ok-reply.ensures.spends);
      reported = reported
          ∙ append_assoc c.args.replies.now.items (replies_to c.args.self.now.limits c.args.self.now.rows before) (c.in_ok-reply.reply ∷ [])
          ∙ ap (λ (rs : List Reply). c.args.replies.now.items ++ rs)
          (reply-more c.args.self.now c.loop-event.self before event c.in_ok-reply.reply after c.in_ok-reply.ensures.reply);
      capacity = omega (arith, c.loop-event.invariant.capacity, c.reserve.ensures.capacity, c.push_reserved.ensures.capacity);
      keys = λ none.
          let each = or_false (list_any may_make_keys before) (may_make_keys event || false)
          (sym (list_any-append may_make_keys before (event ∷ [])) ∙ none) in
          c.step_borrowed.ensures.keys (or_false (may_make_keys event) false each.1).0 ∙ c.loop-event.invariant.keys each.0;
    })
