use Rattle.std.proofs.Common.{◌≡◌, map, take, ap, sym, ◌∙◌, ◌++◌, List, ℕ, string_bytes, get_or}
use Rattle.std.specs.List.{join_with_byte}
use Rattle.drf_kinds.specs.Listed.{intervals_of}
use Rattle.drf_kinds.proofs.ListedLaws.{intervals_of-members}
use Rattle.std.proofs.lemmas.List.{get_or_default, take_all}
use Rattle.drf_kinds.specs.declared.interval.Interval.{Interval}
use Rattle.drf_text.specs.Written.{interval_text}
use Rattle.drf_text.proofs.Joined.{mapped_more}
use Rattle.drf_text.proofs.write.push_intervals.Goals as goal

pub loop-i-preserved : goal.loop-i-preserved
loop-i-preserved c =
    let none : Interval = record { first = 0; last = 0 } in
    let intervals = c.intervals-intervals.result.now in
    let e = get_or intervals c.loop-i.i none in
    mapped_more interval_text (string_bytes c.args.text.now) 44 intervals c.loop-i.i e (string_bytes c.loop-i.text) (string_bytes c.push_interval.new.text) c.loop-i-test.true (get_or_default intervals c.loop-i.i none e c.loop-i-test.true) c.loop-i.invariant
    (c.in_ok-push_interval.ensures ∙ ap (λ (b : List ℕ). b ++ interval_text e) c.in_ok-push_separator.ensures)

pub returns : goal.returns
returns c =
    let intervals : intervals_of c.args.ranges.now ≡ c.intervals-intervals.result.now =
    ap intervals_of (sym c.intervals-intervals.ensures.value) ∙ intervals_of-members c.intervals-intervals.result.now c.intervals-intervals.ensures.maximal in
    let all : take c.loop-i.i c.intervals-intervals.result.now ≡ intervals_of c.args.ranges.now =
    take_all c.loop-i.i c.intervals-intervals.result.now c.loop-i-test.false ∙ sym intervals in
    c.loop-i.invariant ∙ ap (λ (is : List Interval). string_bytes c.args.text.now ++ join_with_byte 44 (map interval_text is)) all
