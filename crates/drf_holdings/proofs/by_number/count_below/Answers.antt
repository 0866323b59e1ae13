use Rattle.std.proofs.Common.{◌≡◌, ◌<◌, ◌-◌, List, Some, length, slice_get, ltb, sym, ap, ◌∙◌, subst, rules, arith}
use Rattle.std.specs.List.{AllByRecursion}
use Rattle.std.specs.Option.{option_copied}
use Rattle.std.proofs.lemmas.List.{take_all}
use Rattle.std.proofs.lemmas.List.Sorted.{IsPartitionPoint-from_clause, IsPartitionedBy-ltb}
use Rattle.drf_holdings.specs.ByNumber.{slot_number}
use Rattle.drf_holdings.specs.declared.by_number.Slot.{Slot}
use Rattle.drf_holdings.proofs.RisingLists.{rising_by}
use Rattle.drf_holdings.proofs.Places.{below_each, above_each, all_below}
use Rattle.drf_holdings.proofs.by_number.count_below.Goals as goal

pub returns-in-Some-clause-below : goal.returns-in-Some-clause-below
returns-in-Some-clause-below g c =
    let slots = c.args.slots.now in
    let number = c.args.number in
    let point =
    IsPartitionPoint-from_clause (λ s. ltb s.number number) _ _ c.partition_point.ensures.partitioned
    (IsPartitionedBy-ltb (λ s. s.number) slots number (rising_by slot_number slots c.requires)) (λ a r q k. search rules) in
    below_each number slots c.partition_point.result c.partition_point.ensures.bound point.0

pub returns-in-Some-clause-rest : goal.returns-in-Some-clause-rest
returns-in-Some-clause-rest g c =
    let slots = c.args.slots.now in
    let number = c.args.number in
    let point =
    IsPartitionPoint-from_clause (λ s. ltb s.number number) _ _ c.partition_point.ensures.partitioned
    (IsPartitionedBy-ltb (λ s. s.number) slots number (rising_by slot_number slots c.requires)) (λ a r q k. search rules) in
    above_each number slots c.partition_point.result point.1

pub returns-in_default-clause-below : goal.returns-in_default-clause-below
returns-in_default-clause-below g c =
    let slots = c.args.slots.now in
    let last = c.in-Some.last.now in
    let at : slice_get slots (length slots - 1) ≡ Some last = sym c.last.ensures.value ∙ ap option_copied c.in-Some.is in
    subst (λ (ss : List (Slot g.row.T.Denot)). AllByRecursion (λ s. s.number < c.args.number) ss) (sym (take_all (length slots) slots (omega arith)))
    (all_below c.args.number slots (length slots - 1) last (omega arith) c.requires at c.if-number-last.false)
