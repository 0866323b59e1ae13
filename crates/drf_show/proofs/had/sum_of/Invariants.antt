use Rattle.std.proofs.Common.{◌≡◌, ◌+◌, ◌≤◌, [], drop, fold, filter, sum_by, take}
use Rattle.drf_bundle.specs.Bundle.{quantities_of}
use Rattle.drf_bundle.specs.Quantities.{amount_of, plus}
use Rattle.drf_role.specs.Path.{same_path}
use Rattle.drf_role.specs.Text.{Text}
use Rattle.drf_show.specs.Had.{Part, parts_of}
use Rattle.drf_show.proofs.Sums.{part_amount}
use Rattle.drf_show.proofs.had.sum_of.Given as goal

-- the sum of the parts so far, which together with the remaining parts is at most the sum of all
abbrev pub invariant-loop-part : goal.invariant-loop-part
invariant-loop-part l = record {
  sum : l.sum ≡ fold (λ sum (p : Part). plus sum (quantities_of p.1)) [] (filter (λ (p : Part). same_path p.0 l.role) (parts_of (take l.part-index l.parts)));
  room : (label : Text) → amount_of l.sum label + sum_by (part_amount label) (parts_of (drop l.part-index l.parts)) ≤ sum_by (part_amount label) (parts_of l.parts);
}
