use Rattle.std.proofs.Common.{◌≡◌, ◌⊎◌, true, List, ℕ, take}
use Rattle.drf_bundle.specs.Quantities.{amount_of, is_named, names_all}
use Rattle.drf_tree.proofs.charge.name_each.Given as goal

-- each label so far has an entry
abbrev pub invariant-loop-entry : goal.invariant-loop-entry
invariant-loop-entry l = record {
  same : (label : List ℕ) → amount_of l.held label ≡ amount_of l.initial.held label;
  few : (label : List ℕ) → is_named l.held label ≡ true → (is_named l.initial.held label ≡ true) ⊎ (is_named l.entry-items label ≡ true);
  named : names_all l.held (take l.entry-index l.entry-items) ≡ true;
}
