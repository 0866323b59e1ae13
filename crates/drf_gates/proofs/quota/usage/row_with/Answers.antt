use Rattle.std.proofs.Common.{◌≡◌, ◌+◌, List, [], Some, Ok, Err, IfOk, Result, sym, ap, ◌∙◌}
use Rattle.std.specs.Map.{lookup}
use Rattle.std.specs.Option.{option_copied, option_map_or}
use Rattle.std.proofs.Common.{Option}
use Rattle.drf_role.specs.Text.{Text}
use Rattle.drf_role.specs.Path.{Path, same_path}
use Rattle.drf_bundle.specs.Quantities.{amount_of, plus}
use Rattle.drf_bundle.proofs.theorems.QuantitiesLaws.{amount-plus}
use Rattle.drf_bundle.specs.declared.quantities.Entry.{Entry}
use Rattle.drf_gates.specs.quota.Allowance.{Usage, row_of}
use Rattle.drf_gates.proofs.quota.usage.row_with.Goals as goal

weaker : {T E : Type 0} (r : Result T E) (P Q : T → Type 0) → ((x : T) → P x → Q x) → IfOk r P → IfOk r Q
weaker (Ok x) P Q step holds = step x holds
weaker (Err e) P Q step holds = tt

pub returns-in-Some : goal.returns-in-Some
returns-in-Some c =
    let role : Path = c.args.role.now in
    let amounts : List Entry = c.args.amounts.now in
    let used : List Usage = c.args.used.now.entries in
    let row : List Entry = c.in-Some.row.now in
    let found : lookup (same_path role) used ≡ Some row = sym c.get.ensures.value ∙ ap option_copied c.in-Some.is in
    let own : row ≡ row_of used role = ap (λ (o : Option (List Entry)). option_map_or (λ q. q) o []) (sym found) in
    weaker c.plus.result (λ sum. sum ≡ plus row amounts)
    (λ sum. (label : Text) → amount_of sum label ≡ amount_of (row_of used role) label + amount_of amounts label)
    (λ sum is label.
    ap (λ (q : List Entry). amount_of q label) is
    ∙ amount-plus row amounts label c.recall.ensures
    ∙ ap (λ (q : List Entry). amount_of q label + amount_of amounts label) own)
    c.plus.ensures
