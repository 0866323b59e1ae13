use Rattle.std.proofs.Common.{◌≡◌, Bool, true, false, not, get_or, sym, ap, ◌∙◌, rules, take_all}
use Rattle.std.specs.List.{list_all}
use Rattle.std.proofs.lemmas.Bool.{and_from}
use Rattle.std.proofs.lemmas.List.Folds.{list_all_at, list_all_more}
use Rattle.drf_role.specs.Path.{same_path}
use Rattle.drf_rows.specs.declared.rows.ClientRow.{ClientRow}
use Rattle.drf_state.proofs.fitting.are_apart.Goals as goal

pub loop-client-preserved : goal.loop-client-preserved
loop-client-preserved c =
    let test : ClientRow → Bool = λ d. not (same_path c.args.role.now d.role) in
    let i = c.loop-client.client-index in
    let past : c.is_in.result ≡ false = search rules in
    let here : test (get_or c.args.clients.now i c.client-item.result) ≡ true = ap test (sym c.client-item.is) ∙ ap not (sym c.is_in.ensures ∙ past) in
    list_all_more test c.args.clients.now i c.client-item.result c.loop-client-test.true ∙ and_from _ _ c.loop-client.invariant here

pub returns-then-is_in : goal.returns-then-is_in
returns-then-is_in c =
    let test : ClientRow → Bool = λ d. not (same_path c.args.role.now d.role) in
    let i = c.loop-client.client-index in
    let known : c.is_in.result ≡ true = search rules in
    let here : test (get_or c.args.clients.now i c.client-item.result) ≡ false = ap test (sym c.client-item.is) ∙ ap not (sym c.is_in.ensures ∙ known) in
    sym (list_all_at test c.args.clients.now i c.client-item.result c.loop-client-test.true here)

pub returns : goal.returns
returns c =
    let test : ClientRow → Bool = λ d. not (same_path c.args.role.now d.role) in
    sym (ap (list_all test) (sym (take_all c.loop-client.client-index c.args.clients.now c.loop-client-test.false)) ∙ c.loop-client.invariant)
