use Rattle.std.proofs.Common.{◌≡◌, ◌∷◌, [], ◌++◌, ◌&&◌, cond, Some, None, is_some, sym, ap, ◌∙◌}
use Rattle.std.specs.Map.{lookup}
use Rattle.std.specs.Option.{option_copied_mut, option_to_list}
use Rattle.drf_role.specs.Text.{Text, same_text}
use Rattle.drf_holdings.specs.Listed.{serials_in}
use Rattle.drf_holdings.proofs.Lists.{on_err}
use Rattle.drf_holdings.proofs.Named.{at_task, serials_at, named_same, named_in, list_cond}
use Rattle.drf_holdings.proofs.names.Names.add.Goals as goal

pub returns-in_err-insert-clause-err : goal.returns-in_err-insert-clause-err
returns-in_err-insert-clause-err c =
    let framework : Text = c.args.framework.now in
    let old = c.args.self.now.frameworks.entries in
    let found : lookup (same_text framework) old ≡ Some c.in-Some.tasks.now = sym c.get_mut.ensures.value ∙ ap option_copied_mut c.in-Some.is in
    let w = c.insert.new.self in
    let wrote = (c.get_mut.follows.holds w).3 (ap is_some found) in
    let kept = c.in_err-insert.ensures.err in
    on_err _ _ (named_same (λ m. m.entries) old (c.get_mut.follows.lender w).entries framework w wrote.0
    (λ q. ap (λ es. option_to_list (lookup (same_text q) es)) kept ∙ sym (ap (λ o. at_task (λ m. m.entries) o q) found)))

pub returns-in-Some-clause-ok : goal.returns-in-Some-clause-ok
returns-in-Some-clause-ok c =
    let framework : Text = c.args.framework.now in
    let old = c.args.self.now.frameworks.entries in
    let found : lookup (same_text framework) old ≡ Some c.in-Some.tasks.now = sym c.get_mut.ensures.value ∙ ap option_copied_mut c.in-Some.is in
    let w = c.insert.new.self in
    let wrote = (c.get_mut.follows.holds w).3 (ap is_some found) in
    let name : Text = c.in_ok-name.name in
    let named : name ≡ c.args.name.now = c.in_ok-name.ensures in
    let updates = c.in_ok-insert.ensures.updates in
    λ key. named_in (λ m. m.entries) old (c.get_mut.follows.lender w).entries framework w wrote.0 name c.args.serial
    (λ q. ap option_to_list (updates.0 q) ∙ list_cond (same_text name q) c.args.serial (lookup (same_text q) c.in-Some.tasks.now.entries)
    ∙ ap (λ o. cond (same_text name q) (c.args.serial ∷ []) (at_task (λ m. m.entries) o q)) (sym found))
    (ap (at_task (λ m. m.entries) (lookup (same_text framework) old)) named ∙ c.requires) key
    ∙ (λ i. serials_in c.args.self.now key ++ cond (same_text framework key.0 && same_text (named i) key.1) (c.args.serial ∷ []) [])

pub returns-clause-ok : goal.returns-clause-ok
returns-clause-ok c =
    let old = c.args.self.now.frameworks.entries in
    let none : lookup (same_text c.args.framework.now) old ≡ None = sym c.get_mut.ensures.value ∙ ap option_copied_mut c.in_default.is in
    let same = c.get_mut.follows.holds-at-none in
    let mid = c.get_mut.follows.lender-at-none.entries in
    let framework : Text = c.in_ok-copy.field-0 in
    let copied : framework ≡ c.args.framework.now = c.in_ok-copy.ensures in
    let name : Text = c.in_ok-name.name in
    let named : name ≡ c.args.name.now = c.in_ok-name.ensures in
    let missing : lookup (same_text framework) mid ≡ None = (λ i. lookup (same_text (copied i)) (same i).entries) ∙ none in
    let w = c.insert-2.new.self in
    let updates = c.in_ok-insert-2.ensures.updates in
    let wrote = c.in_ok-insert-3.ensures.updates in
    λ key. named_in (λ m. m.entries) mid c.insert-3.new.self.entries framework w wrote.0 name c.args.serial
    (λ q. ap option_to_list (updates.0 q) ∙ list_cond (same_text name q) c.args.serial (lookup (same_text q) c.with_hasher-tasks.result.entries)
    ∙ ap (λ es. cond (same_text name q) (c.args.serial ∷ []) (option_to_list (lookup (same_text q) es))) c.with_hasher-tasks.ensures.empty
    ∙ ap (λ o. cond (same_text name q) (c.args.serial ∷ []) (at_task (λ m. m.entries) o q)) (sym missing))
    (ap (λ o. at_task (λ m. m.entries) o name) missing) key
    ∙ (λ i. serials_at (λ m. m.entries) (same i).entries key ++ cond (same_text (copied i) key.0 && same_text (named i) key.1) (c.args.serial ∷ []) [])
