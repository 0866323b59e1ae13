use Rattle.std.proofs.Common.{◌≡◌, List, [], length, sym, ap, ◌∙◌}
use Rattle.std.proofs.lemmas.Bool.{eq-eqb, eqb-true, false≢true}
use Rattle.std.proofs.lemmas.Result.{on_err_weaker, on_ok_weaker}
use Rattle.std.specs.Map.{lookup}
use Rattle.drf_role.specs.Path.{Path, same_path}
use Rattle.drf_bundle.specs.declared.quantities.Entry.{Entry}
use Rattle.drf_rows.specs.Quota.{limits_with}
use Rattle.drf_rows.specs.declared.rows.LimitRow.{LimitRow}
use Rattle.drf_gates.specs.quota.Allowance.{limit_rows}
use Rattle.drf_gates.proofs.quota.Gone.{Limit, nobody_after, nobody_left}
use Rattle.drf_gates.proofs.quota.Rows.{limit_gone, limit_put, limits_with-none, limits_with-some}
use Rattle.drf_gates.proofs.quota.limits.QuotaLimits.set.Goals as goal

pub returns-then-is_empty-clause-ok : goal.returns-then-is_empty-clause-ok
returns-then-is_empty-clause-ok c =
    let role : Path = c.args.role.now in
    let limit : List Entry = c.args.limit in
    let es : List Limit = c.self.inside.limits.entries in
    let same : c.entries.result.now ≡ limit = c.entries.ensures.value in
    let none : length limit ≡ 0 = sym (ap length same) ∙ eqb-true (length c.entries.result.now) 0 (sym c.is_empty.ensures ∙ c.if-is_empty.true) in
    ap limit_rows c.shift_remove.ensures.entries
    ∙ limit_gone es role
    ∙ limits_with-none (limit_rows es) role limit none
    ∙ ap (λ (ls : List LimitRow). limits_with ls role limit) c.self.view_is

pub returns-clause-ok : goal.returns-clause-ok
returns-clause-ok c =
    let role : Path = c.args.role.now in
    let limit : List Entry = c.args.limit in
    let es : List Limit = c.self.inside.limits.entries in
    let same : c.entries.result.now ≡ limit = c.entries.ensures.value in
    let some : length limit ≡ 0 → ⊥ = λ none.
    false≢true (sym (sym c.is_empty.ensures ∙ c.if-is_empty.false) ∙ eq-eqb (length c.entries.result.now) 0 (ap length same ∙ none)) in
    on_ok_weaker c.put_limit.result
    (λ put. ap limit_rows put ∙ limit_put es role limit ∙ limits_with-some (limit_rows es) role limit some
    ∙ ap (λ (ls : List LimitRow). limits_with ls role limit) c.self.view_is)
    c.put_limit.ensures.ok

pub returns-clause-err : goal.returns-clause-err
returns-clause-err c =
    on_err_weaker c.put_limit.result (λ same. ap limit_rows same ∙ c.self.view_is) c.put_limit.ensures.err

pub invariant_of-self : goal.invariant_of-self
invariant_of-self c =
    ap (λ (es : List Limit). lookup (same_path []) es) c.shift_remove.ensures.entries
    ∙ nobody_left c.args.role.now c.self.inside.limits.entries c.self.invariant

pub invariant_of-self-2 : goal.invariant_of-self-2
invariant_of-self-2 c =
    nobody_after c.args.role.now c.args.limit c.self.inside.limits.entries c.put_limit.new.limits.entries c.put_limit.result
    c.put_limit.ensures.ok c.put_limit.ensures.err c.recall.ensures.right c.self.invariant
