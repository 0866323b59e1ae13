use Rattle.std.proofs.Common.{ℕ, ◌+◌, ◌-◌, ◌≤◌, length, nat_lt, sym, ap, ◌∙◌, arith}
use Rattle.drf_role.specs.Text.{Text, same_text}
use Rattle.drf_rows.specs.Members.{distinct}
use Rattle.drf_rows.specs.declared.rows.FrameworkRow.{FrameworkRow}
use Rattle.drf_rows.specs.declared.rows.Rows.{Rows}
use Rattle.drf_core.proofs.effects.Ended.{one_found}
use Rattle.drf_core.proofs.refusing.Roles.{clients_within, of_known, of_unknown}
use Rattle.drf_core.proofs.refusal.too_many_roles.Goals as goal

pub returns-then-not-has_framework : goal.returns-then-not-has_framework
returns-then-not-has_framework c =
    let rows : Rows = c.args.tables.now.rows in
    let few : length (distinct c.args.roles.now) ≤ c.args.limits.now.roles = omega (arith, c.in-Some.ensures.some.0, c.in-Some.ensures.some.1, ap (λ rs. length (distinct rs)) c.as_slice.ensures, c.roles.ensures.value) in
    (λ i. nat_lt (c.clients.ensures.value i) (c.client_count.ensures i))
    ∙ of_unknown c.args.limits.now rows c.args.framework.now c.args.roles.now few (sym c.has_framework.ensures ∙ c.if-not-has_framework.true)

pub overflow_sub-others : goal.overflow_sub-others
overflow_sub-others c =
    let rows : Rows = c.args.tables.now.rows in
    let name : Text = c.args.framework.now in
    let f = one_found (λ (f : FrameworkRow). same_text f.name name) rows.frameworks (sym c.has_framework.ensures ∙ c.if-not-has_framework.false) in
    omega (arith, c.client_count-2.ensures, ap (λ cs. length cs) (c.clients-2.ensures f.one f.found), clients_within rows.frameworks (λ f. same_text f.name name) f.one f.found)

pub overflow_add-result : goal.overflow_add-result
overflow_add-result c = omega (arith, c.client_count-2.ensures, c.requires.few.clients, c.requires.few.ceilings.clients.1, c.requires.few.ceilings.roles.1, c.in-Some.ensures.some.1, c.roles.ensures.value)

pub returns : goal.returns
returns c =
    let rows : Rows = c.args.tables.now.rows in
    let name : Text = c.args.framework.now in
    let f = one_found (λ (f : FrameworkRow). same_text f.name name) rows.frameworks (sym c.has_framework.ensures ∙ c.if-not-has_framework.false) in
    let had = ap (λ cs. length cs) (c.clients-2.ensures f.one f.found) in
    let within = clients_within rows.frameworks (λ f. same_text f.name name) f.one f.found in
    let count = c.in-Some.ensures.some.0 ∙ ap (λ rs. length (distinct rs)) c.as_slice.ensures in
    let few : length (distinct c.args.roles.now) ≤ c.args.limits.now.roles = omega (arith, count, c.in-Some.ensures.some.1, c.roles.ensures.value) in
    let after : ℕ = c.client_count-2.result - length c.clients-2.result.now + c.in-Some.roles in
    ap (λ (n : ℕ). nat_lt n after) c.clients-3.ensures.value
    ∙ of_known c.args.limits.now rows name c.args.roles.now few f.one after c.recall.ensures f.found
    (omega (arith, c.client_count-2.ensures, had, within, count))
