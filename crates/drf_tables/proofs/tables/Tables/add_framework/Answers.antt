use Rattle.std.proofs.Common.{◌≡◌, ◌<◌, ◌++◌, ◌∷◌, [], List, map, false, ap, subst, sym, ◌∙◌, refl}
use Rattle.std.specs.List.{AllByRecursion}
use Rattle.drf_tables.proofs.tables.Names.{IsFramework, offers_counted, has_framework, ClientRow, FrameworkRow, Stored}
use Rattle.drf_role.specs.Role.{IsRole}
use Rattle.drf_row_laws.proofs.RegistrationLaws.{framework_added}
use Rattle.drf_tables.specs.Inside.{rows_of, rows_in}
use Rattle.drf_tables.proofs.tables.Fields.{has_framework-rows_in, rows_of-framework}
use Rattle.drf_tables.proofs.tables.Kept.{AreDerived-framework_added}
use Rattle.drf_tables.proofs.limits.Counts.{counts-same}
use Rattle.drf_tables.proofs.tables.Tables.add_framework.Goals as goal

pub add-requires-clause-new : goal.add-requires-clause-new
add-requires-clause-new c =
    let name = c.args.name in
    sym (has_framework-rows_in c.self.inside name) ∙ ap (λ (s : Stored). has_framework s.rows name) c.self.view_is ∙ c.requires.new

pub invariant_of-self : goal.invariant_of-self
unfolding rows_of
invariant_of-self c =
    let t = c.self.inside in
    let name = c.args.name in
    let f : FrameworkRow = record { name = name; clients = c.args.clients } in
    let new : has_framework (rows_in t) name ≡ false =
    ap (λ (s : Stored). has_framework s.rows name) c.self.view_is ∙ c.requires.new in
    let counted : offers_counted ((rows_in t).frameworks ++ f ∷ []) < (rows_in t).next_offer =
    subst (λ (s : Stored). offers_counted (s.rows.frameworks ++ f ∷ []) < s.rows.next_offer) (sym c.self.view_is) c.requires.counted in
    let valid : IsFramework f = record {
      name = c.recall.ensures;
      roles = subst (λ (clients : List ClientRow). AllByRecursion IsRole (map (λ x. x.role) clients)) c.as_slice.ensures c.recall_roles.ensures;
    } in
    let rows =
    rows_of-framework t c.add.new.self.entries name c.into_vec.result c.add.ensures
    ∙ ap (λ (clients : List ClientRow). framework_added (rows_in t) (record { name = name; clients = clients }))
    c.into_vec.ensures in
    record {
      kept = rw (rows, c.len.ensures) (
          AreDerived-framework_added (rows_in t) t.agents.entries t.total t.clients f
          c.self.invariant.kept new valid c.requires.roles counted
          );
      consumed = counts-same (rows_in c.self.inside) _ _ c.self.invariant.consumed refl (λ test label. refl);
    }

pub returns-clause-rows : goal.returns-clause-rows
returns-clause-rows c =
    rows_of-framework c.self.inside c.add.new.self.entries c.args.name c.into_vec.result c.add.ensures
    ∙ (λ i. framework_added (c.self.view_is i).rows (record { name = c.args.name; clients = c.into_vec.ensures i }))
