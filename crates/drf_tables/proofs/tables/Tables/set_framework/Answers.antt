use Rattle.std.proofs.Common.{◌≡◌, false, Some, find, length, refl, sym, ap, ◌∙◌, arith}
use Rattle.std.specs.Option.{option_map_or}
use Rattle.std.specs.Global.{Vec}
use Rattle.drf_rows.specs.Held.{clients_in}
use Rattle.drf_rows.specs.Roles.{framework_set, is_role_in_use, with_framework_roles, with_roles}
use Rattle.drf_tables.specs.Inside.{rows_of, rows_in}
use Rattle.drf_tables.proofs.tables.Names.{Text, same_text, has_framework, ClientRow, FrameworkRow, Stored}
use Rattle.drf_tables.proofs.agents.Roles.{known_framework, clients-had, clients-set, rows-set, kept-set}
use Rattle.drf_tables.proofs.limits.Counts.{counts-same}
use Rattle.drf_tables.proofs.tables.Tables.set_framework.Goals as goal

pub overflow_sub-others : goal.overflow_sub-others
overflow_sub-others c =
    let t = c.self.inside in
    let name : Text = c.args.framework.now in
    let had = known_framework t name (ap (λ (s : Stored). has_framework s.rows name) c.self.view_is ∙ c.requires.known) in
    let those : (f : FrameworkRow) → find (λ f. same_text f.name name) (rows_in t).frameworks ≡ Some f → c.into_vec-clients.result.items ≡ with_roles c.args.roles.now f.clients =
    λ f at. c.into_vec-clients.ensures ∙ c.requires.clients f (ap (λ (s : Stored). find (λ f. same_text f.name name) s.rows.frameworks) (sym c.self.view_is) ∙ at) in
    let count : c.count_clients.result ≡ length had.clients.items = c.count_clients.ensures ∙ ap (λ o. option_map_or (λ (v : Vec ClientRow). length v.items) o 0) had.found in
    omega (arith, count, clients-had t c.self.invariant.kept name c.args.roles.now c.into_vec-clients.result had.clients had.found those)

pub overflow_add-self : goal.overflow_add-self
overflow_add-self c =
    let t = c.self.inside in
    let name : Text = c.args.framework.now in
    let had = known_framework t name (ap (λ (s : Stored). has_framework s.rows name) c.self.view_is ∙ c.requires.known) in
    let those : (f : FrameworkRow) → find (λ f. same_text f.name name) (rows_in t).frameworks ≡ Some f → c.into_vec-clients.result.items ≡ with_roles c.args.roles.now f.clients =
    λ f at. c.into_vec-clients.ensures ∙ c.requires.clients f (ap (λ (s : Stored). find (λ f. same_text f.name name) s.rows.frameworks) (sym c.self.view_is) ∙ at) in
    let count : c.count_clients.result ≡ length had.clients.items = c.count_clients.ensures ∙ ap (λ o. option_map_or (λ (v : Vec ClientRow). length v.items) o 0) had.found in
    let few = ap (λ (s : Stored). length (clients_in (with_framework_roles s.rows name c.args.roles.now))) c.self.view_is in
    omega (arith, count, few, c.requires.few, c.len.ensures, clients-set t c.self.invariant.kept name c.args.roles.now c.into_vec-clients.result had.clients had.found those)

pub invariant_of-self : goal.invariant_of-self
unfolding rows_of
invariant_of-self c =
    let t = c.self.inside in
    let name : Text = c.args.framework.now in
    let had = known_framework t name (ap (λ (s : Stored). has_framework s.rows name) c.self.view_is ∙ c.requires.known) in
    let those : (f : FrameworkRow) → find (λ f. same_text f.name name) (rows_in t).frameworks ≡ Some f → c.into_vec-clients.result.items ≡ with_roles c.args.roles.now f.clients =
    λ f at. c.into_vec-clients.ensures ∙ c.requires.clients f (ap (λ (s : Stored). find (λ f. same_text f.name name) s.rows.frameworks) (sym c.self.view_is) ∙ at) in
    let count : c.count_clients.result ≡ length had.clients.items = c.count_clients.ensures ∙ ap (λ o. option_map_or (λ (v : Vec ClientRow). length v.items) o 0) had.found in
    let unused : is_role_in_use (rows_in t) name c.args.roles.now ≡ false = ap (λ (s : Stored). is_role_in_use s.rows name c.args.roles.now) c.self.view_is ∙ c.requires.unused in
    record {
      kept = rw (c.put_clients.ensures, count, c.len.ensures ∙ c.into_vec-clients.result.ok.0) (kept-set t c.self.invariant.kept name c.args.roles.now c.into_vec-clients.result had.clients had.found those
          c.drop_left.new.self c.drop_left.ensures c.recall_roles.ensures unused);
      consumed = counts-same (rows_in c.self.inside) _ _ c.self.invariant.consumed refl (λ test label. refl);
    }

pub returns-clause-rows : goal.returns-clause-rows
unfolding rows_of
returns-clause-rows c =
    let t = c.self.inside in
    let name : Text = c.args.framework.now in
    let had = known_framework t name (ap (λ (s : Stored). has_framework s.rows name) c.self.view_is ∙ c.requires.known) in
    let those : (f : FrameworkRow) → find (λ f. same_text f.name name) (rows_in t).frameworks ≡ Some f → c.into_vec-clients.result.items ≡ with_roles c.args.roles.now f.clients =
    λ f at. c.into_vec-clients.ensures ∙ c.requires.clients f (ap (λ (s : Stored). find (λ f. same_text f.name name) s.rows.frameworks) (sym c.self.view_is) ∙ at) in
    rw c.put_clients.ensures (rows-set t c.self.invariant.kept name c.args.roles.now c.into_vec-clients.result had.clients had.found those c.drop_left.new.self c.drop_left.ensures)
    ∙ ap (λ (s : Stored). framework_set s.rows name c.args.roles.now) c.self.view_is
