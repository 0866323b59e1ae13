use Rattle.std.proofs.Common.{◌≡◌, true, Some, Option, find, is_some, sym, ap, ◌∙◌, refl}
use Rattle.std.specs.Global.{Vec}
use Rattle.std.specs.Map.{lookup}
use Rattle.std.specs.Option.{option_copied, option_map}
use Rattle.drf_tables.proofs.tables.Names.{Text, same_text, has_framework, ClientRow, FrameworkRow, Stored}
use Rattle.drf_tables.specs.Inside.{rows_of, rows_in, framework_row}
use Rattle.drf_tables.proofs.registry.Entries.{found-lookup, is_some-copied}
use Rattle.drf_tables.proofs.tables.Fields.{has_framework-rows_in}
use Rattle.drf_tables.proofs.tables.Tables.clients.Goals as goal

pub unwrap-requires : goal.unwrap-requires
unwrap-requires c =
    let t = c.self.inside in
    let name : Text = c.args.framework.now in
    let known : has_framework (rows_in t) name ≡ true =
    ap (λ (s : Stored). has_framework s.rows name) c.self.view_is ∙ c.requires in
    sym (is_some-copied c.get.result) ∙ ap is_some c.get.ensures.value ∙ sym (has_framework-rows_in t name) ∙ known

pub returns : goal.returns
unfolding rows_of
returns c = λ f at.
    let t = c.self.inside in
    let name : Text = c.args.framework.now in
    let v : Vec ClientRow = c.unwrap.result.now in
    let there : lookup (same_text name) t.frameworks.entries ≡ Some v = sym c.get.ensures.value ∙ ap option_copied c.unwrap.ensures in
    let found : find (λ f. same_text f.name name) (rows_in t).frameworks ≡ Some (framework_row (name, v)) =
    found-lookup framework_row (λ f. f.name) name t.frameworks.entries (λ e. refl)
    ∙ ap (option_map (λ (v : Vec ClientRow). framework_row (name, v))) there in
    let both : ◌≡◌ {A = Option FrameworkRow} (Some (framework_row (name, v))) (Some f) =
    sym found ∙ ap (λ (s : Stored). find (λ f. same_text f.name name) s.rows.frameworks) c.self.view_is ∙ at in
    let same : framework_row (name, v) ≡ f = cc in
    c.as_slice.ensures.value ∙ (λ i. (same i).clients)
