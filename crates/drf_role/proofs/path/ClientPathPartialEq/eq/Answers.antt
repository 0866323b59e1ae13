use Rattle.std.proofs.Common.{◌≡◌, ◌&&◌, true, false, Bool, sym, ap, ◌∙◌}
use Rattle.drf_role.proofs.ClientLemmas.{same_text, same_path, same_path-clients}
use Rattle.drf_role.proofs.path.ClientPathPartialEq.eq.Goals as goal

pub returns-then-eq : goal.returns-then-eq
returns-then-eq c =
    let a = c.self.inside in
    let b = c.other.inside in
    let frameworks : same_text a.framework b.framework ≡ true = sym c.eq.ensures ∙ c.if-eq.true in
    rw (← c.self.view_is, ← c.other.view_is)
    (c.eq-then-eq.ensures ∙ sym (same_path-clients a.role b.role a.framework b.framework ∙ ap (λ (t : Bool). t && same_path a.role b.role) frameworks))

pub returns-else-eq : goal.returns-else-eq
returns-else-eq c =
    let a = c.self.inside in
    let b = c.other.inside in
    let frameworks : same_text a.framework b.framework ≡ false = sym c.eq.ensures ∙ c.if-eq.false in
    rw (← c.self.view_is, ← c.other.view_is)
    (c.if-eq.false ∙ sym (same_path-clients a.role b.role a.framework b.framework ∙ ap (λ (t : Bool). t && same_path a.role b.role) frameworks))
