use Rattle.std.proofs.Common.{length, drop, refl, sym, ◌∙◌}
use Rattle.std.specs.Cmp.{both_ways}
use Rattle.std.specs.Cmp.Lexicographic.{bytes_decides}
use Rattle.std.proofs.lemmas.Slice.Eq.{starts_is}
use Rattle.drf_role.specs.Path.{begins_with}
use Rattle.drf_role.proofs.role.Role.is_within.Goals as goal

pub returns-clause-value : goal.returns-clause-value
returns-clause-value c =
    let role = c.self.inside.joined in
    let outer = c.outer.inside.joined in
    let begins = starts_is bytes_decides role outer (begins_with role outer) refl in
    let within = c.begins_with.ensures in
    both_ways c.begins_with.result (begins_with role outer)
    (λ yes. let rest = within.0 yes in begins.1 rest.0 (sym rest.1))
    (λ yes. within.1 (drop (length outer) role, sym (begins.0 yes)))
    ∙ (λ i. begins_with (c.self.view_is i) (c.outer.view_is i))
