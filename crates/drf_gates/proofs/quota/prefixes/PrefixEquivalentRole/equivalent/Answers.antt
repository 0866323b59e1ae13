use Rattle.std.proofs.Common.{eqb, ap, ◌∙◌}
use Rattle.std.specs.Cmp.Lexicographic.{pointwise}
use Rattle.drf_role.specs.Text.{Text}
use Rattle.drf_gates.proofs.quota.Prefix.{same_role}
use Rattle.drf_gates.proofs.quota.prefixes.PrefixEquivalentRole.equivalent.Goals as goal

pub returns : goal.returns
returns c =
    c.eq.ensures
    ∙ ap (λ (t : Text). pointwise eqb c.args.self.now.text.now t) c.text.ensures.text
    ∙ same_role c.args.self.now.text.now c.args.key.now c.text.ensures.right
