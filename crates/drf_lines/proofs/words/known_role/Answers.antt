use Rattle.std.proofs.Common.{sym, ◌∙◌}
use Rattle.drf_lines.specs.Words.{role_in}
use Rattle.drf_lines.proofs.KnownWords.{role_known, copied}
use Rattle.drf_lines.proofs.words.known_role.Goals as goal

pub returns-then-eq : goal.returns-then-eq
returns-then-eq c =
    let known = role_known _ c.text.result.now c.args.text.now c.text.ensures.right c.text.ensures.parts (sym c.eq.ensures ∙ c.if-eq.true) in
    rw c.ok.ensures.value (copied c.copy.result (role_in c.args.text.now) _ c.copy.ensures known)
