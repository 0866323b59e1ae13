use Rattle.std.proofs.Common.{◌≡◌, true, sym, subst, ◌∙◌}
use Rattle.std.specs.Str.{bytes_eq}
use Rattle.drf_lines.specs.Words.{name_in}
use Rattle.drf_lines.proofs.KnownWords.{name_known, copied}
use Rattle.drf_lines.proofs.words.known_name.Goals as goal

pub returns-then-eq : goal.returns-then-eq
returns-then-eq c =
    let said = c.text.ensures in
    let same = subst (λ t. bytes_eq t c.args.text.now ≡ true) said.text (sym c.eq.ensures ∙ c.if-eq.true) in
    let known = name_known c.in_ok-name.name.now c.args.text.now said.right same in
    rw c.ok.ensures.value (copied c.copy.result (name_in c.args.text.now) _ c.copy.ensures known)
