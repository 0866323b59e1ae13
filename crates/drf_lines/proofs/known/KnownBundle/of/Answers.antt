use Rattle.std.proofs.Common.{◌≡◌, sym, ap, ◌∙◌}
use Rattle.std.specs.Cmp.Lexicographic.{bytes_decides}
use Rattle.drf_lines.specs.Resources.{bundle_in}
use Rattle.drf_lines.proofs.KnownWords.{copied}
use Rattle.drf_lines.proofs.known.KnownBundle.of.Goals as goal

pub returns-then-eq : goal.returns-then-eq
returns-then-eq c =
    let same : c.as_str.result.now ≡ c.args.text.now = (bytes_decides c.as_str.result.now c.args.text.now).0 (sym c.eq.ensures ∙ c.if-eq.true) in
    let known = ap bundle_in (sym same ∙ c.as_str.ensures.value) ∙ c.self.invariant.1 in
    rw c.ok.ensures.value (copied c.copy.result (bundle_in c.args.text.now) _ c.copy.ensures.same known)
