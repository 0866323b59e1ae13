use Rattle.std.proofs.Common.{◌≡◌, get_or, ap, arith}
use Rattle.drf_lines.proofs.UsualSteps.{key_stands}
use Rattle.drf_lines.proofs.usual.key_at.Goals as goal

pub returns-clause-found : goal.returns-clause-found
returns-clause-found c =
    let text = c.args.text.now in
    let next = c.in_ok-key.next in
    let is : get_or text next 32 ≡ 58 = omega (arith, c.byte_at.ensures, ap (λ t. get_or t next 32) c.as_bytes.ensures.value) in
    key_stands text c.args.at next _ c.in_ok-key.ensures.found is
