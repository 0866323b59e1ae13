use Rattle.std.proofs.Common.{◌≡◌, ◌+◌, length, get_or, ap, subst, arith}
use Rattle.std.proofs.lemmas.List.{get_or_default}
use Rattle.std.proofs.lemmas.Str.{IsCharBoundary-after_ascii}
use Rattle.drf_lines.specs.Written.{ArePlainFrom}
use Rattle.drf_lines.proofs.UsualSteps.{within, string_stands}
use Rattle.drf_lines.proofs.usual.string_at.Goals as goal

pub range-requires-clause-start_boundary : goal.range-requires-clause-start_boundary
range-requires-clause-start_boundary c some =
    let text = c.args.text.now in
    let same = c.as_bytes-bytes.ensures.value in
    let opens : get_or text c.args.at 32 ≡ 34 = omega (arith, c.byte_at.ensures, ap (λ t. get_or t c.args.at 32) same) in
    let inside = within text c.args.at 34 opens (λ e. omega arith) in
    IsCharBoundary-after_ascii text c.args.at c.utf8.text inside (omega (arith, opens, get_or_default text c.args.at 0 32 inside))

pub returns-clause-found : goal.returns-clause-found
returns-clause-found c =
    let text = c.args.text.now in
    let stop = c.plain_end-stop.result in
    let same = c.as_bytes-bytes.ensures.value in
    let opens : get_or text c.args.at 32 ≡ 34 = omega (arith, c.byte_at.ensures, ap (λ t. get_or t c.args.at 32) same) in
    let closes : get_or text stop 32 ≡ 34 = omega (arith, c.byte_at-2.ensures, ap (λ t. get_or t stop 32) same) in
    let plain = subst (λ t. ArePlainFrom t (c.args.at + 1) stop) same c.plain_end-stop.ensures.plain in
    let order = c.plain_end-stop.ensures.bound in
    string_stands text c.args.at stop opens (order.0, omega (arith, order.1, ap length same)) plain closes _ c.range.ensures.value
