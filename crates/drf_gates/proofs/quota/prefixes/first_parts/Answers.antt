use Rattle.std.proofs.Common.{◌≡◌, ◌-◌, ℕ, length, take, sym, ap, subst, ◌∙◌, arith}
use Rattle.std.specs.List.{slice_range}
use Rattle.std.specs.Str.{IsAscii}
use Rattle.std.proofs.lemmas.Str.{IsCharBoundary-from_ascii}
use Rattle.drf_role.specs.Text.{Text}
use Rattle.drf_role.specs.Parts.{text_of}
use Rattle.drf_role.proofs.RoleLaws.{role_ascii}
use Rattle.drf_gates.specs.quota.Prefix.{path_in, end_of}
use Rattle.drf_gates.proofs.quota.Prefix.{end_within, prefix_is}
use Rattle.drf_gates.proofs.quota.prefixes.first_parts.Goals as goal

pub range-requires-clause-end_boundary : goal.range-requires-clause-end_boundary
range-requires-clause-end_boundary c =
    let ascii : IsAscii c.text.result.now = subst IsAscii (sym c.text.ensures.text) (role_ascii c.args.role.now c.text.ensures.right) in
    let size = ap (λ (t : Text). length t) c.text.ensures.text in
    IsCharBoundary-from_ascii c.text.result.now c.end_of-end.result ascii
    (omega (arith, size, c.end_of-end.ensures, end_within c.args.role.now c.args.len))

pub returns : goal.returns
returns c =
    let exact : c.end_of-end.result - 0 ≡ end_of (take c.args.len c.args.role.now) = omega (arith, c.end_of-end.ensures) in
    ap path_in (
    c.range.ensures.value
    ∙ ap (λ (t : Text). slice_range t 0 c.end_of-end.result) c.text.ensures.text
    ∙ ap (λ (n : ℕ). take n (text_of c.args.role.now)) exact
    )
    ∙ prefix_is c.args.role.now c.args.len c.text.ensures.right
