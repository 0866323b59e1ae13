use Rattle.std.proofs.Common.{◌≡◌, ◌∙◌, ℕ, length, min, take, ap, arith}
use Rattle.std.proofs.lemmas.List.{take_min}
use Rattle.drf_app.proofs.request.first_names.Goals as goal

pub returns : goal.returns
returns c =
    let names = c.args.names.now in
    let count : c.min.result ≡ min 64 (length names) = omega (arith, c.min.ensures) in
    ap (λ (k : ℕ). take k names) count ∙ take_min 64 names
