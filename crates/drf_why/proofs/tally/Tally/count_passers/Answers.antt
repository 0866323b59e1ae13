use Rattle.std.proofs.Common.{◌≡◌, [], sym, ap, ◌∙◌}
use Rattle.std.specs.Option.{option_copied, option_map_or}
use Rattle.drf_why.specs.Passers.{passers_by}
use Rattle.drf_why.specs.Places.{findings_of}
use Rattle.drf_why.specs.Tally.{with_passed}
use Rattle.drf_why.proofs.Passed.{no_passers}
use Rattle.drf_why.proofs.tally.Tally.count_passers.Goals as goal

pub returns-in_default : goal.returns-in_default
returns-in_default c =
    let own = c.args.own.now in
    let earlier = findings_of c.args.earlier.now in
    let bundle : option_map_or (λ b. b) (option_copied c.args.bundle) [] ≡ [] = ap (λ borrowed. option_map_or (λ b. b) (option_copied borrowed) []) c.in_default.is in
    ap (λ paths. with_passed paths c.args.self.now) (sym (ap (passers_by own earlier) bundle ∙ no_passers own earlier))
