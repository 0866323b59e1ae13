use Rattle.std.proofs.Common.{◌<◌, ◌^◌, refl, ◌∙◌, codes, arith}
use Rattle.std.specs.Str.Parse.{IsNumeral, digits_value, without_leading_plus}
use Rattle.clap.specs.Words.{found_of}
use Rattle.clap.proofs.WalkLemmas.{one_text-rows}
use Rattle.drf_app.proofs.request.timestamp_of.Goals as goal

pub returns-in-Some : goal.returns-in-Some
returns-in-Some c =
    let flag = one_text-rows (found_of c.args.explain.now) (codes "at") in
    record {
      unsaid = λ e. let none = c.get_one.ensures.none (flag ∙ e) in absurd cc;
      said = λ text said numeral early.
          let read = rw c.in-Some.is at (c.get_one.ensures.value text (flag ∙ said)) in
          omega (arith, c.min.ensures, read.0, early);
      early = omega (arith, c.min.ensures);
    }

pub returns-in-None : goal.returns-in-None
returns-in-None c =
    let flag = one_text-rows (found_of c.args.explain.now) (codes "at") in
    record {
      unsaid = λ e. refl;
      said = λ text said numeral early.
          let read = rw c.in-None.is at (c.get_one.ensures.value text (flag ∙ said)) in
          let fits : digits_value 10 (without_leading_plus text) < 2 ^ 64 = omega (arith, early) in
          let refused : IsNumeral 10 (without_leading_plus text) × (digits_value 10 (without_leading_plus text) < 2 ^ 64) → ⊥ = read.1.0 in
          absurd (refused (numeral, fits));
      early = omega arith;
    }
