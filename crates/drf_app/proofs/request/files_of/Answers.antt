use Rattle.std.proofs.Common.{◌≡◌, ◌∙◌, Some, None, [], List, Bor, map, take, ap, sym, codes}
use Rattle.std.specs.Prelude.{Option, option_map, unwrap_or}
use Rattle.std.specs.Option.{UnwrapsOrElse}
use Rattle.std.proofs.lemmas.List.{take-map}
use Rattle.clap.specs.Words.{Text, found_of}
use Rattle.clap.proofs.WalkLemmas.{raw_values-rows}
use Rattle.drf_app.proofs.request.files_of.Goals as goal

abbrev texts : Bor (List (Bor Text)) → List Text
texts names = map (λ name. name.now) names.now

named_or_none : (o : Option (Bor (List (Bor Text)))) (names : Bor (List (Bor Text))) → UnwrapsOrElse o (λ x. x.now ≡ []) names
    → texts names ≡ unwrap_or (option_map texts o) []
named_or_none None names none = ap (map (λ name. name.now)) none
named_or_none (Some found) names is = ap texts is

pub returns : goal.returns
returns c =
    let all = c.get_strs.ensures ∙ raw_values-rows (found_of c.args.drive.now) (codes "FILE") in
    ap (map (λ name. name.now)) c.first_names.ensures ∙ sym (take-map (λ name. name.now) 64 c.unwrap_or_default.result.now)
    ∙ ap (take 64) (named_or_none c.get_strs.result c.unwrap_or_default.result c.unwrap_or_default.ensures
    ∙ ap (λ (o : Option (List Text)). unwrap_or o []) all)
