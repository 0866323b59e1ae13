use Rattle.std.proofs.Common.{sym, ap, ◌∙◌}
use Rattle.std.specs.Option.{option_map}
use Rattle.std.specs.Prelude.{slice_get}
use Rattle.std.proofs.lemmas.Option.{slice_get-map}
use Rattle.drf_why.specs.Passers.{passer_of}
use Rattle.drf_why.proofs.passer.Passers.get.Goals as goal

pub returns-in-Some : goal.returns-in-Some
returns-in-Some c =
    ap (option_map passer_of) c.in-Some.ensures.entry
    ∙ sym (slice_get-map passer_of c.self.inside.by_client.entries c.args.place)
    ∙ ap (λ passers. slice_get passers c.args.place) c.self.view_is

pub returns-in-None : goal.returns-in-None
returns-in-None c =
    ap (option_map passer_of) c.in-None.ensures.entry
    ∙ sym (slice_get-map passer_of c.self.inside.by_client.entries c.args.place)
    ∙ ap (λ passers. slice_get passers c.args.place) c.self.view_is
