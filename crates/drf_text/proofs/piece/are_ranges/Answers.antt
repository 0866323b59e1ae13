use Rattle.std.proofs.Common.{◌≡◌, false, sym, ◌∙◌}
use Rattle.std.specs.List.{list_all}
use Rattle.drf_text.specs.Blanks.{is_blank}
use Rattle.std.proofs.lemmas.List.Folds.{list_all-map}
use Rattle.drf_text.proofs.piece.are_ranges.Goals as goal

pub returns-else-is_blank : goal.returns-else-is_blank
returns-else-is_blank c =
    let some : list_all is_blank c.args.text.now ≡ false = sym c.is_blank.ensures ∙ c.if-is_blank.false in
    rw (some, list_all-map) c.have_one_dash.ensures
