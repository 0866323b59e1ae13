use Rattle.std.proofs.Common.{◌≡◌, List, Some, sym, ap, ◌∙◌, inl}
use Rattle.std.specs.Option.{option_copied}
use Rattle.drf_tables.proofs.tables.Names.{rest, Resource, other_free}
use Rattle.drf_tables.proofs.reservations.other_free.Goals as goal

pub returns-in-Ok : goal.returns-in-Ok
returns-in-Ok c =
    let total : List Resource = c.args.total.now in
    let old : List Resource = c.args.old.now in
    let was = sym c.as_ref.ensures.value ∙ ap option_copied c.in_ok-as_ref.was in
    let left : c.new.result ≡ rest total (rest old c.in_ok-as_ref.field-0.now) =
    c.new.ensures ∙ c.in-Ok.ensures ∙ ap (λ (free : List Resource). rest total (rest old free)) c.bundle.ensures in
    inl (ap Some left ∙ sym (ap (other_free total old) was))
