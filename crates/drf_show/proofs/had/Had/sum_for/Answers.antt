use Rattle.std.proofs.Common.{◌≡◌, ◌<◌, ◌^◌, List, Some, sum_by, sym, ap, subst, ◌∙◌}
use Rattle.std.specs.Map.{lookup}
use Rattle.std.specs.Option.{option_copied}
use Rattle.drf_role.specs.Text.{same_text}
use Rattle.drf_show.specs.Had.{Part, parts_of}
use Rattle.drf_show.proofs.Parts.{parts_or}
use Rattle.drf_show.proofs.Sums.{part_amount}
use Rattle.drf_show.proofs.had.Had.sum_for.Goals as goal

pub sum_of-requires : goal.sum_of-requires
sum_of-requires c =
    let found : lookup (same_text c.args.framework.now) c.args.self.now.by_framework.entries ≡ Some c.in-Some.parts.now =
    sym c.get.ensures.value ∙ ap option_copied c.in-Some.is in
    λ label. subst (λ (ps : List Part). sum_by (part_amount label) ps < 2 ^ 64) (ap parts_or found ∙ sym (ap parts_of c.deref.ensures.value)) (c.requires label)
