use Rattle.std.proofs.Common.{[], sym, ap, ◌∙◌}
use Rattle.std.specs.Map.{lookup}
use Rattle.std.specs.Option.{option_map_or, option_to_list}
use Rattle.drf_role.specs.Text.{Text, same_text}
use Rattle.drf_holdings.proofs.names.Names.last.Goals as goal

pub returns-clause-some : goal.returns-clause-some
returns-clause-some c =
    let name : Text = c.in_ok-serial.field-0-0.now in (
      name,
      ap (λ o. option_map_or (λ tasks. option_to_list (lookup (same_text name) tasks.entries)) o []) (sym c.in_ok-tasks.ensures.value)
          ∙ ap option_to_list c.in_ok-serial.ensures.value,
    )
