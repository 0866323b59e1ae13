-- A cycle changes nothing if no agent has a turn or no client is active.
use Rattle.std.proofs.Common.{◌≡◌, ℕ, zero, suc, ◌+◌, ◌≤◌, [], ◌∷◌, List, Option, Some, None, Bool, true, false, map, refl, sym, ap, subst, ◌∙◌, arith, cond, drop, length, true≢false}
use Rattle.std.specs.Prelude.{filter, is_some, slice_get}
use Rattle.std.specs.Option.{option_map_or}
use Rattle.std.proofs.Math.Seq.{drop-length}
use Rattle.drf_role.specs.Path.{Path}
use Rattle.drf_rows.specs.Client.{Client, path_of}
use Rattle.drf_rows.specs.Cycle.{all_tried, turn, turn_order, turns}
use Rattle.drf_rows.specs.Step.{new_offers}
use Rattle.drf_rows.specs.declared.rows.AgentRow.{AgentRow}
use Rattle.drf_rows.specs.declared.rows.Rows.{Rows}
use Rattle.drf_sorter.specs.Content.{Content, IsOrderOf}
use Rattle.drf_core.specs.cycle.Drafting.{IsDrafting, is_open_at, turn_at, turns_of}
use Rattle.drf_core.proofs.drafting.Cycle.{new_offers-drafts, turns-next}
use Rattle.drf_core.proofs.drafting.Turn.{ordered_from, turn_at-closed}

module _ (rows : Rows) (still : (place : ℕ) → rows ≡ turn_at rows place) where
  still_from : (place : ℕ) → place ≤ length rows.agents → turns rows (filter (λ a. a.active) (drop place rows.agents)) ≡ turns_of rows
  still_from zero within = refl
  still_from (suc place) within =
      subst (λ (n : ℕ). turns rows (filter (λ a. a.active) (drop n rows.agents)) ≡ turns_of rows) {x = place + 1} {y = suc place} (omega arith)
      (turns-next rows rows rows place (omega (arith, within)) refl (still place) (still_from place (omega (arith, within))))

  no_turns : turns_of rows ≡ rows
  no_turns =
      sym (still_from (length rows.agents) (omega arith))
      ∙ ap (λ as'. turns rows (filter (λ (a : AgentRow). a.active) as')) (drop-length rows.agents)

-- no agent has a turn
pub no_turns-closed : (rows : Rows) → ((place : ℕ) → is_open_at rows place ≡ false) → turns_of rows ≡ rows
no_turns-closed rows closed = no_turns rows (λ place. turn_at-closed rows place (closed place))

-- an empty queue means that no client is active
no_clients : (clients : List Client) (queue : List Path) → is_some (slice_get queue 0) ≡ false → queue ≡ map path_of clients → clients ≡ []
no_clients [] queue none are = refl
no_clients (client ∷ clients) queue none are =
    absurd (true≢false (sym (ap (λ (ps : List Path). is_some (slice_get ps 0)) are) ∙ none))

turn_at-nobody : (rows : Rows) (place : ℕ) → turn_order rows ≡ [] → rows ≡ turn_at rows place
unfolding turn
turn_at-nobody rows place nobody = by (slice_get rows.agents place)
  where
    choose : (a : AgentRow) (active : Bool) → rows ≡ cond active (all_tried rows a (turn_order rows)) rows
    choose a false = refl
    choose a true = sym (ap (all_tried rows a) nobody)

    by : (o : Option AgentRow) → rows ≡ option_map_or (λ a. cond a.active (turn rows a) rows) o rows
    by None = refl
    by (Some a) = choose a a.active

pub no_turns-nobody : (content : Content) (rows : Rows) (queue : List Path) → IsDrafting content rows [] → IsOrderOf content queue
    → is_some (slice_get queue 0) ≡ false → turns_of rows ≡ rows
no_turns-nobody content rows queue drafting order none =
    let nobody = no_clients (turn_order rows) queue none (ordered_from content rows [] drafting queue order).same in
    no_turns rows (λ place. turn_at-nobody rows place nobody)

pub no_offers : (rows : Rows) → turns_of rows ≡ rows → new_offers rows (turns_of rows) ≡ []
no_offers rows still = new_offers-drafts rows [] (sym still)
