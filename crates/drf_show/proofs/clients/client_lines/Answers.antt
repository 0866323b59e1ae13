use Rattle.std.proofs.Common.{◌≡◌, List, IfOk, flat_map, map, subst, sym, ap, ◌∙◌}
use Rattle.std.specs.List.{Contains}
use Rattle.drf_role.specs.Path.{Path}
use Rattle.drf_rows.specs.Holdings.{holding_of_offer, holding_of_task}
use Rattle.drf_rows.specs.Held.{client_of, standing_of}
use Rattle.drf_rows.specs.Report.{terms_of}
use Rattle.drf_rows.specs.Share.{Standing, weighted_share_of}
use Rattle.drf_rows.specs.declared.rows.FrameworkRow.{FrameworkRow}
use Rattle.drf_rows.specs.Client.{path_of}
use Rattle.drf_sorter.proofs.theorems.SameLaws.{has_node-same, standing_in-same}
use Rattle.drf_content.specs.Content.{content_of}
use Rattle.drf_content.proofs.theorems.Order.{standing-content_of}
use Rattle.drf_content.proofs.theorems.Same.{sound_of_rows}
use Rattle.drf_show.specs.Had.{AreSmall, lines_by, parts_for, parts_in, weighted_in}
use Rattle.drf_show.specs.Shown.{client_line}
use Rattle.drf_show.specs.declared.clients.ClientLine.{ClientLine}
use Rattle.drf_show.proofs.Known.{knows_clients}
use Rattle.drf_show.proofs.Sums.{client_line_is, offers_small, tasks_small}
use Rattle.drf_show.proofs.clients.client_lines.Goals as goal

pub lines_of-requires-clause-sound : goal.lines_of-requires-clause-sound
lines_of-requires-clause-sound g c =
    let rows = c.args.rows.now in
    let fit = c.requires.fit in
    sound_of_rows rows (g.S.Sorter.content c.args.sorter.now) c.requires.content fit.consistent fit.agents fit.next_offer

pub lines_of-requires-clause-offered : goal.lines_of-requires-clause-offered
lines_of-requires-clause-offered g c = λ name.
    let rows = c.args.rows.now in
    subst AreSmall
    (sym (c.in_ok-offered.ensures name ∙ ap (λ os. parts_for name (map holding_of_offer os)) c.as_slice.ensures))
    (offers_small rows c.requires.fit name)

pub lines_of-requires-clause-used : goal.lines_of-requires-clause-used
lines_of-requires-clause-used g c = λ name.
    let rows = c.args.rows.now in
    subst AreSmall
    (sym (c.in_ok-used.ensures name ∙ ap (λ ts. parts_for name (map holding_of_task ts)) c.as_slice-2.ensures))
    (tasks_small rows c.requires.fit name)

pub lines_of-requires-clause-known : goal.lines_of-requires-clause-known
lines_of-requires-clause-known g c = λ f there client among.
    let rows = c.args.rows.now in
    has_node-same (g.S.Sorter.content c.args.sorter.now) (content_of rows) c.requires.content (path_of (client_of f client))
    ∙ knows_clients rows f (subst (λ (fs : List FrameworkRow). Contains fs f) c.as_slice-3.ensures there) client among

pub returns : goal.returns
returns g c =
    let rows = c.args.rows.now in
    let content = g.S.Sorter.content c.args.sorter.now in
    let weighted = weighted_in content in
    let offered = parts_in c.in_ok-offered.offered in
    let used = parts_in c.in_ok-used.used in
    let shares : (node : Path) → weighted node ≡ terms_of (weighted_share_of (standing_of rows) node) =
    λ node. ap (λ (s : Standing). terms_of (weighted_share_of s node)) (standing_in-same content (content_of rows) c.requires.content)
    ∙ ap (λ (s : Standing). terms_of (weighted_share_of s node)) (standing-content_of rows c.requires.fit.consistent) in
    let each : (f : FrameworkRow) → lines_by weighted offered used f ≡ map (client_line rows f) f.clients =
    λ f i. map (λ k. client_line_is rows weighted offered used f k shares
    (λ name. c.in_ok-offered.ensures name ∙ ap (λ os. parts_for name (map holding_of_offer os)) c.as_slice.ensures)
    (λ name. c.in_ok-used.ensures name ∙ ap (λ ts. parts_for name (map holding_of_task ts)) c.as_slice-2.ensures) i) f.clients in
    subst (λ (ls : List ClientLine). IfOk c.lines_of.result (λ lines. lines.items ≡ ls))
    (ap (flat_map (lines_by weighted offered used)) c.as_slice-3.ensures
    ∙ (λ i. flat_map (λ f. each f i) rows.frameworks))
    c.lines_of.ensures
