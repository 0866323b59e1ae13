use Rattle.std.proofs.Common.{◌≡◌, not, sym, ap, subst, ◌∙◌}
use Rattle.drf_role.specs.Path.{Path, client_path}
use Rattle.drf_sorter.specs.Content.{Content, IsSound, activated, charged, has_client, with_change, with_client}
use Rattle.drf_content.specs.Putting.{put_back, with_last}
use Rattle.drf_content.proofs.theorems.Back.{added, client_is_added, client_is_put_back, has_client-last}
use Rattle.drf_content.proofs.theorems.Registered.{has_client-added}
use Rattle.drf_state.proofs.clients.put_client.Goals as goal

pub set_active-requires : goal.set_active-requires
set_active-requires g c =
    let content : Content = g.S.Sorter.content c.args.sorter.now in
    let path : Path = c.in_ok-path.path in
    let is : g.S.Sorter.content c.add.new.self ≡ with_client content path = c.in_ok-add.ensures.ok ∙ ap (with_client content) c.in_ok-copy.ensures in
    ap (λ (k : Content). has_client k path) is ∙ has_client-added content path

pub charge-requires-clause-known : goal.charge-requires-clause-known
charge-requires-clause-known g c =
    let content : Content = g.S.Sorter.content c.args.sorter.now in
    let name = c.args.framework.now in
    let client = c.args.client.now in
    let path : Path = client_path client.role name in
    let is : g.S.Sorter.content c.set_active.new.self ≡ with_last content (added name client) =
    c.set_active.ensures.content
    ∙ (λ i. with_change ((c.in_ok-add.ensures.ok ∙ ap (with_client content) (c.in_ok-copy.ensures ∙ c.in_ok-path.ensures)) i) (c.in_ok-path.ensures i) (activated (not client.suppressed)))
    ∙ client_is_added content name client c.requires.new in
    (λ i. has_client (is i) (c.in_ok-path.ensures i)) ∙ has_client-last content (added name client)

pub charge-requires-clause-sound : goal.charge-requires-clause-sound
charge-requires-clause-sound g c =
    let content : Content = g.S.Sorter.content c.args.sorter.now in
    let name = c.args.framework.now in
    let client = c.args.client.now in
    let path : Path = client_path client.role name in
    let is : g.S.Sorter.content c.set_active.new.self ≡ with_change (with_client content path) path (activated (not client.suppressed)) =
    c.set_active.ensures.content
    ∙ (λ i. with_change ((c.in_ok-add.ensures.ok ∙ ap (with_client content) (c.in_ok-copy.ensures ∙ c.in_ok-path.ensures)) i) (c.in_ok-path.ensures i) (activated (not client.suppressed))) in
    let all : with_change (g.S.Sorter.content c.set_active.new.self) c.in_ok-path.path (charged c.empty-nothing.result client.count)
    ≡ with_last content (put_back name client) =
    (λ i. with_change (is i) (c.in_ok-path.ensures i) (charged (c.empty-nothing.ensures i) client.count))
    ∙ client_is_put_back content name client c.requires.new in
    subst IsSound (sym all) c.requires.sound

pub returns-clause-content : goal.returns-clause-content
returns-clause-content g c =
    let content : Content = g.S.Sorter.content c.args.sorter.now in
    let name = c.args.framework.now in
    let client = c.args.client.now in
    let path : Path = client_path client.role name in
    let is : g.S.Sorter.content c.set_active.new.self ≡ with_change (with_client content path) path (activated (not client.suppressed)) =
    c.set_active.ensures.content
    ∙ (λ i. with_change ((c.in_ok-add.ensures.ok ∙ ap (with_client content) (c.in_ok-copy.ensures ∙ c.in_ok-path.ensures)) i) (c.in_ok-path.ensures i) (activated (not client.suppressed))) in
    c.in_ok-charge.ensures.ok
    ∙ (λ i. with_change (is i) (c.in_ok-path.ensures i) (charged (c.empty-nothing.ensures i) client.count))
    ∙ client_is_put_back content name client c.requires.new
