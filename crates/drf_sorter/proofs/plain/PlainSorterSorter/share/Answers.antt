use Rattle.std.proofs.Common.{◌≡◌, refl, ap, sym, ◌∙◌}
use Rattle.std.specs.List.{list_any}
use Rattle.std.proofs.lemmas.Bool.{false≢true}
use Rattle.drf_rows.specs.Share.{share_of}
use Rattle.drf_role.specs.Path.{begins_with}
use Rattle.drf_sorter.specs.declared.client.Client.{Client}
use Rattle.drf_sorter.specs.Fractions.{dominant_of, weigh}
use Rattle.drf_sorter.proofs.theorems.FractionLaws.{same_as_weighed}
use Rattle.drf_sorter.specs.Plain.{count_by, held_by, plain_standing}
use Rattle.drf_sorter.specs.Share.{fraction_of}
use Rattle.drf_sorter.proofs.PlainLemmas.{held-within, count-fits, count-standing, share-standing, weighted-standing, has_node-is}
use Rattle.drf_sorter.proofs.plain.PlainSorterSorter.share.Goals as goal

pub returns-then-not-has_some-clause-known : goal.returns-then-not-has_some-clause-known
returns-then-not-has_some-clause-known c =
    let none =
    sym c.if-not-has_some.true ∙ c.has_some.ensures
    ∙ ap (list_any (λ (x : Client). begins_with x.path c.args.node.now)) c.deref.ensures.value
    ∙ has_node-is c.args.self.now c.args.node.now in
    (λ h. absurd (false≢true h), λ h. none ∙ h)

pub weighted_share-share-requires-clause-within : goal.weighted_share-share-requires-clause-within
weighted_share-share-requires-clause-within c label =
    rw (c.deref.ensures.value) (held-within c.args.self.now c.requires c.args.node.now label)

pub weighted_share-weighted-requires-clause-within : goal.weighted_share-weighted-requires-clause-within
weighted_share-weighted-requires-clause-within c label =
    rw (c.deref.ensures.value) (held-within c.args.self.now c.requires c.args.node.now label)

pub count-requires : goal.count-requires
count-requires c = rw (c.deref.ensures.value) (count-fits c.args.self.now c.requires c.args.node.now)

pub returns-clause-known : goal.returns-clause-known
returns-clause-known c =
    let some =
    sym c.if-not-has_some.false ∙ c.has_some.ensures
    ∙ ap (list_any (λ (x : Client). begins_with x.path c.args.node.now)) c.deref.ensures.value
    ∙ has_node-is c.args.self.now c.args.node.now in
    (λ h. sym some, λ h. refl)

pub returns-clause-share : goal.returns-clause-share
returns-clause-share c =
    let s = c.args.self.now in
    let node = c.args.node.now in
    let share : fraction_of c.weighted_share-share.result
    ≡ weigh (dominant_of (held_by s.clients.items node) s.total) 1000 =
    c.weighted_share-share.ensures
    ∙ (λ j. weigh (dominant_of (held_by (c.deref.ensures.value j) node) s.total) 1000) in
    let weighted = c.weighted_share-weighted.ensures
    ∙ (λ j. weigh (dominant_of (held_by (c.deref.ensures.value j) node) s.total) c.of.result)
    ∙ weighted-standing s node c.of.result c.of.ensures.value in
    record {
      share = same_as_weighed (fraction_of c.weighted_share-share.result) (share_of (plain_standing s) node)
          (share ∙ ap (λ f. weigh f 1000) (share-standing s node));
      weighted = weighted;
      count = c.count.ensures ∙ ap (λ clients. count_by clients node) c.deref.ensures.value ∙ count-standing s node;
    }
