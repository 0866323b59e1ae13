use Rattle.std.proofs.Common.{◌+◌, ap, sym, ◌∙◌, ◌++◌, ◌∷◌, [], take}
use Rattle.std.specs.String.{string_bytes}
use Rattle.drf_rows.specs.Held.{weight_of}
use Rattle.drf_rows.specs.Share.{Fraction}
use Rattle.drf_sorter.specs.Fractions.{dominant_of, weigh}
use Rattle.drf_sorter.specs.Keys.{keys_of}
use Rattle.drf_sorter.specs.Plain.{count_by, held_by, plain_standing}
use Rattle.drf_sorter.proofs.KeyLemmas.{keys_of-take_more}
use Rattle.drf_sorter.proofs.PlainLemmas.{held-within, count-fits, count-standing, weighted-standing}
use Rattle.drf_sorter.proofs.plain.PlainSorter.key.Goals as goal

pub count-count-requires : goal.count-count-requires
count-count-requires c = rw (c.deref.ensures.value) (count-fits c.args.self.now c.requires.sound c.in_ok-node.node)

pub new-requires-clause-within : goal.new-requires-clause-within
new-requires-clause-within c label =
    rw (c.deref.ensures.value) (held-within c.args.self.now c.requires.sound c.in_ok-node.node label)

pub returns-clause-key : goal.returns-clause-key
returns-clause-key c =
    let s = c.args.self.now in
    let path = c.args.path.now in
    let clients = s.clients.items in
    let node = take (c.args.i + 1) path in
    let share : Fraction =
    weigh (dominant_of (held_by c.deref.result.now c.in_ok-node.node) s.total) c.of-weight.result in
    let by_share =
    (λ j. weigh (dominant_of (held_by (c.deref.ensures.value j) (c.in_ok-node.ensures j)) s.total)
    c.of-weight.result)
    ∙ weighted-standing s node c.of-weight.result
    (c.of-weight.ensures.value ∙ ap (weight_of s.weights.rows.items) c.in_ok-node.ensures) in
    let by_count =
    c.count-count.ensures ∙ (λ j. count_by (c.deref.ensures.value j) (c.in_ok-node.ensures j)) ∙ count-standing s node in
    keys_of-take_more (plain_standing s) path c.args.i c.part.result.now share c.count-count.result
    (string_bytes c.in_ok-name.name)
    c.requires.in_path c.part.ensures by_share by_count c.in_ok-name.ensures.ok
    ∙ ap (λ k. keys_of (plain_standing s) [] (take c.args.i path) ++ k ∷ []) (sym c.new.ensures.key)
