use Rattle.std.proofs.Common.{rules}
use Rattle.std.proofs.lemmas.List.Sorted.{IsPartitionPoint-from_clause}
use Rattle.drf_tree.proofs.Names.{Child, is_before}
use Rattle.drf_tree.proofs.keys.Siblings.{back_all, prefix_all, parted}
use Rattle.drf_tree.proofs.family.place_for.Goals as goal

pub returns-clause-before : goal.returns-clause-before
returns-clause-before c =
    let children = c.args.children.now in
    let key = c.args.key.now in
    let point = IsPartitionPoint-from_clause (λ (x : Child). is_before x.key key) _ _ c.partition_point.ensures.partitioned (parted children key c.requires) (λ a r q k. search rules) in
    prefix_all (λ (x : Child). is_before x.key key) children c.partition_point.result c.partition_point.ensures.bound point.0

pub returns-clause-after : goal.returns-clause-after
returns-clause-after c =
    let children = c.args.children.now in
    let key = c.args.key.now in
    let point = IsPartitionPoint-from_clause (λ (x : Child). is_before x.key key) _ _ c.partition_point.ensures.partitioned (parted children key c.requires) (λ a r q k. search rules) in
    back_all (λ (x : Child). is_before x.key key) children c.partition_point.result point.1
