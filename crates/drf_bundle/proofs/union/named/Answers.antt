use Rattle.std.proofs.Common.{◌≡◌, ◌-◌, List, length, take, drop, rules}
use Rattle.std.proofs.lemmas.Fn.{always_returns_same}
use Rattle.std.proofs.lemmas.List.{take_rest}
use Rattle.drf_bundle.specs.declared.resource.Resource.{Resource}
use Rattle.drf_bundle.proofs.NameLemmas.{is_before, has_name, names_rise, named_rise, named_is}
use Rattle.drf_bundle.proofs.union.named.Goals as goal

pub returns : goal.returns
returns c =
    let rs = c.args.resources.now in
    let name = c.args.label.now in
    let start = c.partition_point-start.result in
    let rest : List Resource = take (length rs - start) (drop start rs) in
    let is_rest : rest ≡ drop start rs = take_rest rs start in
    let parted = c.partition_point-start.ensures.partitioned (is_before name) (always_returns_same _ _ _ (λ a r g called. (search rules, search rules))) (names_rise rs name c.requires) in
    let prefix = c.partition_point-count.ensures.partitioned (has_name name) (always_returns_same _ _ _ (λ a r g called. (search rules, search rules))) (named_rise rs name c.requires start rest is_rest parted) in
    named_is rs name c.requires start rest is_rest parted c.partition_point-count.result prefix
