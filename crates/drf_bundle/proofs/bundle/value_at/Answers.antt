use Rattle.drf_bundle.specs.Bundle.{Key, reservation}
use Rattle.drf_bundle.proofs.SearchLemmas.{found_value, nothing_found}
use Rattle.drf_bundle.proofs.bundle.value_at.Goals as goal

pub returns-then-is_at : goal.returns-then-is_at
returns-then-is_at c =
    let key : Key = (c.args.label.now, reservation c.args.role.now) in
    found_value c.args.resources.now key c.requires c.args.hint c.index-resources-hint.result (c.is_at.ensures c.if-is_at.true) c.index-resources-hint.is

pub returns-in-Ok : goal.returns-in-Ok
returns-in-Ok c =
    let key : Key = (c.args.label.now, reservation c.args.role.now) in
    found_value c.args.resources.now key c.requires c.in-Ok.at c.index-resources-at.result c.in-Ok.ensures.found c.index-resources-at.is

pub returns-in-Err : goal.returns-in-Err
returns-in-Err c =
    let key : Key = (c.args.label.now, reservation c.args.role.now) in
    nothing_found c.args.resources.now key c.requires c.in-Err.field-0 c.in-Err.ensures.absent
