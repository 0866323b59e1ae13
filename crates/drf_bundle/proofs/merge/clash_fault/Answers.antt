use Rattle.std.proofs.Common.{sym, ◌∙◌}
use Rattle.drf_bundle.proofs.ClashLemmas.{no_kinds, no_members}
use Rattle.drf_bundle.proofs.merge.clash_fault.Goals as goal

pub returns-then-not-have_clash : goal.returns-then-not-have_clash
returns-then-not-have_clash c =
    let none = sym c.have_clash.ensures ∙ c.if-not-have_clash.true in
    rw (no_kinds c.args.left.now c.args.right.now none, no_members c.args.left.now c.args.right.now none)
