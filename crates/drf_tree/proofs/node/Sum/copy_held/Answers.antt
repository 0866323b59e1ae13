use Rattle.std.proofs.Common.{◌∙◌, ap, sym}
use Rattle.drf_bundle.specs.Quantities.{amount_of}
use Rattle.drf_tree.proofs.keys.Nothing.{nothing_of}
use Rattle.drf_tree.proofs.node.Sum.copy_held.Goals as goal

pub returns-then-not-holds_any : goal.returns-then-not-holds_any
returns-then-not-holds_any c label =
    ap (λ es. amount_of es label) c.empty.ensures ∙ sym (nothing_of c.args.self.now.held label (sym c.if-not-holds_any.ensures))
