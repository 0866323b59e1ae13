use Rattle.std.proofs.Common.{◌≤◌, ap, subst, arith, length, List}
use mathlib.Core.List.{IsPrefix}
use Rattle.drf_board.specs.Chains.{entries_of}
use Rattle.drf_board.specs.declared.history.Link.{Link}
use Rattle.drf_board.proofs.Chaining.{entries-prefix}
use Rattle.drf_board.proofs.Prefixes.{prefixes-compare}
use Rattle.drf_board.proofs.prefix.Prefix.begins.Goals as goal

pub returns-then-other-self-clause-which : goal.returns-then-other-self-clause-which
returns-then-other-self-clause-which g c =
    let chain = g.K.Naming.slate.chain in
    let both = c.learn.new.self.log in
    let this : IsPrefix c.self.inside.seen.log both = subst (λ (l : List Link). IsPrefix l both) (ap (λ s. s.log) c.again-both.ensures) c.learn.ensures.2 in
    let few : length (entries_of chain c.other.inside.seen.log) ≤ length (entries_of chain c.self.inside.seen.log) = omega (arith, c.self.invariant.0, c.other.invariant.0) in
    rw (← c.self.view_is, ← c.other.view_is) (prefixes-compare (entries_of chain c.other.inside.seen.log) (entries_of chain c.self.inside.seen.log) (entries_of chain both)
    (entries-prefix chain c.other.inside.seen.log both c.learn.ensures.3) (entries-prefix chain c.self.inside.seen.log both this) few)

pub returns-clause-which : goal.returns-clause-which
returns-clause-which g c =
    let chain = g.K.Naming.slate.chain in
    let both = c.learn.new.self.log in
    let this : IsPrefix c.self.inside.seen.log both = subst (λ (l : List Link). IsPrefix l both) (ap (λ s. s.log) c.again-both.ensures) c.learn.ensures.2 in
    let few : length (entries_of chain c.self.inside.seen.log) ≤ length (entries_of chain c.other.inside.seen.log) = omega (arith, c.self.invariant.0, c.other.invariant.0) in
    rw (← c.self.view_is, ← c.other.view_is) (prefixes-compare (entries_of chain c.self.inside.seen.log) (entries_of chain c.other.inside.seen.log) (entries_of chain both)
    (entries-prefix chain c.self.inside.seen.log both this) (entries-prefix chain c.other.inside.seen.log both c.learn.ensures.3) few)
