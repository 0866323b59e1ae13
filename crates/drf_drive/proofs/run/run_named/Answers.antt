use Rattle.std.proofs.Common.{◌≡◌, ℕ, [], List, sym, subst}
use Rattle.std.specs.Prelude.{All}
use Rattle.std.proofs.lemmas.List.Elements.{All-weaker}
use Rattle.drf_board.specs.declared.entry.Entry.{Entry}
use Rattle.drf_master.specs.Receipts.{Held, IsNewPass}
use Rattle.drf_drive.specs.Driven.{IsShuffleOf}
use Rattle.drf_drive.proofs.Releases.{no-journal, tellable}
use Rattle.drf_drive.proofs.run.run_named.Goals as goal

pub returns-in-Ok-clause-shuffle : goal.returns-in-Ok-clause-shuffle
returns-in-Ok-clause-shuffle g c =
    let key = c.in_ok-master.master.key in
    let passes = c.in_ok-master.passes.items in
    let new = subst (λ (k : ℕ). All (IsNewPass k) passes) (sym c.in_ok-master.ensures.key) c.in_ok-master.ensures.passes.1 in
    subst (λ (journal : List Entry). IsShuffleOf c.args.scripts.items journal) (sym c.into_entries.ensures) (record {
      passes = passes;
      unused = All-weaker (IsNewPass key) (λ (pass : Held). pass.receipts ≡ []) (λ pass is. is.receipts) passes new;
      replies = c.in-Ok.driven.replies.items;
      driven = c.in-Ok.ensures.driven;
    })

pub undriven_error-requires : goal.undriven_error-requires
undriven_error-requires g c =
    let key = c.in_ok-master.master.key in
    let passes = c.in_ok-master.passes.items in
    let new = subst (λ (k : ℕ). All (IsNewPass k) passes) (sym c.in_ok-master.ensures.key) c.in_ok-master.ensures.passes.1 in
    tellable g.K.Naming.slate.limits g.K.Naming.start _ key passes c.args.scripts.items new c.in-Err.undriven c.in-Err.ensures.undriven

pub returns-clause-fault : goal.returns-clause-fault
returns-clause-fault g c =
    let key = c.in_ok-master.master.key in
    let passes = c.in_ok-master.passes.items in
    let new = subst (λ (k : ℕ). All (IsNewPass k) passes) (sym c.in_ok-master.ensures.key) c.in_ok-master.ensures.passes.1 in
    no-journal g.K.Naming.slate.limits g.K.Naming.start _ key passes c.args.scripts.items new c.in-Err.undriven c.in-Err.ensures.undriven
    c.undriven_error.result c.undriven_error.ensures
