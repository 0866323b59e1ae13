-- The allocator that is returned after all lines.
use Rattle.std.proofs.Common.{◌≡◌, ℕ, false, List, Option, Ok, Err, sym, ap, ◌∙◌, subst}
use Rattle.drf_core.specs.Machine.{Machine, Engine, live}
use Rattle.drf_row_laws.proofs.LiveLaws.{live_rows-twice}
use Rattle.drf_journal.specs.declared.fault.RunFault.{RunFault}
use Rattle.drf_journal.specs.Audited.{HasTakenLines}
use Rattle.drf_journal.specs.Lines.{lines_of}
use Rattle.drf_journal.specs.Resumed.{HasAdvanced}
use Rattle.drf_journal.specs.State.{State, begun}
use Rattle.drf_journal.proofs.Resumes.{steps-leave}

module _ (core : Engine) (session : State) (begins : session ≡ begun (live core) false) (unread_before unread_after : Option (List ℕ)) where
  pub advanced-not : (new : Machine) (fault : RunFault) → HasTakenLines session.machine unread_before unread_after new (Err fault)
      → HasAdvanced (live core) unread_before unread_after (Err fault)
  advanced-not new fault taken = record { read = taken.read; consumed = taken.consumed; machine = tt; whole = tt }

  pub advanced-whole : (new : Machine) (other : Engine) → HasTakenLines session.machine unread_before unread_after new (Ok tt)
      → live other ≡ new → HasAdvanced (live core) unread_before unread_after (Ok other)
  unfolding live
  advanced-whole new other taken is =
      let start = ap (λ (s : State). s.machine) begins in
      let all = subst (λ (m : Machine). HasTakenLines m unread_before unread_after new (Ok tt)) start taken in
      record {
        read = all.read;
        consumed = all.consumed;
        machine = is ∙ all.machine ∙ steps-leave (live core) (lines_of all.read) (sym (live_rows-twice core.rows));
        whole = all.whole;
      }
