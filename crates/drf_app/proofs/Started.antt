-- Lemmas about the allocator that a task starts from, as callers see it.
use Rattle.std.specs.Prelude.{◌≡◌, ℕ, List, Ok}
use Rattle.drf_core.specs.Machine.{Engine, IsOpened, live, opened}
use Rattle.drf_journal.specs.Files.{Known, MayHave}
use Rattle.drf_rows.specs.LimitNumbers.{ceilings}
use Rattle.drf_state.specs.Reading.{IsReadState}
use Rattle.std.proofs.Common.{ap, sym, ◌∙◌}
use Rattle.drf_rows.specs.declared.rows.Rows.{Rows}
use Rattle.drf_app.specs.Starts.{IsInFile}

pub is_open : (engine : Engine) → IsOpened ceilings engine → live engine ≡ opened ceilings
unfolding live
is_open engine is = λ i. record { limits = is.limits i; rows = is.rows i }

-- the allocator that was read from a file
pub is_in_file : (known : Known) (name bytes : List ℕ) (engine : Engine) → MayHave (known name) bytes → IsReadState ceilings bytes engine
    → IsInFile known name (live engine)
unfolding live
is_in_file known name bytes engine had read = record {
  bytes = bytes;
  had = had;
  said = read.said ∙ ap (λ (rows : Rows). Ok rows) (sym read.live);
  limits = read.limits;
}
