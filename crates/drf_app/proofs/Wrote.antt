-- The result of writing a saved state.
use Rattle.std.proofs.Common.{◌≡◌, ℕ, List, take, Option, Result, Ok, Err, refl}
use Rattle.std.specs.Prelude.{Bool, OnOk, OnErr, IfErr}
use Rattle.std.specs.Io.KnownBytes.{Appends, Consumes, IsAtEnd}
use Rattle.drf_core.specs.Machine.{Machine}
use Rattle.drf_journal.specs.Device.{AppendsPrefixOf}
use Rattle.drf_journal.specs.declared.fault.RunFault.{RunFault}
use Rattle.drf_journal.specs.declared.fault.RunFault.TheVariants as fault
use Rattle.drf_app.specs.Saving.{HasSaved, IsSavedAfter, IsWritten}

-- a failed write left a prefix of the text
prefix_written : (machine : Machine) (e : Bool) (read text : List ℕ) (count : ℕ) (f : RunFault) → f ≡ fault.Write
    → IsSavedAfter machine e read text → IsWritten machine e (Err f) read (take count text)
prefix_written machine e read text count fault.Write is saved = (text, count, saved, refl)
prefix_written machine e read text count fault.Read is saved = let none : ⊥ = cc in absurd none
prefix_written machine e read text count fault.Memory is saved = let none : ⊥ = cc in absurd none

pub saved_of_wrote : (machine : Machine) (e : Bool) (unread_before unread_after written_before written_after : Option (List ℕ)) (read text : List ℕ)
    (result : Result (Unit {0}) RunFault)
    → Consumes unread_before unread_after read → IsAtEnd unread_after → IsSavedAfter machine e read text
    → OnOk result (Appends written_before written_after text)
    → OnErr result (AppendsPrefixOf written_before written_after text)
    → IfErr result (λ f. f ≡ fault.Write)
    → HasSaved machine e unread_before unread_after written_before written_after result
saved_of_wrote machine e unread_before unread_after written_before written_after read text (Ok done) consumed whole saved wrote prefix is = record {
  read = read;
  written = text;
  consumed = consumed;
  appended = wrote;
  saved = saved;
  whole = whole;
}
saved_of_wrote machine e unread_before unread_after written_before written_after read text (Err f) consumed whole saved wrote prefix is = record {
  read = read;
  written = take prefix.0 text;
  consumed = consumed;
  appended = prefix.1;
  saved = prefix_written machine e read text prefix.0 f is saved;
  whole = tt;
}
