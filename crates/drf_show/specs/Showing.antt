-- What is shown of an allocator after the lines of an input.
use Rattle.std.specs.Prelude.{ℕ, List, Option, Result}
use Rattle.drf_core.specs.Machine.{Machine}
use Rattle.drf_journal.specs.Audited.{HasReportedOfRows}
use Rattle.drf_journal.specs.declared.fault.RunFault.{RunFault}
use Rattle.drf_show.specs.ShownText.{shown}
use Rattle.drf_show.specs.declared.form.Form.{Form}

-- bytes were read from a reader, and the text that shows the rows after their lines was written to a writer
abbrev pub HasShown : Form → Machine → (unread_before unread_after written_before written_after : Option (List ℕ))
    → Result (Unit {0}) RunFault → Type 0
HasShown form machine = HasReportedOfRows (shown form machine.limits) machine
