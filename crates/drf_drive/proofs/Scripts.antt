-- Lemmas about reading scripts, file by file and line by line.
use Rattle.std.proofs.Common.{◌≡◌, ℕ, suc, List, [], ◌∷◌, ◌++◌, length, map, refl, sym, ap, subst, ◌∙◌, append-nil, arith}
use Rattle.std.specs.List.{AllZip}
use Rattle.std.specs.Global.{Vec}
use Rattle.drf_journal.specs.declared.fault.RunFault.TheVariants.{Read, Write, Memory}
use Rattle.drf_lines.specs.Meaning.{meaning_of}
use Rattle.drf_rows.specs.declared.event.Event.{Event}
use Rattle.drf_drive.specs.Files.{bytes_of}
use Rattle.drf_drive.specs.Scripts.{AreEventsOf, AreScripts, AreWhole, HaveBadLine, HaveStopped, IsScript, IsScriptOf, IsStoppedBy, IsWhole, as_meant, meanings_of}
use Rattle.drf_drive.specs.declared.script.Script.{Script}
use Rattle.drf_drive.specs.declared.script.ScriptFault.{ScriptFault}
use Rattle.drf_drive.specs.declared.script.ScriptFault.TheVariants.{Run, Unread, Line, Close}
use Rattle.drf_drive.proofs.Cuts.{lines-nil}

-- ---- the lines of a file

-- the first lines are these events, and the others are left
abbrev pub ReadPrefix : List ℕ → List ℕ → List Event → Type 0
ReadPrefix bytes rest events = meanings_of bytes ≡ as_meant events ++ meanings_of rest

pub read-all : (bytes rest : List ℕ) (events : List Event) → ReadPrefix bytes rest events → length rest ≡ 0 → IsScript bytes events
read-all bytes [] events read none =
    read ∙ ap (λ (ls : List (List ℕ)). as_meant events ++ map meaning_of ls) lines-nil ∙ append-nil (as_meant events)
read-all bytes (b ∷ rest) events read none = absurd (omega arith)

-- ---- the files

pub whole-push : (scripts : List Script) (events : List (Vec Event)) (script : Script) (next : Vec Event) → AreWhole scripts events → IsWhole script next
    → AreWhole (scripts ++ script ∷ []) (events ++ next ∷ [])
whole-push [] [] script next are is = (is, tt)
whole-push [] (e ∷ events) script next are is = absurd are
whole-push (s ∷ scripts) [] script next are is = absurd are
whole-push (s ∷ scripts) (e ∷ events) script next are is = (are.0, whole-push scripts events script next are.1 is)

pub whole-count : (scripts : List Script) (events : List (Vec Event)) → AreWhole scripts events → length events ≡ length scripts
whole-count [] [] are = refl
whole-count [] (e ∷ events) are = absurd are
whole-count (s ∷ scripts) [] are = absurd are
whole-count (s ∷ scripts) (e ∷ events) are = ap (λ (n : ℕ). suc n) (whole-count scripts events are.1)

-- the next file has a line that is not an event
pub stopped-next : (scripts before : List Script) (script : Script) (after : List Script) (events : List (Vec Event)) (fault : ScriptFault)
    → scripts ≡ before ++ script ∷ after → AreWhole before events → IsStoppedBy (length events) script fault → HaveStopped scripts fault
stopped-next scripts before script after events (Unread file) split whole stopped = stopped
stopped-next scripts before script after events (Run Read) split whole stopped = stopped
stopped-next scripts before script after events (Run Write) split whole stopped = stopped
stopped-next scripts before script after events (Run Memory) split whole stopped = tt
stopped-next scripts before script after events (Close misfit) split whole stopped = stopped
stopped-next scripts before script after events (Line bad) split whole stopped = record {
  before = before;
  script = script;
  after = after;
  scripts_are = split;
  events = events;
  whole = whole;
  stopped = (stopped.0 ∙ whole-count before events whole, stopped.1);
}

-- these are the scripts of these files
abbrev pub AreScriptsOf : List (Vec ℕ) → List Script → Type 0
AreScriptsOf files scripts = AllZip (λ (file : Vec ℕ) (script : Script). IsScriptOf file.items script) files scripts

pub scripts-count : (contents : List (List ℕ)) (scripts : List (Vec Event)) → AreScripts contents scripts → length scripts ≡ length contents
scripts-count [] [] are = refl
scripts-count [] (s ∷ scripts) are = absurd are
scripts-count (c ∷ contents) [] are = absurd are
scripts-count (c ∷ contents) (s ∷ scripts) are = ap (λ (n : ℕ). suc n) (scripts-count contents scripts are.1)

script-whole : (bytes : List ℕ) (script : Script) (events : Vec Event) → IsScriptOf bytes script → IsWhole script events → IsScript bytes events.items
script-whole bytes script events of whole =
    subst (λ (v : Vec Event). IsScript bytes v.items) whole.same (subst (AreEventsOf bytes script.events.items) whole.whole of)

-- if all lines are events, the scripts have the events of the files
pub scripts-whole : (files : List (Vec ℕ)) (scripts : List Script) (events : List (Vec Event)) → AreScriptsOf files scripts → AreWhole scripts events
    → AreScripts (bytes_of files) events
scripts-whole [] [] [] of whole = tt
scripts-whole [] [] (e ∷ events) of whole = absurd whole
scripts-whole [] (s ∷ scripts) events of whole = absurd of
scripts-whole (f ∷ files) [] events of whole = absurd of
scripts-whole (f ∷ files) (s ∷ scripts) [] of whole = absurd whole
scripts-whole (f ∷ files) (s ∷ scripts) (e ∷ events) of whole =
    (script-whole f.items s e of.0 whole.0, scripts-whole files scripts events of.1 whole.1)

-- the files before the first that has a line that is not an event
record IsCutAt (files : List (Vec ℕ)) (before : List Script) (script : Script) (events : List (Vec Event)) : Type 0 where
  prefix : List (List ℕ)
  bytes : List ℕ
  rest : List (List ℕ)
  files_are : bytes_of files ≡ prefix ++ bytes ∷ rest
  long : length prefix ≡ length before
  good : AreScripts prefix events
  of : IsScriptOf bytes script

cut-at : (files : List (Vec ℕ)) (before : List Script) (script : Script) (after : List Script) (events : List (Vec Event))
    → AreScriptsOf files (before ++ script ∷ after) → AreWhole before events → IsCutAt files before script events
cut-at [] [] script after events of whole = absurd of
cut-at [] (s ∷ before) script after events of whole = absurd of
cut-at (f ∷ files) [] script after [] of whole = record {
  prefix = [];
  bytes = f.items;
  rest = bytes_of files;
  files_are = refl;
  long = refl;
  good = tt;
  of = of.0;
}
cut-at (f ∷ files) [] script after (e ∷ events) of whole = absurd whole
cut-at (f ∷ files) (s ∷ before) script after [] of whole = absurd whole
cut-at (f ∷ files) (s ∷ before) script after (e ∷ events) of whole =
    let cut = cut-at files before script after events of.1 whole.1 in
    record {
      prefix = f.items ∷ cut.prefix;
      bytes = cut.bytes;
      rest = cut.rest;
      files_are = ap (λ (l : List (List ℕ)). f.items ∷ l) cut.files_are;
      long = ap (λ (n : ℕ). suc n) cut.long;
      good = (script-whole f.items s e of.0 whole.0, cut.good);
      of = cut.of;
    }

-- otherwise, this is the first line that is not an event
pub scripts-stopped : (files : List (Vec ℕ)) (scripts : List Script) → AreScriptsOf files scripts → (fault : ScriptFault) → HaveStopped scripts fault
    → HaveBadLine (bytes_of files) fault
scripts-stopped files scripts of (Unread file) stopped = stopped
scripts-stopped files scripts of (Run Read) stopped = stopped
scripts-stopped files scripts of (Run Write) stopped = stopped
scripts-stopped files scripts of (Run Memory) stopped = tt
scripts-stopped files scripts of (Close misfit) stopped = stopped
scripts-stopped files scripts of (Line bad) stopped =
    let cut = cut-at files stopped.before stopped.script stopped.after stopped.events (subst (AreScriptsOf files) stopped.scripts_are of) stopped.whole in
    record {
      before = cut.prefix;
      bytes = cut.bytes;
      after = cut.rest;
      files = cut.files_are;
      place = stopped.stopped.0 ∙ sym cut.long;
      scripts = stopped.events;
      good = cut.good;
      first = record {
        before = stopped.script.events.items;
        stopped = subst (AreEventsOf cut.bytes stopped.script.events.items) stopped.stopped.1.1 cut.of;
        place = stopped.stopped.1.0;
      };
    }
