-- Audits and explanations: the lines that were taken, and the text that was written.
use Rattle.std.proofs.Common.{◌≡◌, ℕ, ◌+◌, ◌<◌, ◌≤◌, Bool, true, false, List, [], ◌∷◌, ◌++◌, length, get_or, map, take, drop, Option, None, Result, Ok, Err, IfErr, is_err, OnErr, OnOk, ⊎_elim, refl, sym, ap, ◌∙◌, subst, append_assoc, append-nil, take-append-drop, arith}
use Rattle.std.specs.List.{flat_map}
use Rattle.std.specs.Io.KnownBytes.{Appends, Consumes, Keeps, IsAtEnd}
use Rattle.std.proofs.KnownBytes.{Appends-nil, Appends-trans, Consumes-nil, Consumes-trans, Consumes-kept}
use Rattle.std.proofs.lemmas.Bool.{false≢true}
use Rattle.std.proofs.lemmas.List.{at_drop_more, drop_all}
use Rattle.drf_audit.specs.Audit.{line_of}
use Rattle.drf_audit.specs.AuditText.{audit_text}
use Rattle.drf_audit.specs.declared.agents.AuditLine.{AuditLine}
use Rattle.drf_core.specs.Machine.{Machine}
use Rattle.drf_explain.proofs.ExplainedLaws.{live_rows_are_explained}
use Rattle.drf_explain.specs.ExplainedText.{explained_text}
use Rattle.drf_rows.specs.Cycle.{free_of}
use Rattle.drf_rows.specs.Step.{live_rows}
use Rattle.drf_rows.specs.declared.rows.Rows.{Rows}
use Rattle.drf_journal.specs.declared.fault.RunFault.{RunFault}
use Rattle.drf_journal.specs.declared.fault.RunFault.TheVariants.{Read, Write, Memory}
use Rattle.drf_journal.specs.Audited.{rows_after_lines, agents_text, cycle_text, reported_of_lines, HasReportedOfRows, HasTakenLines}
use Rattle.drf_journal.specs.Device.{AppendsPrefixOf}
use Rattle.drf_journal.specs.Ended.{HasCause, HasFlushed}
use Rattle.drf_journal.specs.Lines.{lines_of}
use Rattle.drf_journal.specs.State.{State, IsBegun, machine_after_lines, at_end}
use Rattle.drf_journal.proofs.Devices.{WrotePrefix, wrote-prefix}
use Rattle.drf_journal.proofs.Resumes.{rows-stand}
use Rattle.drf_journal.proofs.Served.{IsServing, consumed_all, machine_at_end}

-- the audit depends only on the current state
pub agents-live : (rows : Rows) → agents_text (live_rows rows) ≡ agents_text rows
unfolding free_of
agents-live rows = refl

flat_map-map : {X Y : Type 0} (f : Y → List ℕ) (g : X → Y) (xs : List X) → flat_map f (map g xs) ≡ flat_map (λ x. f (g x)) xs
flat_map-map f g [] = refl
flat_map-map f g (x ∷ xs) = ap (λ l. f (g x) ++ l) (flat_map-map f g xs)

-- the lines of the agents together are the text of the audit
pub agents_reported : (rows : Rows) (lines : List AuditLine) → lines ≡ map (line_of rows) rows.agents → flat_map audit_text lines ≡ agents_text rows
agents_reported rows lines reported = ap (flat_map audit_text) reported ∙ flat_map-map audit_text (line_of rows) rows.agents

-- the explanation depends only on the current state
pub cycle-live : (at : ℕ) (rows : Rows) → cycle_text at (live_rows rows) ≡ cycle_text at rows
cycle-live at rows = ap explained_text (live_rows_are_explained rows at)

module _ (tell : Rows → List ℕ) (live : (rows : Rows) → tell (live_rows rows) ≡ tell rows) where
  -- the text computed from the final rows is the expected one
  text_due : (old : Machine) (read : List ℕ) (new : Machine) (text : List ℕ)
      → new ≡ machine_after_lines old (lines_of read)
      → text ≡ tell new.rows → text ≡ reported_of_lines tell old (lines_of read)
  unfolding reported_of_lines
  text_due old read new text is reported =
      let rows = rows_after_lines old.limits old.rows (lines_of read) in
      let stands : live_rows new.rows ≡ live_rows rows =
      ap (λ (m : Machine). live_rows m.rows) is ∙ rows-stand old old.rows (lines_of read) refl in
      reported ∙ sym (live new.rows) ∙ ap tell stands ∙ live rows

  -- the whole text was written, or a prefix of it
  pub reported-ends : (old : Machine) (unread_before unread_after written written_next : Option (List ℕ)) (new : Machine)
      (text : List ℕ) (r : Result (Unit {0}) RunFault) (failed : Bool)
      → HasTakenLines old unread_before unread_after new (Ok tt)
      → text ≡ tell new.rows → HasCause r false 0 failed
      → OnOk r (Appends written written_next text)
      → OnErr r (AppendsPrefixOf written written_next text)
      → HasReportedOfRows tell old unread_before unread_after written written_next r
  reported-ends old unread_before unread_after written written_next new text (Ok done) failed taken reported cause all prefix = record {
    read = taken.read;
    written = text;
    consumed = taken.consumed;
    appended = all;
    reported = text_due old taken.read new text taken.machine reported;
    whole = taken.whole;
    late = λ some. taken.whole;
  }
  reported-ends old unread_before unread_after written written_next new text (Err Read) failed taken reported cause all prefix =
      absurd (⊎_elim (λ e. false≢true e) (λ e. omega arith) cause.0)
  reported-ends old unread_before unread_after written written_next new text (Err Write) failed taken reported cause all prefix = record {
    read = taken.read;
    written = take prefix.0 text;
    consumed = taken.consumed;
    appended = prefix.1;
    reported = (prefix.0, ap (take prefix.0) (text_due old taken.read new text taken.machine reported));
    whole = tt;
    late = λ some. taken.whole;
  }
  reported-ends old unread_before unread_after written written_next new text (Err Memory) failed taken reported cause all prefix = record {
    read = taken.read;
    written = take prefix.0 text;
    consumed = taken.consumed;
    appended = prefix.1;
    reported = (prefix.0, ap (take prefix.0) (text_due old taken.read new text taken.machine reported));
    whole = tt;
    late = λ some. taken.whole;
  }

-- ---- lines that are taken

pub lines-untaken : (machine new : Machine) (unread : Option (List ℕ)) (fault : RunFault) → HasTakenLines machine unread unread new (Err fault)
lines-untaken machine new unread fault = record { read = []; consumed = Consumes-nil unread; machine = tt; whole = tt }

module _ (old : State) (begins : IsBegun old) (unread_first unread unread_next : Option (List ℕ)) (session : State)
    (serving : IsServing old unread_first unread None None session) where
  pub lines-unread : (new : Machine) (fault : RunFault) → Keeps unread unread_next
      → HasTakenLines old.machine unread_first unread_next new (Err fault)
  lines-unread new fault kept =
      record { read = serving.read; consumed = Consumes-kept _ _ _ _ serving.consumed kept; machine = tt; whole = tt }

  pub lines-stopped : (new : Machine) (fault : RunFault) (piece : List ℕ) → Consumes unread unread_next piece
      → HasTakenLines old.machine unread_first unread_next new (Err fault)
  lines-stopped new fault piece consumed =
      record { read = serving.read ++ piece; consumed = Consumes-trans _ _ _ _ _ serving.consumed consumed; machine = tt; whole = tt }

  pub lines-ended : (next : State) → Consumes unread unread_next [] → IsAtEnd unread_next → next ≡ at_end session
      → HasTakenLines old.machine unread_first unread_next next.machine (Ok tt)
  lines-ended next consumed end is = record {
    read = serving.read;
    consumed = consumed_all old begins _ _ _ None None None session serving consumed;
    machine = ap (λ (s : State). s.machine) is ∙ machine_at_end old begins _ _ _ None None None session serving consumed;
    whole = end;
  }

-- ---- a text that is written part by part

pub wrote-begins : (written : Option (List ℕ)) (text : List ℕ) → WrotePrefix written written text text
wrote-begins written text = record { prefix = []; whole = refl; appended = Appends-nil written }

wrote-part : (old now next : Option (List ℕ)) (text rest part more : List ℕ) → WrotePrefix old now text rest → rest ≡ part ++ more
    → Appends now next part → WrotePrefix old next text more
wrote-part old now next text rest part more wrote parted appended = record {
  prefix = wrote.prefix ++ part;
  whole = wrote.whole ∙ ap (λ l. wrote.prefix ++ l) parted ∙ sym (append_assoc wrote.prefix part more);
  appended = Appends-trans old now next wrote.prefix part wrote.appended appended;
}

module _ {X : Type 0} (f : X → List ℕ) (xs : List X) (i : ℕ) (x : X) (inside : i < length xs) (is : x ≡ get_or xs i x)
    (old now next : Option (List ℕ)) (text : List ℕ) (wrote : WrotePrefix old now text (flat_map f (drop i xs))) where
  first : flat_map f (drop i xs) ≡ f x ++ flat_map f (drop (i + 1) xs)
  first = at_drop_more (flat_map f) xs i x inside ∙ ap (λ y. flat_map f (y ∷ drop (i + 1) xs)) (sym is)

  -- the text of one more element was written
  pub wrote-element : Appends now next (f x) → WrotePrefix old next text (flat_map f (drop (i + 1) xs))
  wrote-element appended = wrote-part old now next text _ (f x) _ wrote first appended

  -- a prefix of it was written
  pub wrote-element-prefix : AppendsPrefixOf now next (f x) → AppendsPrefixOf old next text
  wrote-element-prefix appended =
      let count = appended.0 in
      let parted : flat_map f (drop i xs) ≡ take count (f x) ++ (drop count (f x) ++ flat_map f (drop (i + 1) xs)) =
      first ∙ ap (λ l. l ++ flat_map f (drop (i + 1) xs)) (sym (take-append-drop count (f x)))
      ∙ append_assoc (take count (f x)) (drop count (f x)) _ in
      wrote-prefix old next text _ (wrote-part old now next text _ (take count (f x)) _ wrote parted appended.1)

pub wrote-all : {X : Type 0} (f : X → List ℕ) (xs : List X) (i : ℕ) (old now : Option (List ℕ)) (text : List ℕ) → length xs ≤ i
    → WrotePrefix old now text (flat_map f (drop i xs)) → Appends old now text
wrote-all f xs i old now text past wrote =
    let all : wrote.prefix ≡ text =
    sym (append-nil wrote.prefix) ∙ ap (λ l. wrote.prefix ++ flat_map f l) (sym (drop_all i xs past)) ∙ sym wrote.whole in
    subst (Appends old now) all wrote.appended

-- ---- the cause of an error

pub cause-written : {T : Type 0} (r : Result T RunFault) (failed : Bool) → failed ≡ is_err r → IfErr r (λ fault. fault ≡ Write)
    → HasCause r false 0 failed
cause-written (Ok done) failed same fault = (refl, same)
cause-written {T} (Err e) failed same fault = subst (λ (e : RunFault). HasCause {T = T} (Err e) false 0 failed) (sym fault) (refl, same)

-- ---- the result

-- nothing is written if not all lines were taken
pub reported-unread : (tell : Rows → List ℕ) (unread_before unread_after written : Option (List ℕ)) (fault : RunFault) (reads : ℕ)
    (reader_failed : Bool) (old new : Machine) → HasCause {T = Unit {0}} (Err fault) reader_failed reads false
    → HasTakenLines old unread_before unread_after new (Err fault)
    → HasReportedOfRows tell old unread_before unread_after written written (Err fault)
reported-unread tell unread_before unread_after written Read reads reader_failed old new cause taken = record {
  read = taken.read;
  written = [];
  consumed = taken.consumed;
  appended = Appends-nil written;
  reported = refl;
  whole = tt;
  late = λ some. absurd (omega arith);
}
reported-unread tell unread_before unread_after written Write reads reader_failed old new cause taken =
    let bad : false ≡ true = cause.1 in absurd (false≢true bad)
reported-unread tell unread_before unread_after written Memory reads reader_failed old new cause taken = record {
  read = taken.read;
  written = [];
  consumed = taken.consumed;
  appended = Appends-nil written;
  reported = (0, refl);
  whole = tt;
  late = λ some. absurd (omega arith);
}

-- nothing is written if memory ran out before the text was complete
pub reported-forgotten : (tell : Rows → List ℕ) (unread_before unread_after written : Option (List ℕ)) (old new : Machine)
    → HasTakenLines old unread_before unread_after new (Ok tt)
    → HasReportedOfRows tell old unread_before unread_after written written (Err Memory)
reported-forgotten tell unread_before unread_after written old new taken = record {
  read = taken.read;
  written = [];
  consumed = taken.consumed;
  appended = Appends-nil written;
  reported = (0, refl);
  whole = tt;
  late = λ some. absurd (omega arith);
}

-- an error of the writer is not an error of the reader
pub cause-ended : (r : Result (Unit {0}) RunFault) (reader_failed : Bool) (reads : ℕ) (writer_failed : Bool) → reader_failed ≡ false
    → HasCause r false 0 writer_failed → HasCause r reader_failed reads writer_failed
cause-ended (Ok done) reader_failed reads writer_failed sound cause = (sound, cause.1)
cause-ended (Err Read) reader_failed reads writer_failed sound cause = absurd (⊎_elim (λ e. false≢true e) (λ e. omega arith) cause.0)
cause-ended (Err Write) reader_failed reads writer_failed sound cause = (sound, cause.1)
cause-ended (Err Memory) reader_failed reads writer_failed sound cause = (sound, cause.1)

-- flushed output stays flushed
pub flushed-still : {T : Type 0} (r : Result T RunFault) (flushed : Bool) → flushed ≡ true → HasFlushed r flushed
flushed-still (Ok done) flushed is = is
flushed-still (Err Read) flushed is = is
flushed-still (Err Write) flushed is = tt
flushed-still (Err Memory) flushed is = is

-- a text that was written as a whole has been flushed
pub flushed-written : {T : Type 0} (r : Result T RunFault) (flushed : Bool) → IfErr r (λ fault. fault ≡ Write) → OnOk r (flushed ≡ true)
    → HasFlushed r flushed
flushed-written (Ok done) flushed fault is = is
flushed-written {T} (Err e) flushed fault is = subst (λ (e : RunFault). HasFlushed {T = T} (Err e) flushed) (sym fault) tt
