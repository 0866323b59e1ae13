-- Lists of findings that are written or counted one after the other.
use Rattle.std.proofs.Common.{◌≡◌, ℕ, List, [], ◌∷◌, ◌++◌, length, map, Ok, Err, refl, sym, ap, subst, ◌∙◌, append_assoc, append-nil}
use Rattle.std.specs.List.{flat_map}
use Rattle.std.proofs.lemmas.List.{length-map}
use Rattle.std.proofs.lemmas.List.Concat.{flat_map-append}
use Rattle.drf_explain.specs.ExplainedText.{explained_text, finding_text}
use Rattle.drf_explain.specs.declared.finding.Finding.{Finding}
use Rattle.drf_journal.specs.declared.fault.RunFault.{RunFault}
use Rattle.drf_journal.specs.declared.fault.RunFault.TheVariants.{Memory}
use Rattle.drf_rows.specs.Client.{Client, path_of}
use Rattle.drf_rows.specs.Held.{active_clients}
use Rattle.drf_rows.specs.declared.rows.Rows.{Rows}
use Rattle.drf_why.specs.Passers.{Turn}
use Rattle.drf_why.specs.Pick.{picked}
use Rattle.drf_why.specs.Tally.{tallies_of, tally_of}
use Rattle.drf_why.specs.declared.pick.Pick.{Pick}
use Rattle.drf_why.specs.declared.tally.Tally.{Tally}
use Rattle.drf_why.specs.Written.{Output, HasWritten}
use Rattle.drf_why.proofs.Writes.{and_then, nothing_written, stopped, unwritten}

-- the lists of findings of some turns
abbrev pub reported_in : List Turn → List (List Finding)
reported_in turns = map (λ turn. turn.0) turns

-- the text of the selected findings of some lists
abbrev pub text_of : Pick → List (List Finding) → List ℕ
text_of pick lists = explained_text (flat_map (picked pick) lists)

-- the text of the first list, followed by that of the others
pub text_of_lists : (pick : Pick) (reported : List Finding) (lists : List (List Finding))
    → text_of pick (reported ∷ lists) ≡ explained_text (picked pick reported) ++ text_of pick lists
text_of_lists pick reported lists = flat_map-append finding_text (picked pick reported) (flat_map (picked pick) lists)

-- ---- lists that are written

-- all lists except the remaining ones were written
pub record IsWrittenTo (pick : Pick) (whole left : List (List Finding)) (old now : Output) : Type 0 where
  pub before : List ℕ
  pub wrote : HasWritten before old now (Ok tt)
  pub rest : text_of pick whole ≡ before ++ text_of pick left

pub written_none : (pick : Pick) (whole : List (List Finding)) (old : Output) → IsWrittenTo pick whole whole old old
written_none pick whole old = record { before = []; wrote = nothing_written old; rest = refl }

module _ (pick : Pick) (whole left : List (List Finding)) (old now : Output) (so_far : IsWrittenTo pick whole left old now) where
  -- the next list is written
  module _ (reported : List Finding) (next : List (List Finding)) (is : left ≡ reported ∷ next) where
    parted : text_of pick whole ≡ (so_far.before ++ explained_text (picked pick reported)) ++ text_of pick next
    parted =
        so_far.rest
        ∙ ap (λ text. so_far.before ++ text) (ap (text_of pick) is ∙ text_of_lists pick reported next)
        ∙ sym (append_assoc so_far.before (explained_text (picked pick reported)) (text_of pick next))

    pub written_more : (new : Output) → HasWritten (explained_text (picked pick reported)) now new (Ok tt) → IsWrittenTo pick whole next old new
    written_more new wrote = record {
      before = so_far.before ++ explained_text (picked pick reported);
      wrote = and_then so_far.before (explained_text (picked pick reported)) old now new (Ok tt) so_far.wrote wrote;
      rest = parted;
    }

    -- writing it fails
    pub written_prefix : (new : Output) (fault : RunFault) → HasWritten (explained_text (picked pick reported)) now new (Err fault)
        → HasWritten (text_of pick whole) old new (Err fault)
    written_prefix new fault wrote =
        subst (λ (text : List ℕ). HasWritten text old new (Err fault)) (sym parted)
        (stopped (so_far.before ++ explained_text (picked pick reported)) (text_of pick next) old new fault
        (and_then so_far.before (explained_text (picked pick reported)) old now new (Err fault) so_far.wrote wrote))

  -- the list as a slice
  module _ (reported shown : List Finding) (next : List (List Finding)) (is : left ≡ reported ∷ next) (same : shown ≡ reported) where
    shown_first : left ≡ shown ∷ next
    shown_first = is ∙ ap (λ (t : List Finding). t ∷ next) (sym same)

    pub written_next : (new : Output) → HasWritten (explained_text (picked pick shown)) now new (Ok tt) → IsWrittenTo pick whole next old new
    written_next new wrote = written_more shown next shown_first new wrote

    pub written_part : (new : Output) (fault : RunFault) → HasWritten (explained_text (picked pick shown)) now new (Err fault)
        → HasWritten (text_of pick whole) old new (Err fault)
    written_part new fault wrote = written_prefix shown next shown_first new fault wrote

  -- no list remains
  pub written_all : left ≡ [] → HasWritten (text_of pick whole) old now (Ok tt)
  written_all none =
      subst (λ (text : List ℕ). HasWritten text old now (Ok tt))
      (sym (so_far.rest ∙ ap (λ lists. so_far.before ++ text_of pick lists) none ∙ append-nil so_far.before)) so_far.wrote

  -- memory runs out before the next list
  pub written_before : HasWritten (text_of pick whole) old now (Err Memory)
  written_before =
      subst (λ (text : List ℕ). HasWritten text old now (Err Memory)) (sym so_far.rest)
      (and_then so_far.before (text_of pick left) old now now (Err Memory) so_far.wrote (unwritten (text_of pick left) now))

-- ---- turns that are counted

-- all turns except the remaining ones were counted
pub record AreCountedTo (whole left : List Turn) (old now : List Tally) : Type 0 where
  pub before : List Turn
  pub rest : whole ≡ before ++ left
  pub counted : (rows : Rows) (turns : List Turn) → old ≡ tallies_of rows turns → now ≡ tallies_of rows (turns ++ before)

pub counted_none : (whole : List Turn) (old : List Tally) → AreCountedTo whole whole old old
counted_none whole old = record {
  before = [];
  rest = refl;
  counted = λ rows turns is. is ∙ ap (tallies_of rows) (sym (append-nil turns));
}

module _ (whole left : List Turn) (old now : List Tally) (so_far : AreCountedTo whole left old now) where
  pub counted_more : (turn : Turn) (next : List Turn) (new : List Tally) → left ≡ turn ∷ next
      → ((rows : Rows) (turns : List Turn) → now ≡ tallies_of rows turns → new ≡ tallies_of rows (turns ++ turn ∷ []))
      → AreCountedTo whole next old new
  counted_more turn next new is took = record {
    before = so_far.before ++ turn ∷ [];
    rest = so_far.rest ∙ ap (λ turns. so_far.before ++ turns) is ∙ sym (append_assoc so_far.before (turn ∷ []) next);
    counted = λ rows turns first.
        took rows (turns ++ so_far.before) (so_far.counted rows turns first)
        ∙ ap (tallies_of rows) (append_assoc turns so_far.before (turn ∷ []));
  }

  pub counted_all : left ≡ [] → (rows : Rows) (turns : List Turn) → old ≡ tallies_of rows turns → now ≡ tallies_of rows (turns ++ whole)
  counted_all none rows turns first =
      let all : so_far.before ≡ whole = sym (append-nil so_far.before) ∙ ap (λ ts. so_far.before ++ ts) (sym none) ∙ sym so_far.rest in
      so_far.counted rows turns first ∙ ap (λ before. tallies_of rows (turns ++ before)) all

-- the number of tallies does not depend on the turns
pub length-tallies : (rows : Rows) (some others : List Turn) → length (tallies_of rows some) ≡ length (tallies_of rows others)
length-tallies rows some others =
    length-map (active_clients rows) (λ (c : Client). tally_of some (path_of c))
    ∙ sym (length-map (active_clients rows) (λ (c : Client). tally_of others (path_of c)))
