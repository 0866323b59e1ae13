-- Theorem: a text that means rows is the text of these rows, and the text of rows means them.
use Rattle.std.specs.Prelude.{◌≡◌, ℕ, ◌+◌, ◌<◌, Bool, true, false, List, [], ◌∷◌, ◌++◌, length, Option, Some, None, is_some, Result, Ok, Err, if◌then◌else◌}
use Rattle.std.specs.List.{join_with_byte, AllByRecursion}
use Rattle.std.specs.Option.{option_map_or}
use Rattle.std.proofs.Common.{refl, sym, ap, subst, ◌∙◌, arith, append_assoc, append-nil}
use Rattle.drf_role.specs.Text.{same_text}
use Rattle.drf_role.specs.TextLaws.{same_from_test, same_itself, test_from_same}
use Rattle.drf_rows.specs.LimitNumbers.{LimitNumbers}
use Rattle.drf_bundle.proofs.ListLaws.{each_from}
use Rattle.drf_rows.specs.declared.rows.Rows.{Rows}
use Rattle.drf_saved.specs.Saved.{saved_rows, head_of, begun, with_row, head_fault, row_fault, restored_from, restored, IsTyped}
use Rattle.drf_saved.specs.declared.fault.RowFault.{RowFault}
use Rattle.drf_saved.specs.declared.saved.Head.{Head}
use Rattle.drf_saved.specs.declared.saved.SavedRow.{SavedRow}
use Rattle.drf_saved.specs.declared.saved.SavedRow.TheVariants.{Agent, Framework, Weight, Limit, Offer, Task, Filter}
use Rattle.drf_saved.specs.declared.saved.StateLine.{StateLine}
use Rattle.drf_saved.specs.declared.saved.StateLine.TheVariants as says
use Rattle.drf_rows.specs.Step.{live_rows}
use Rattle.drf_saved_laws.proofs.theorems.Faults.{goes_head, taken_first, taken_head}
use Rattle.drf_saved_laws.proofs.theorems.Listed.{restored_is_listed}
use Rattle.drf_saved_laws.proofs.theorems.Saveable.{restored_can_be_saved}
use Rattle.drf_saved_laws.proofs.theorems.Taken.{saved_is_restored}
use Rattle.drf_lines.specs.OneLine.{IsOneLine}
use Rattle.drf_lines.specs.StateLine.{head_line, row_line, end_line}
use Rattle.drf_lines.specs.StateMeaning.{state_line_meaning}
use Rattle.drf_lines.specs.declared.fault.LineFault.{LineFault}
use Rattle.drf_state.specs.Read.{AreRead, IsRead}
use Rattle.drf_state.specs.State.{ended, closing, rows_text, is_written, said_or, said_by, rows_or, rows_begun, rows_behind, is_at_end, whole_if, says_behind, rest_says, says_first, parts_say, state_in, state_text}
use Rattle.drf_state.specs.StateLaws.{WhatIsSaidCanBeSaved, WhatIsSaidIsTheText, WhatIsWrittenIsSaid}
use Rattle.drf_state.specs.Valid.{IsValidRow}
use Rattle.drf_state.specs.declared.fault.StateFault.{StateFault}
use Rattle.drf_state.specs.declared.fault.StateFault.TheVariants.{NotWritten, Row, BadEnd}
use Rattle.drf_state.specs.laws.Parts.{parts_of_text}
use Rattle.drf_state.proofs.theorems.Parts.{parts-ended, parts-joined, parts-some}

-- ---- lines

written_if : (line : List ℕ) (found said : StateLine) (yes : Bool) → is_written line found ≡ yes
    → (if yes then Ok found else Err NotWritten) ≡ Ok said → is_written line said ≡ true
written_if line found said true test is =
    let same : found ≡ said = cc in
    subst (λ s. is_written line s ≡ true) same test
written_if line found said false test is = let none : ⊥ = cc in absurd none

written_or : (line : List ℕ) (said : StateLine) (meaning : Result StateLine LineFault) → said_or line meaning ≡ Ok said → is_written line said ≡ true
written_or line said (Ok found) is = written_if line found said (is_written line found) refl is
written_or line said (Err fault) is = let none : ⊥ = cc in absurd none

-- a line whose content is known is in normal form
written : (line : List ℕ) (said : StateLine) → said_by line ≡ Ok said → is_written line said ≡ true
unfolding said_by
written line said is = written_or line said (state_line_meaning line) is

meaning_if : (line : List ℕ) (found said : StateLine) (yes : Bool) → is_written line found ≡ yes
    → (if yes then Ok found else Err NotWritten) ≡ Ok said → found ≡ said
meaning_if line found said true test is = cc
meaning_if line found said false test is = let none : ⊥ = cc in absurd none

meaning_or : (line : List ℕ) (said : StateLine) (meaning : Result StateLine LineFault) → said_or line meaning ≡ Ok said → meaning ≡ Ok said
meaning_or line said (Ok found) is = ap Ok (meaning_if line found said (is_written line found) refl is)
meaning_or line said (Err fault) is = let none : ⊥ = cc in absurd none

-- its meaning is this content
meant : (line : List ℕ) (said : StateLine) → said_by line ≡ Ok said → state_line_meaning line ≡ Ok said
unfolding said_by
meant line said is = meaning_or line said (state_line_meaning line) is

-- a line that means an allowed row
record HasMade (limits : LimitNumbers) (rows : Rows) (line : List ℕ) (new : Rows) : Type 0 where
  row : SavedRow
  spelled : line ≡ row_line row
  read : IsRead row
  fits : row_fault limits rows row ≡ None
  made : with_row rows row ≡ new

module _ (limits : LimitNumbers) (text : List ℕ) (lines : ℕ) (rows : Rows) (line : List ℕ) where
  fitting : (row : SavedRow) (new : Rows) → said_by line ≡ Ok (says.Row row) → (fault : Option RowFault) → row_fault limits rows row ≡ fault
      → option_map_or (λ f. Err (Row f)) fault (Ok (Some (with_row rows row))) ≡ Ok (Some new) → HasMade limits rows line new
  fitting row new said None fits is =
      let spelled : line ≡ row_line row = same_from_test line (row_line row) (written line (says.Row row) said) in
      record {
        row = row;
        spelled = spelled;
        read = ap state_line_meaning (sym spelled) ∙ meant line (says.Row row) said;
        fits = fits;
        made = cc;
      }
  fitting row new said (Some fault) fits is = let none : ⊥ = cc in absurd none

  no_row_at_end : (new : Rows) (last : Bool) → (let r : Result (Option Rows) StateFault = if last then Ok None else Err BadEnd in r ≡ Ok (Some new)) → ⊥
  no_row_at_end new true is = cc
  no_row_at_end new false is = cc

  has_made : (new : Rows) (said : Result StateLine StateFault) → said_by line ≡ said
      → rows_behind limits text lines rows line said ≡ Ok (Some new) → HasMade limits rows line new
  has_made new (Ok (says.Head head)) said is = let none : ⊥ = cc in absurd none
  has_made new (Ok (says.Row row)) said is = fitting row new said (row_fault limits rows row) refl is
  has_made new (Ok says.End) said is = absurd (no_row_at_end new (same_text line (closing text lines)) is)
  has_made new (Err fault) said is = let none : ⊥ = cc in absurd none

  fits_or_not : (row : SavedRow) (fault : Option RowFault)
      → (let r : Result (Option Rows) StateFault = option_map_or (λ f. Err (Row f)) fault (Ok (Some (with_row rows row))) in r ≡ Ok None) → ⊥
  fits_or_not row None is = cc
  fits_or_not row (Some fault) is = cc

  closes : (last : Bool) → same_text line (closing text lines) ≡ last
      → (let r : Result (Option Rows) StateFault = if last then Ok None else Err BadEnd in r ≡ Ok None) → line ≡ closing text lines
  closes true same is = same_from_test line (closing text lines) same
  closes false same is = let none : ⊥ = cc in absurd none

  has_ended : (said : Result StateLine StateFault) → rows_behind limits text lines rows line said ≡ Ok None → line ≡ closing text lines
  has_ended (Ok (says.Head head)) is = let none : ⊥ = cc in absurd none
  has_ended (Ok (says.Row row)) is = absurd (fits_or_not row (row_fault limits rows row) is)
  has_ended (Ok says.End) is = closes (same_text line (closing text lines)) refl is
  has_ended (Err fault) is = let none : ⊥ = cc in absurd none

-- ---- a text that means rows

-- the rest of such a text
record SaysRest (limits : LimitNumbers) (text : List ℕ) (lines : ℕ) (rows : Rows) (parts : List (List ℕ)) (made : Rows) : Type 0 where
  saved : List SavedRow
  read : AreRead saved
  restored : restored_from limits rows saved ≡ Some made
  joined : join_with_byte 10 parts ≡ rows_text saved ++ ended (closing (text ++ rows_text saved) (lines + length saved))

at_end : (next : List ℕ) (parts : List (List ℕ)) → is_at_end (next ∷ parts) ≡ true → next ∷ parts ≡ [] ∷ []
at_end [] [] is = refl
at_end [] (part ∷ parts) is = let none : ⊥ = cc in absurd none
at_end (b ∷ next) parts is = let none : ⊥ = cc in absurd none

whole : (last : Bool) (line : ℕ) (rows made : Rows) → whole_if last line rows ≡ Ok made → (last ≡ true) × (rows ≡ made)
whole true line rows made is = (refl, cc)
whole false line rows made is = let none : ⊥ = cc in absurd none

module _ (limits : LimitNumbers) (text : List ℕ) (lines : ℕ) (rows made : Rows) (line next : List ℕ) (parts : List (List ℕ)) where
  one_row_more : (new : Rows) → HasMade limits rows line new → SaysRest limits (text ++ ended line) (lines + 1) new (next ∷ parts) made
      → SaysRest limits text lines rows (line ∷ next ∷ parts) made
  one_row_more new m rest = record {
    saved = m.row ∷ rest.saved;
    read = (m.read, rest.read);
    restored = ap (λ f. if is_some f then None else restored_from limits (with_row rows m.row) rest.saved) m.fits
        ∙ ap (λ r. restored_from limits r rest.saved) m.made ∙ rest.restored;
    joined = sym (append_assoc line (10 ∷ []) (join_with_byte 10 (next ∷ parts)))
        ∙ ap (λ j. ended line ++ j) rest.joined
        ∙ sym (append_assoc (ended line) (rows_text rest.saved) _)
        ∙ ap (λ l. (ended l ++ rows_text rest.saved) ++ ended (closing ((text ++ ended l) ++ rows_text rest.saved) (lines + 1 + length rest.saved))) m.spelled
        ∙ (λ i. (ended (row_line m.row) ++ rows_text rest.saved)
        ++ ended (closing (append_assoc text (ended (row_line m.row)) (rows_text rest.saved) i) (counted i)));
  }
    where
      counted : lines + 1 + length rest.saved ≡ lines + length (m.row ∷ rest.saved)
      counted = omega arith

  the_last : line ≡ closing text lines → (is_at_end (next ∷ parts) ≡ true) × (rows ≡ made) → SaysRest limits text lines rows (line ∷ next ∷ parts) made
  the_last is ends = record {
    saved = [];
    read = tt;
    restored = ap Some ends.1;
    joined = ap (λ ps. join_with_byte 10 (line ∷ ps)) (at_end next parts ends.0)
        ∙ ap ended is ∙ (λ i. ended (closing (sym (append-nil text) i) (counted i)));
  }
    where
      counted : lines ≡ lines + length {A = SavedRow} []
      counted = omega arith

  says_rest : (reported : Result (Option Rows) StateFault) → rows_behind limits text lines rows line (said_by line) ≡ reported
      → says_behind (lines + 1) rows (is_at_end (next ∷ parts)) (λ new. rest_says limits (text ++ ended line) (lines + 1) new (next ∷ parts)) reported ≡ Ok made
      → ((new : Rows) → rest_says limits (text ++ ended line) (lines + 1) new (next ∷ parts) ≡ Ok made → SaysRest limits (text ++ ended line) (lines + 1) new (next ∷ parts) made)
      → SaysRest limits text lines rows (line ∷ next ∷ parts) made
  says_rest (Ok (Some new)) reported is later =
      one_row_more new (has_made limits text lines rows line new (said_by line) refl reported) (later new is)
  says_rest (Ok None) reported is later =
      the_last (has_ended limits text lines rows line (said_by line) reported) (whole (is_at_end (next ∷ parts)) (lines + 1) rows made is)
  says_rest (Err fault) reported is later = let none : ⊥ = cc in absurd none

rest_is : (limits : LimitNumbers) (text : List ℕ) (lines : ℕ) (rows made : Rows) (parts : List (List ℕ))
    → rest_says limits text lines rows parts ≡ Ok made → SaysRest limits text lines rows parts made
rest_is limits text lines rows made [] is = let none : ⊥ = cc in absurd none
rest_is limits text lines rows made (part ∷ []) is = let none : ⊥ = cc in absurd none
rest_is limits text lines rows made (line ∷ next ∷ parts) is =
    says_rest limits text lines rows made line next parts (rows_behind limits text lines rows line (said_by line)) refl is
    (λ new e. rest_is limits (text ++ ended line) (lines + 1) new made (next ∷ parts) e)

-- the whole of such a text
record SaysAll (limits : LimitNumbers) (parts : List (List ℕ)) (made : Rows) : Type 0 where
  head : Head
  saved : List SavedRow
  read : AreRead saved
  restored : restored limits head saved ≡ Some made
  joined : join_with_byte 10 parts
      ≡ (ended (head_line head) ++ rows_text saved) ++ ended (closing (ended (head_line head) ++ rows_text saved) (1 + length saved))

module _ (limits : LimitNumbers) (made : Rows) (line next : List ℕ) (parts : List (List ℕ)) where
  from_head : (head : Head) (fault : Option RowFault) → head_fault limits head ≡ fault → said_by line ≡ Ok (says.Head head)
      → says_first (λ rows. rest_says limits (ended line) 1 rows (next ∷ parts)) (rows_or fault (begun head)) ≡ Ok made
      → SaysAll limits (line ∷ next ∷ parts) made
  from_head head (Some fault) fits said is = let none : ⊥ = cc in absurd none
  from_head head None fits said is =
      let rest = rest_is limits (ended line) 1 (begun head) made (next ∷ parts) is in
      let spelled : line ≡ head_line head = same_from_test line (head_line head) (written line (says.Head head) said) in
      record {
        head = head;
        saved = rest.saved;
        read = rest.read;
        restored = goes_head limits head rest.saved fits ∙ rest.restored;
        joined = sym (append_assoc line (10 ∷ []) (join_with_byte 10 (next ∷ parts)))
            ∙ ap (λ j. ended line ++ j) rest.joined
            ∙ sym (append_assoc (ended line) (rows_text rest.saved) _)
            ∙ ap (λ l. (ended l ++ rows_text rest.saved) ++ ended (closing (ended l ++ rows_text rest.saved) (1 + length rest.saved))) spelled;
      }

  from_first : (said : Result StateLine StateFault) → said_by line ≡ said
      → says_first (λ rows. rest_says limits (ended line) 1 rows (next ∷ parts)) (rows_begun limits said) ≡ Ok made
      → SaysAll limits (line ∷ next ∷ parts) made
  from_first (Ok (says.Head head)) said is = from_head head (head_fault limits head) refl said is
  from_first (Ok (says.Row row)) said is = let none : ⊥ = cc in absurd none
  from_first (Ok says.End) said is = let none : ⊥ = cc in absurd none
  from_first (Err fault) said is = let none : ⊥ = cc in absurd none

all_is : (limits : LimitNumbers) (made : Rows) (parts : List (List ℕ)) → parts_say limits parts ≡ Ok made → SaysAll limits parts made
all_is limits made [] is = let none : ⊥ = cc in absurd none
all_is limits made (part ∷ []) is = let none : ⊥ = cc in absurd none
all_is limits made (line ∷ next ∷ parts) is = from_first limits made line next parts (said_by line) refl is

pub what_is_said_is_the_text : WhatIsSaidIsTheText
unfolding state_in state_text
what_is_said_is_the_text limits text rows is =
    let all = all_is limits rows (parts_of_text text) is in
    let listed = restored_is_listed limits all.head all.saved rows all.restored in
    sym (parts-joined text) ∙ all.joined
    ∙ (λ i. (ended (head_line (sym listed.1 i)) ++ rows_text (sym listed.0 i))
    ++ ended (closing (ended (head_line (sym listed.1 i)) ++ rows_text (sym listed.0 i)) (1 + length (sym listed.0 i))))

-- ---- the rows can be saved

typed_row : (row : SavedRow) → IsValidRow row → IsTyped row
typed_row (Agent a) valid = valid
typed_row (Framework f) valid = valid
typed_row (Weight w) valid = valid
typed_row (Limit l) valid = valid.0
typed_row (Offer o) valid = valid
typed_row (Task t) valid = valid
typed_row (Filter f) valid = valid

pub what_is_said_can_be_saved : ((row : SavedRow) → IsRead row → IsValidRow row) → WhatIsSaidCanBeSaved
unfolding state_in
what_is_said_can_be_saved valid limits text rows is =
    let all = all_is limits rows (parts_of_text text) is in
    let listed = restored_is_listed limits all.head all.saved rows all.restored in
    record {
      saveable = restored_can_be_saved limits all.head all.saved rows (each_from IsRead IsTyped all.saved (λ row read. typed_row row (valid row read)) all.read) all.restored;
      valid = subst (AllByRecursion IsValidRow) (sym listed.0) (each_from IsRead IsValidRow all.saved valid all.read);
      live = listed.2;
    }

-- ---- the text of rows

pub rest_says-more : (limits : LimitNumbers) (text : List ℕ) (lines : ℕ) (rows : Rows) (line : List ℕ) (more : List (List ℕ)) → 0 < length more
    → rest_says limits text lines rows (line ∷ more)
    ≡ says_behind (lines + 1) rows (is_at_end more) (λ new. rest_says limits (text ++ ended line) (lines + 1) new more)
    (rows_behind limits text lines rows line (said_by line))
rest_says-more limits text lines rows line [] some = absurd (omega arith)
rest_says-more limits text lines rows line (next ∷ parts) some = refl

pub parts_say-more : (limits : LimitNumbers) (line : List ℕ) (more : List (List ℕ)) → 0 < length more
    → parts_say limits (line ∷ more) ≡ says_first (λ rows. rest_says limits (ended line) 1 rows more) (rows_begun limits (said_by line))
parts_say-more limits line [] some = absurd (omega arith)
parts_say-more limits line (next ∷ parts) some = refl

-- a line that is read and is in normal form has this content
said_so : (line : List ℕ) (said : StateLine) → state_line_meaning line ≡ Ok said → is_written line said ≡ true → said_by line ≡ Ok said
unfolding said_by
said_so line said meaning test = ap (said_or line) meaning ∙ ap (λ b. if b then Ok said else Err NotWritten) test

-- each line has no line feed
pub record AreOneLine : Type 0 where
  pub head : (head : Head) → IsOneLine (head_line head)
  pub row : (row : SavedRow) → IsOneLine (row_line row)
  pub end : (lines : ℕ) (digest : List ℕ) → IsOneLine (end_line lines digest)

-- rows after others, and then the last line
rest_said : (one : AreOneLine) (limits : LimitNumbers) (text : List ℕ) (lines : ℕ) (rows made : Rows) (saved : List SavedRow)
    → restored_from limits rows saved ≡ Some made
    → AreRead saved
    → state_line_meaning (closing (text ++ rows_text saved) (lines + length saved)) ≡ Ok says.End
    → rest_says limits text lines rows (parts_of_text (rows_text saved ++ ended (closing (text ++ rows_text saved) (lines + length saved)))) ≡ Ok made
rest_said one limits text lines rows made [] is read end =
    let last = closing (text ++ []) (lines + length {A = SavedRow} []) in
    let same : last ≡ closing text lines = (λ i. closing (append-nil text i) (counted i)) in
    let cut : parts_of_text (ended last) ≡ last ∷ [] ∷ [] =
    ap parts_of_text (sym (append-nil (ended last))) ∙ parts-ended last [] (one.end _ _) in
    ap (rest_says limits text lines rows) cut
    ∙ ap (says_behind (lines + 1) rows true (λ new. rest_says limits (text ++ ended last) (lines + 1) new ([] ∷ [])))
    (ap (rows_behind limits text lines rows last) (said_so last says.End end refl)
    ∙ ap (λ b. if b then Ok None else Err BadEnd) (test_from_same last (closing text lines) same))
    ∙ ap Ok (let e : rows ≡ made = cc in e)
  where
    counted : lines + length {A = SavedRow} [] ≡ lines
    counted = omega arith
rest_said one limits text lines rows made (row ∷ saved) is read end =
    let line = row_line row in
    let taken = taken_first limits rows row saved made is in
    let last = ended (closing (text ++ rows_text (row ∷ saved)) (lines + length (row ∷ saved))) in
    let last_is : last ≡ ended (closing ((text ++ ended line) ++ rows_text saved) (lines + 1 + length saved)) =
    (λ i. ended (closing (sym (append_assoc text (ended line) (rows_text saved)) i) (counted i))) in
    let more : List (List ℕ) = parts_of_text (rows_text saved ++ last) in
    let cut : parts_of_text (rows_text (row ∷ saved) ++ last) ≡ line ∷ more =
    ap parts_of_text (append_assoc (ended line) (rows_text saved) last) ∙ parts-ended line (rows_text saved ++ last) (one.row row) in
    let said : said_by line ≡ Ok (says.Row row) = said_so line (says.Row row) read.0 (same_itself line) in
    ap (rest_says limits text lines rows) cut
    ∙ rest_says-more limits text lines rows line more (parts-some (rows_text saved ++ last))
    ∙ ap (says_behind (lines + 1) rows (is_at_end more) (λ new. rest_says limits (text ++ ended line) (lines + 1) new more))
    (ap (rows_behind limits text lines rows line) said
    ∙ ap (λ f. option_map_or (λ g. Err (Row g)) f (Ok (Some (with_row rows row)))) taken.0)
    ∙ ap (λ l. rest_says limits (text ++ ended line) (lines + 1) (with_row rows row) (parts_of_text (rows_text saved ++ l))) last_is
    ∙ rest_said one limits (text ++ ended line) (lines + 1) (with_row rows row) made saved taken.1 read.1
    ((λ i. state_line_meaning (closing (append_assoc text (ended line) (rows_text saved) i) (sym counted i))) ∙ end)
  where
    counted : lines + length (row ∷ saved) ≡ lines + 1 + length saved
    counted = omega arith

pub what_is_written_is_said : AreOneLine → WhatIsWrittenIsSaid
unfolding state_in state_text
what_is_written_is_said one limits rows can read =
    let head = head_of rows in
    let saved = saved_rows rows in
    let line = head_line head in
    let taken = taken_head limits head saved (live_rows rows) (saved_is_restored limits rows can) in
    let last = ended (closing (ended line ++ rows_text saved) (1 + length saved)) in
    let more : List (List ℕ) = parts_of_text (rows_text saved ++ last) in
    let cut : parts_of_text ((ended line ++ rows_text saved) ++ last) ≡ line ∷ more =
    ap parts_of_text (append_assoc (ended line) (rows_text saved) last) ∙ parts-ended line (rows_text saved ++ last) (one.head head) in
    let said : said_by line ≡ Ok (says.Head head) = said_so line (says.Head head) read.head (same_itself line) in
    ap (parts_say limits) cut
    ∙ parts_say-more limits line more (parts-some (rows_text saved ++ last))
    ∙ ap (says_first (λ r. rest_says limits (ended line) 1 r more)) (ap (rows_begun limits) said ∙ ap (λ f. rows_or f (begun head)) taken.0)
    ∙ rest_said one limits (ended line) 1 (begun head) (live_rows rows) saved taken.1 read.each read.end
