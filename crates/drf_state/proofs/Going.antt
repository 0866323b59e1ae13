-- The meaning of a text, line by line.
use Rattle.std.proofs.Common.{◌≡◌, ℕ, ◌+◌, ◌<◌, ◌≤◌, Bool, true, false, List, [], ◌∷◌, ◌++◌, length, take, drop, Option, Result, Ok, Err, refl, sym, ap, subst, ◌∙◌, take-append-drop, arith}
use Rattle.std.specs.List.{join_with_byte}
use Rattle.std.specs.Prelude.{IfErr, IsErrAnd}
use Rattle.std.proofs.Math.Seq.{drop-drop, take-append-add}
use Rattle.std.proofs.lemmas.List.{length-take, drop_all}
use Rattle.drf_rows.specs.LimitNumbers.{LimitNumbers}
use Rattle.drf_rows.specs.declared.rows.Rows.{Rows}
use Rattle.drf_saved.specs.declared.fault.RowFault.TheVariants.{OutOfOrder}
use Rattle.drf_state.specs.Fault.{stopped_at}
use Rattle.drf_state.specs.Reading.{IsFaultOf, IsStop}
use Rattle.drf_state.specs.State.{ended, said_by, rows_behind, is_at_end, Said, says_behind, says_first, rest_says, rows_begun, state_in, parts_say}
use Rattle.drf_state.specs.declared.fault.LineStop.{LineStop}
use Rattle.drf_state.specs.declared.fault.LineStop.TheVariants as stop
use Rattle.drf_state.specs.declared.fault.StateError.{StateError}
use Rattle.drf_state.specs.declared.fault.StateFault.{StateFault}
use Rattle.drf_state.specs.declared.fault.StateFault.TheVariants.{Row}
use Rattle.drf_state.specs.laws.Parts.{parts_of_text}
use Rattle.drf_state.proofs.theorems.Parts.{parts-joined, parts-some}
use Rattle.drf_state.proofs.theorems.Texts.{parts_say-more, rest_says-more}

-- ---- the end of a text

none_joined : (parts : List (List ℕ)) → is_at_end parts ≡ true → join_with_byte 10 parts ≡ []
none_joined [] is = refl
none_joined ([] ∷ []) is = refl
none_joined ([] ∷ next ∷ parts) is = let none : ⊥ = cc in absurd none
none_joined ((b ∷ part) ∷ parts) is = let none : ⊥ = cc in absurd none

not_at_end : (parts : List (List ℕ)) → 0 < length (join_with_byte 10 parts) → (last : Bool) → is_at_end parts ≡ last → last ≡ false
not_at_end parts some false is = refl
not_at_end parts some true is = absurd (omega (arith, some, ap length (none_joined parts is)))

pub goes_further : (bytes : List ℕ) → 0 < length bytes → is_at_end (parts_of_text bytes) ≡ false
goes_further bytes some =
    let joined : 0 < length (join_with_byte 10 (parts_of_text bytes)) = subst (λ (bs : List ℕ). 0 < length bs) (sym (parts-joined bytes)) some in
    not_at_end (parts_of_text bytes) joined (is_at_end (parts_of_text bytes)) refl

pub ends_there : (bytes : List ℕ) (read : ℕ) → length bytes ≤ read → is_at_end (parts_of_text (drop read bytes)) ≡ true
ends_there bytes read past = ap (λ (bs : List ℕ). is_at_end (parts_of_text bs)) (drop_all read bytes past)

-- ---- the next line

-- a line that ends at this offset after the bytes read so far
pub record NextLine (bytes rest : List ℕ) (read at : ℕ) (text line : List ℕ) : Type 0 where
  pub rest_is : rest ≡ drop read bytes
  pub text_is : text ≡ take read bytes
  pub line_is : line ≡ take at rest
  pub within : read ≤ length bytes
  pub parted : parts_of_text rest ≡ take at rest ∷ parts_of_text (drop (at + 1) rest)
  pub with_feed : take (at + 1) rest ≡ ended (take at rest)

text_more : (bytes : List ℕ) (read more : ℕ) → read ≤ length bytes → take read bytes ++ take more (drop read bytes) ≡ take (read + more) bytes
text_more bytes read more within =
    let count : length (take read bytes) + more ≡ read + more = omega (arith, length-take read bytes, within) in
    sym (take-append-add (take read bytes) (drop read bytes) more)
    ∙ ap (λ n. take n (take read bytes ++ drop read bytes)) count
    ∙ ap (take (read + more)) (take-append-drop read bytes)

pub says_next : (limits : LimitNumbers) (bytes rest : List ℕ) (read at lines : ℕ) (rows : Rows) (text line : List ℕ)
    → NextLine bytes rest read at text line
    → rest_says limits (take read bytes) lines rows (parts_of_text (drop read bytes))
    ≡ says_behind (lines + 1) rows (is_at_end (parts_of_text (drop (read + (at + 1)) bytes)))
    (λ new. rest_says limits (take (read + (at + 1)) bytes) (lines + 1) new (parts_of_text (drop (read + (at + 1)) bytes)))
    (rows_behind limits text lines rows line (said_by line))
says_next limits bytes rest read at lines rows text line next =
    let its : List ℕ = take at rest in
    let behind : drop (at + 1) rest ≡ drop (read + (at + 1)) bytes = ap (drop (at + 1)) next.rest_is ∙ drop-drop (at + 1) read bytes in
    let more : List (List ℕ) = parts_of_text (drop (read + (at + 1)) bytes) in
    let longer : take read bytes ++ ended its ≡ take (read + (at + 1)) bytes =
    ap (λ (l : List ℕ). take read bytes ++ l) (sym next.with_feed ∙ ap (take (at + 1)) next.rest_is) ∙ text_more bytes read (at + 1) next.within in
    ap (λ (d : List ℕ). rest_says limits (take read bytes) lines rows (parts_of_text d)) (sym next.rest_is)
    ∙ ap (rest_says limits (take read bytes) lines rows) (next.parted ∙ ap (λ (d : List ℕ). its ∷ parts_of_text d) behind)
    ∙ rest_says-more limits (take read bytes) lines rows its more (parts-some (drop (read + (at + 1)) bytes))
    ∙ ap (λ (t : List ℕ). says_behind (lines + 1) rows (is_at_end more) (λ new. rest_says limits t (lines + 1) new more)
    (rows_behind limits (take read bytes) lines rows its (said_by its))) longer
    ∙ (λ i. says_behind (lines + 1) rows (is_at_end more) (λ new. rest_says limits (take (read + (at + 1)) bytes) (lines + 1) new more)
    (rows_behind limits (sym next.text_is i) lines rows (sym next.line_is i) (said_by (sym next.line_is i))))

-- ---- the result of the line

pub stopped_behind : (said : Said) (line : ℕ) (rows : Rows) (last : Bool) (more : Rows → Said) (reported : Result (Option Rows) StateFault) (stopped : LineStop)
    → said ≡ says_behind line rows last more reported → IsStop reported stopped → IsFaultOf said (stopped_at line stopped)
stopped_behind said line rows last more reported (stop.Fault fault) is stops = is ∙ ap (says_behind line rows last more) stops
stopped_behind said line rows last more reported stop.Memory is stops = tt

pub stopped_first : (said : Said) (more : Rows → Said) (reported : Result Rows StateFault) (stopped : LineStop)
    → said ≡ says_first more reported → IsStop reported stopped → IsFaultOf said (stopped_at 1 stopped)
stopped_first said more reported (stop.Fault fault) is stops = is ∙ ap (says_first more) stops
stopped_first said more reported stop.Memory is stops = tt

-- ---- the first line

pub says_begun : (limits : LimitNumbers) (bytes : List ℕ) (at : ℕ)
    → parts_of_text bytes ≡ take at bytes ∷ parts_of_text (drop (at + 1) bytes)
    → take (at + 1) bytes ≡ ended (take at bytes)
    → state_in limits bytes
    ≡ says_first (λ rows. rest_says limits (take (at + 1) bytes) 1 rows (parts_of_text (drop (at + 1) bytes))) (rows_begun limits (said_by (take at bytes)))
unfolding state_in
says_begun limits bytes at parted with_feed =
    let more : List (List ℕ) = parts_of_text (drop (at + 1) bytes) in
    ap (parts_say limits) parted
    ∙ parts_say-more limits (take at bytes) more (parts-some (drop (at + 1) bytes))
    ∙ ap (λ (t : List ℕ). says_first (λ rows. rest_says limits t 1 rows more) (rows_begun limits (said_by (take at bytes)))) (sym with_feed)

pub says_nothing : (limits : LimitNumbers) (bytes : List ℕ) → parts_of_text bytes ≡ bytes ∷ [] → state_in limits bytes ≡ Err (1, Row OutOfOrder)
unfolding state_in
says_nothing limits bytes none = ap (parts_say limits) none

-- an error that is returned unchanged
pub passed_on : {A : Type 0} (said : Said) (e : StateError) (r : Result A StateError) → IsFaultOf said e → IsErrAnd r (λ f. f ≡ e) → IfErr r (IsFaultOf said)
passed_on said e (Ok a) reported is = absurd is
passed_on said e (Err f) reported is = subst (IsFaultOf said) (sym is) reported
