-- Pieces that are combined one after another.
use Rattle.std.proofs.Common.{◌≡◌, ℕ, ◌^◌, ◌+◌, ◌≤◌, Bool, true, false, cond, ltb, List, [], ◌∷◌, ◌||◌, ◌&&◌, length, map, filter, Option, Some, None, Result, Ok, Err, refl, sym, ap, ◌∙◌, arith, not, le-leb, lt-ltb}
use Rattle.std.specs.Option.{option_map}
use Rattle.std.proofs.lemmas.Bool.Decides.{nat_tests}
use Rattle.drf_text.proofs.Names.{Text, same_text, Resource, trimmed, fault_of, quantity_fault_of, head_of, body_of, name_of, value_of, resource_of, TextFault, Kind, TooLarge}
use Rattle.drf_role.specs.Path.{Path}
use Rattle.drf_amount.specs.declared.algebra.AlgebraFault.TheVariants as refusal
use Rattle.drf_bundle.specs.Value.{amount_in, is_same_kind, share_members}
use Rattle.drf_bundle.specs.Quantities.{amount_of}
use Rattle.drf_bundle.specs.Union.{has_other_kind, is_reserved_elsewhere, is_too_much, with_united}
use Rattle.drf_bundle.specs.declared.quantities.Entry.{Entry}
use Rattle.drf_bundle.specs.declared.value.Value.{Value}
use Rattle.drf_bundle.specs.declared.value.Value.TheVariants.{Scalar, Ranges, Items}
use Rattle.drf_text.specs.Meaning.{after, text_fault_of, put, put_or, meaning_from, counted, quantities_from}
use Rattle.drf_text.specs.Steps.{◌>>=◌, fitting, said_in, counted_in, put_said, put_counted, bundle_step, quantities_step}
use Rattle.drf_text.specs.declared.said.Said.{Said}
use Rattle.drf_text.specs.declared.said.Counted.{Counted}
use Rattle.drf_text.proofs.Readings.{reported, said_of, counted_of, said_tested, counted_tested}

-- steps from the left, each on the result of the one before
abbrev pub steps_of : {T : Type 0} → (Text → T → Result T TextFault) → T → List Text → Result T TextFault
steps_of step earlier [] = Ok earlier
steps_of step earlier (text ∷ texts) = step text earlier >>= λ now. steps_of step now texts

-- the trimmed texts that are not blank
abbrev pub filled : List Text → List Text
filled texts = filter (λ piece. ltb 0 (length piece)) (map trimmed texts)

next_same : {A B : Type 0} (r : Result A TextFault) (f g : A → Result B TextFault) → ((x : A) → f x ≡ g x) → (r >>= f) ≡ (r >>= g)
next_same (Ok x) f g same = same x
next_same (Err fault) f g same = refl

-- steps on texts have the result of a definition on pieces
pub record IsByPieces {T : Type 0} (step : Text → T → Result T TextFault) (from : List Text → T → Result T TextFault) : Type 0 where
  pub none : (earlier : T) → from [] earlier ≡ Ok earlier
  pub piece : (text : Text) (earlier : T) (pieces : List Text) → ltb 0 (length (trimmed text)) ≡ true
      → from (trimmed text ∷ pieces) earlier ≡ (step text earlier >>= from pieces)
  pub blank : (text : Text) (earlier : T) → ltb 0 (length (trimmed text)) ≡ false → step text earlier ≡ Ok earlier

one_more : {T : Type 0} (step : Text → T → Result T TextFault) (from : List Text → T → Result T TextFault) → IsByPieces step from
    → (text : Text) (texts : List Text) (earlier : T) → ((now : T) → from (filled texts) now ≡ steps_of step now texts)
    → (b : Bool) → ltb 0 (length (trimmed text)) ≡ b → from (filled (text ∷ texts)) earlier ≡ steps_of step earlier (text ∷ texts)
one_more step from is text texts earlier more true e =
    rw e (is.piece text earlier (filled texts) e ∙ next_same (step text earlier) (from (filled texts)) (λ now. steps_of step now texts) more)
one_more step from is text texts earlier more false e =
    rw (e, is.blank text earlier e) (more earlier)

by_steps : {T : Type 0} (step : Text → T → Result T TextFault) (from : List Text → T → Result T TextFault) → IsByPieces step from
    → (texts : List Text) (earlier : T) → from (filled texts) earlier ≡ steps_of step earlier texts
by_steps step from is [] earlier = is.none earlier
by_steps step from is (text ∷ texts) earlier = one_more step from is text texts earlier (by_steps step from is texts) (ltb 0 (length (trimmed text))) refl

-- ---- bundles

same_kind_scalar : (v : Value) (m n : ℕ) → is_same_kind v (Scalar m) ≡ is_same_kind v (Scalar n)
same_kind_scalar (Scalar a) m n = refl
same_kind_scalar (Ranges a) m n = refl
same_kind_scalar (Items a) m n = refl

other_kind_scalar : (earlier : List Resource) (name : Text) (m n : ℕ) → has_other_kind earlier name (Scalar m) ≡ has_other_kind earlier name (Scalar n)
other_kind_scalar [] name m n = refl
other_kind_scalar (s ∷ ss) name m n =
    λ i. (same_text s.label name && not (same_kind_scalar s.value m n i)) || other_kind_scalar ss name m n i

share_none : (v : Value) (n : ℕ) → share_members v (Scalar n) ≡ false
share_none (Scalar a) n = refl
share_none (Ranges a) n = refl
share_none (Items a) n = refl

apart_scalar : (same other : Bool) → (same && (other && false)) ≡ false
apart_scalar true true = refl
apart_scalar true false = refl
apart_scalar false other = refl

not_reserved : (earlier : List Resource) (label : Text) (role : Path) (n : ℕ) → is_reserved_elsewhere earlier (record { label = label; role = role; value = Scalar n }) ≡ false
not_reserved [] label role n = refl
not_reserved (s ∷ ss) label role n =
    rw (share_none s.value n, apart_scalar, not_reserved ss label role n) refl

refused_at : (other reserved : Bool) (whole : List Resource) → reserved ≡ false
    → put_or (option_map text_fault_of (cond other (Some refusal.Kind) (cond reserved (Some refusal.Overlap) (cond true (Some refusal.TooLarge) None)))) whole
    ≡ Err (cond other Kind TooLarge)
refused_at true reserved whole none = refl
refused_at false reserved whole none = rw none refl

-- a scalar that is too large by itself
put_large : (earlier : List Resource) (label : Text) (role : Path) (n : ℕ) → 2 ^ 64 ≤ n
    → put earlier (record { label = label; role = role; value = Scalar n }) ≡ Err (cond (has_other_kind earlier label (Scalar 0)) Kind TooLarge)
put_large earlier label role n large =
    let r : Resource = record { label = label; role = role; value = Scalar n } in
    let much : is_too_much earlier r ≡ true = le-leb _ _ (omega arith) in
    (λ i. put_or (option_map text_fault_of (cond (other_kind_scalar earlier label n 0 i) (Some refusal.Kind)
    (cond (is_reserved_elsewhere earlier r) (Some refusal.Overlap) (cond (much i) (Some refusal.TooLarge) None)))) (with_united earlier r))
    ∙ refused_at (has_other_kind earlier label (Scalar 0)) (is_reserved_elsewhere earlier r) (with_united earlier r) (not_reserved earlier label role n)

put_filled : (filled : Bool) (now : Result (List Resource) TextFault) (earlier : List Resource) (next : List Resource → Result (List Resource) TextFault)
    → after None filled now earlier next ≡ (cond filled now (Ok earlier) >>= next)
put_filled true (Ok x) earlier next = refl
put_filled true (Err fault) earlier next = refl
put_filled false now earlier next = refl

value_put : (v : Value) (label : Text) (role : Path) (earlier : List Resource) (next : List Resource → Result (List Resource) TextFault)
    → after None (ltb 0 (amount_in v)) (put earlier (record { label = label; role = role; value = v })) earlier next
    ≡ (put_said earlier (record { label = label; role = role; value = fitting v }) >>= next)
value_put (Ranges numbers) label role earlier next = put_filled _ _ earlier next
value_put (Items members) label role earlier next = put_filled _ _ earlier next
value_put (Scalar n) label role earlier next = by (ltb n (2 ^ 64)) refl
  where
    by : (small : Bool) → ltb n (2 ^ 64) ≡ small
        → after None (ltb 0 n) (put earlier (record { label = label; role = role; value = Scalar n })) earlier next
        ≡ (put_said earlier (record { label = label; role = role; value = fitting (Scalar n) }) >>= next)
    by true e = rw e (put_filled _ _ earlier next)
    by false e =
        let large : 2 ^ 64 ≤ n = grind (arith, nat_tests) in
        (λ i. after None (lt-ltb 0 n (omega arith) i) (put_large earlier label role n large i) earlier next) ∙ rw e refl

piece_put : (piece : Text) (earlier : List Resource) (next : List Resource → Result (List Resource) TextFault)
    → after (fault_of piece) (ltb 0 (amount_in (value_of (body_of piece)))) (put earlier (resource_of piece)) earlier next
    ≡ ((said_in piece >>= put_said earlier) >>= next)
piece_put piece earlier next =
    by (fault_of piece) ∙ sym (ap (λ (r : Result Said TextFault). (r >>= put_said earlier) >>= next) (said_tested piece))
  where
    by : (fault : Option TextFault) → after fault (ltb 0 (amount_in (value_of (body_of piece)))) (put earlier (resource_of piece)) earlier next
        ≡ ((reported fault (said_of piece) >>= put_said earlier) >>= next)
    by (Some fault) = refl
    by None = value_put (value_of (body_of piece)) (resource_of piece).label (resource_of piece).role earlier next

bundles_by_pieces : IsByPieces bundle_step meaning_from
unfolding bundle_step
bundles_by_pieces = record {
  none = λ earlier. refl;
  piece = λ text earlier pieces some. rw some (piece_put (trimmed text) earlier (meaning_from pieces));
  blank = λ text earlier none. rw none refl;
}

pub bundle_by_steps : (texts : List Text) → meaning_from (filled texts) [] ≡ steps_of bundle_step [] texts
bundle_by_steps texts = by_steps bundle_step meaning_from bundles_by_pieces texts []

-- ---- quantities

count_filled : (now : Result (List Entry) TextFault) (earlier : List Entry) (next : List Entry → Result (List Entry) TextFault) → after None true now earlier next ≡ (now >>= next)
count_filled (Ok x) earlier next = refl
count_filled (Err fault) earlier next = refl

count_large : (earlier : List Entry) (label : Text) (n : ℕ) → 2 ^ 64 ≤ n → counted earlier label (Scalar n) ≡ Err TooLarge
count_large earlier label n large =
    let sum : ltb (amount_of earlier label + n) (2 ^ 64) ≡ false = grind (arith, nat_tests) in rw sum refl

value_count : (v : Value) (label : Text) (earlier : List Entry) (next : List Entry → Result (List Entry) TextFault)
    → after None true (counted earlier label v) earlier next ≡ (put_counted earlier (record { label = label; value = fitting v }) >>= next)
value_count (Ranges numbers) label earlier next = refl
value_count (Items members) label earlier next = refl
value_count (Scalar n) label earlier next = by (ltb n (2 ^ 64)) refl
  where
    by : (small : Bool) → ltb n (2 ^ 64) ≡ small
        → after None true (counted earlier label (Scalar n)) earlier next
        ≡ (put_counted earlier (record { label = label; value = fitting (Scalar n) }) >>= next)
    by true e = rw e (count_filled (counted earlier label (Scalar n)) earlier next)
    by false e =
        let large : 2 ^ 64 ≤ n = grind (arith, nat_tests) in
        rw (e, count_large earlier label n large) refl

piece_count : (piece : Text) (earlier : List Entry) (next : List Entry → Result (List Entry) TextFault)
    → after (quantity_fault_of piece) true (counted earlier (name_of (head_of piece)) (value_of (body_of piece))) earlier next
    ≡ ((counted_in piece >>= put_counted earlier) >>= next)
piece_count piece earlier next =
    by (quantity_fault_of piece) ∙ sym (ap (λ (r : Result Counted TextFault). (r >>= put_counted earlier) >>= next) (counted_tested piece))
  where
    by : (fault : Option TextFault) → after fault true (counted earlier (name_of (head_of piece)) (value_of (body_of piece))) earlier next
        ≡ ((reported fault (counted_of piece) >>= put_counted earlier) >>= next)
    by (Some fault) = refl
    by None = value_count (value_of (body_of piece)) (name_of (head_of piece)) earlier next

quantities_by_pieces : IsByPieces quantities_step quantities_from
unfolding quantities_step
quantities_by_pieces = record {
  none = λ earlier. refl;
  piece = λ text earlier pieces some. rw some (piece_count (trimmed text) earlier (quantities_from pieces));
  blank = λ text earlier none. rw none refl;
}

pub quantities_by_steps : (texts : List Text) → quantities_from (filled texts) [] ≡ steps_of quantities_step [] texts
quantities_by_steps texts = by_steps quantities_step quantities_from quantities_by_pieces texts []

-- ---- a step on a text, given its trimmed form

pub bundle_step_blank : (text piece : Text) (earlier : List Resource) → piece ≡ trimmed text → ltb 0 (length piece) ≡ false → bundle_step text earlier ≡ Ok earlier
unfolding bundle_step
bundle_step_blank text piece earlier is none = rw (← is, none) refl

pub bundle_step_piece : (text piece : Text) (earlier : List Resource) → piece ≡ trimmed text → ltb 0 (length piece) ≡ true
    → bundle_step text earlier ≡ (said_in piece >>= put_said earlier)
unfolding bundle_step
bundle_step_piece text piece earlier is some = rw (← is, some) refl

pub quantities_step_blank : (text piece : Text) (earlier : List Entry) → piece ≡ trimmed text → ltb 0 (length piece) ≡ false → quantities_step text earlier ≡ Ok earlier
unfolding quantities_step
quantities_step_blank text piece earlier is none = rw (← is, none) refl

pub quantities_step_piece : (text piece : Text) (earlier : List Entry) → piece ≡ trimmed text → ltb 0 (length piece) ≡ true
    → quantities_step text earlier ≡ (counted_in piece >>= put_counted earlier)
unfolding quantities_step
quantities_step_piece text piece earlier is some = rw (← is, some) refl
