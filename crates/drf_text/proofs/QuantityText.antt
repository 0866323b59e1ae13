-- Reading the written form of quantities gives those quantities.
use Rattle.std.proofs.Common.{◌≡◌, ◌+◌, ◌^◌, ◌<◌, true, false, cond, eqb, List, [], ◌∷◌, ◌++◌, map, All, Ok, Err, None, refl, sym, ap, ◌∙◌, append_assoc, append-nil, length-append, arith, IsTrue, nat_lt}
use Rattle.std.proofs.lemmas.Bool.{and_parts, lt-ltb}
use Rattle.std.proofs.lemmas.List.Elements.{All-head, All-tail, All-append, All-cons, All-map, All-weaker}
use Rattle.std.proofs.lemmas.List.Folds.{list_all-append}
use Rattle.drf_text.proofs.Names.{Text, text_below, is_blank, HasNone, label_has_none, is_label_byte, is_reserved, head_of, body_of, name_of, value_of, quantity_fault_of, IsEntry, QuantitiesAreRead, amount_text, quantity_text, TooLarge}
use Rattle.drf_role.proofs.TextLaws.{below_other, cmp_above}
use Rattle.drf_bundle.specs.Quantities.{amount_of, is_in_order, with_amount}
use Rattle.drf_bundle.proofs.theorems.QuantitiesLaws.{stands_first}
use Rattle.drf_bundle.specs.declared.quantities.Entry.{Entry}
use Rattle.drf_bundle.specs.declared.value.Value.TheVariants.{Scalar}
use Rattle.drf_text.specs.Meaning.{after, counted, quantities_from}
use Rattle.drf_text.proofs.CutLemmas.{not_blank, not_between, is_between, IsPart, no_blanks, pieces_found}
use Rattle.drf_text.proofs.PieceLemmas.{label_without, head_found, body_found, name_alone, not_reserved, label_head, right_piece}
use Rattle.drf_text.proofs.ValueText.{IsTextOf, scalar_text}

-- ---- one entry

module _ (e : Entry) (is : IsEntry e) where
  amount : IsTextOf (Scalar e.amount) (amount_text e.amount)
  amount = scalar_text e.amount is.amount

  amount_no_blank : HasNone is_blank (amount_text e.amount)
  amount_no_blank = no_blanks 59 (amount_text e.amount) amount.whole

  no_colon : HasNone (λ b. eqb b 58) e.label
  no_colon = label_without 58 e.label is.label refl

  no_blank : HasNone is_blank e.label
  no_blank = label_has_none is_blank e.label is.label (not_blank is_label_byte refl refl)

  entry_fault : quantity_fault_of (quantity_text e) ≡ None
  entry_fault =
      right_piece is_reserved e.label (amount_text e.amount) no_colon no_blank amount_no_blank
      (label_head is_reserved e.label is.label (not_reserved e.label is.label)) amount.body

  entry_name : name_of (head_of (quantity_text e)) ≡ e.label
  entry_name = ap name_of (head_found e.label (amount_text e.amount) no_colon no_blank) ∙ name_alone e.label is.label

  entry_value : value_of (body_of (quantity_text e)) ≡ Scalar e.amount
  entry_value =
      ap value_of (body_found e.label (amount_text e.amount) no_colon amount_no_blank) ∙ amount.says

  entry_piece : IsPart 59 (quantity_text e)
  entry_piece = record {
    some = omega (arith, length-append e.label (58 ∷ amount_text e.amount));
    whole =
        All-append (λ b. is_between 59 b ≡ false) e.label (58 ∷ amount_text e.amount)
        (label_has_none (is_between 59) e.label is.label (not_between is_label_byte 59 refl refl refl))
        (All-cons (λ b. is_between 59 b ≡ false) 58 (amount_text e.amount) refl amount.whole);
  }

-- ---- entries that are combined

-- an entry that comes after all others is added after them
record IsLast (earlier : List Entry) (e : Entry) : Type 0 where
  pub none_yet : amount_of earlier e.label ≡ 0
  pub behind : with_amount earlier e.label e.amount ≡ earlier ++ e ∷ []

last_of : (earlier : List Entry) (e : Entry) (later : List Entry) → IsTrue (is_in_order (earlier ++ e ∷ later)) → IsLast earlier e
last_of [] e later ordered = record { none_yet = refl; behind = refl }
last_of (f ∷ fs) e later ordered =
    let parts = and_parts (stands_first f.label (fs ++ e ∷ later)) (is_in_order (fs ++ e ∷ later)) ordered in
    let rest = last_of fs e later parts.1 in
    let behind_fs = and_parts (stands_first f.label fs) (stands_first f.label (e ∷ later)) (sym (list_all-append (λ g. text_below f.label g.label) fs (e ∷ later)) ∙ parts.0) in
    let below = (and_parts (text_below f.label e.label) (stands_first f.label later) behind_fs.1).0 in
    record {
      none_yet = rw (below_other f.label e.label below) rest.none_yet;
      behind = rw (cmp_above f.label e.label below) (ap (λ (es : List Entry). f ∷ es) rest.behind);
    }

counted_last : (earlier : List Entry) (e : Entry) (later : List Entry) → IsTrue (is_in_order (earlier ++ e ∷ later)) → e.amount < 2 ^ 64
    → counted earlier e.label (Scalar e.amount) ≡ Ok (earlier ++ e ∷ [])
counted_last earlier e later ordered small =
    let last = last_of earlier e later ordered in
    let sum : amount_of earlier e.label + e.amount ≡ e.amount = omega (arith, last.none_yet) in
    (λ i. cond (nat_lt (sum i) (2 ^ 64)) (Ok (with_amount earlier e.label (sum i))) (Err TooLarge))
    ∙ rw (lt-ltb e.amount (2 ^ 64) small) (ap Ok last.behind)

entries_from : (later earlier : List Entry) → IsTrue (is_in_order (earlier ++ later)) → All IsEntry later
    → quantities_from (map quantity_text later) earlier ≡ Ok (earlier ++ later)
entries_from [] earlier ordered are = ap Ok (sym (append-nil earlier))
entries_from (e ∷ es) earlier ordered are =
    let is = All-head IsEntry e es are in
    let step : counted earlier (name_of (head_of (quantity_text e))) (value_of (body_of (quantity_text e))) ≡ Ok (earlier ++ e ∷ []) =
    (λ i. counted earlier (entry_name e is i) (entry_value e is i)) ∙ counted_last earlier e es ordered is.amount in
    let whole : (earlier ++ e ∷ []) ++ es ≡ earlier ++ e ∷ es = append_assoc earlier (e ∷ []) es in
    (λ i. after (entry_fault e is i) true (step i) earlier (quantities_from (map quantity_text es)))
    ∙ entries_from es (earlier ++ e ∷ []) (ap is_in_order whole ∙ ordered) (All-tail IsEntry e es are)
    ∙ ap Ok whole

pub quantities_read : QuantitiesAreRead
quantities_read entries ordered are =
    let each = All-map (IsPart 59) quantity_text entries (All-weaker IsEntry (λ e. IsPart 59 (quantity_text e)) entry_piece entries are) in
    ap (λ (pieces : List Text). quantities_from pieces []) (pieces_found (map quantity_text entries) each)
    ∙ entries_from entries [] ordered are
