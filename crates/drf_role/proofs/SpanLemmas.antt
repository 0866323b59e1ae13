-- The places of the parts of a text.
use Rattle.std.proofs.Common.{All, ◌≡◌, ℕ, zero, suc, ◌+◌, ◌-◌, ◌<◌, ◌≤◌, Bool, true, false, cond, eqb, List, [], ◌∷◌, ◌++◌, length, get_or, take, drop, refl, sym, ◌∙◌, ap, subst, arith, add_assoc, length-append, length-drop, append_assoc}
use Rattle.std.specs.List.{onto_first}
use Rattle.std.proofs.lemmas.List.Elements.{All-take}
use Rattle.std.proofs.lemmas.List.{append-nil, take_all, drop-drop, drop_at, take_at}
use Rattle.std.proofs.lemmas.List.Splits.{slice_split-cons_yes, slice_split-cons_no}
use Rattle.drf_role.specs.declared.joined.Span.{Span}
use Rattle.drf_role.specs.Parts.{parts_of, text_of}
use Rattle.drf_role.specs.Spans.{spans_from}
use Rattle.drf_role.proofs.PartLaws.{HasNoSlash, first_part, parts_no_slash, parts_of-text_of, text_of-parts_of}

abbrev pub span : ℕ → ℕ → Span
span start end = record { start = start; end = end }

-- the places of the parts in the rest of a text, if the reader is at i, in a part that began at `start`
abbrev pub spans_at : ℕ → ℕ → List ℕ → List Span
spans_at start i [] = span start i ∷ []
spans_at start i (b ∷ bs) = cond (eqb b 47) (span start i ∷ spans_at (i + 1) (i + 1) bs) (spans_at start (i + 1) bs)

-- the places of parts, the first of which began at `start` and continues at i
abbrev pub spans_on : ℕ → ℕ → List (List ℕ) → List Span
spans_on start i [] = []
spans_on start i (p ∷ ps) = span start (i + length p) ∷ spans_from (i + length p + 1) ps

spans_on_same : (k : ℕ) (ps : List (List ℕ)) → spans_on k k ps ≡ spans_from k ps
spans_on_same k [] = refl
spans_on_same k (p ∷ ps) = refl

on_first : (start i b : ℕ) (ps : List (List ℕ)) (p : List ℕ) (qs : List (List ℕ)) → ps ≡ p ∷ qs → spans_on start (i + 1) ps ≡ spans_on start i (onto_first b ps)
on_first start i b ps p qs e =
    let same : i + 1 + length p ≡ i + length (b ∷ p) = omega arith in
    ap (spans_on start (i + 1)) e ∙ ap (λ n. span start n ∷ spans_from (n + 1) qs) same ∙ ap (λ xs. spans_on start i (onto_first b xs)) (sym e)

pub spans_at-parts : (start i : ℕ) (bs : List ℕ) → spans_at start i bs ≡ spans_on start i (parts_of bs)
spans_at-parts start i [] =
    let same : i ≡ i + 0 = omega arith in
    ap (λ n. span start n ∷ []) same
spans_at-parts start i (b ∷ bs) =
    by (eqb b 47) refl (spans_at-parts (i + 1) (i + 1) bs) (spans_at-parts start (i + 1) bs)
  where
    by : (t : Bool) → eqb b 47 ≡ t → spans_at (i + 1) (i + 1) bs ≡ spans_on (i + 1) (i + 1) (parts_of bs) → spans_at start (i + 1) bs ≡ spans_on start (i + 1) (parts_of bs) → spans_at start i (b ∷ bs) ≡ spans_on start i (parts_of (b ∷ bs))
    by true e cut on =
        let same : i ≡ i + 0 = omega arith in
        ap (λ t. cond t (span start i ∷ spans_at (i + 1) (i + 1) bs) (spans_at start (i + 1) bs)) e
        ∙ ap (λ xs. span start i ∷ xs) (cut ∙ spans_on_same (i + 1) (parts_of bs))
        ∙ ap (λ n. span start n ∷ spans_from (n + 1) (parts_of bs)) same
        ∙ ap (spans_on start i) (sym (slice_split-cons_yes (λ c. eqb c 47) b bs e))
    by false e cut on =
        let f = first_part bs in
        ap (λ t. cond t (span start i ∷ spans_at (i + 1) (i + 1) bs) (spans_at start (i + 1) bs)) e
        ∙ on
        ∙ on_first start i b (parts_of bs) f.0 f.1 f.2
        ∙ ap (spans_on start i) (sym (slice_split-cons_no (λ c. eqb c 47) b bs e))

pub spans_at-start : (bs : List ℕ) → spans_at 0 0 bs ≡ spans_from 0 (parts_of bs)
spans_at-start bs = spans_at-parts 0 0 bs ∙ spans_on_same 0 (parts_of bs)

pub length-spans_from : (k : ℕ) (ps : List (List ℕ)) → length (spans_from k ps) ≡ length ps
length-spans_from k [] = refl
length-spans_from k (p ∷ ps) = ap suc (length-spans_from (k + length p + 1) ps)

-- the part is at this place of the text
pub record IsPlace (text part : List ℕ) (place : Span) : Type 0 where
  pub ordered : place.start ≤ place.end
  pub inside : place.end ≤ length text
  pub cut : take (place.end - place.start) (drop place.start text) ≡ part

place_here : (text p rest : List ℕ) (k : ℕ) → drop k text ≡ p ++ rest → k ≤ length text → IsPlace text p (span k (k + length p))
place_here text p rest k e within =
    let size : length text - k ≡ length p + length rest = sym (length-drop k text) ∙ ap length e ∙ length-append p rest in
    let same : k + length p - k ≡ length p = omega arith in
    record {
      ordered = omega arith;
      inside = omega arith;
      cut = ap (λ n. take n (drop k text)) same ∙ ap (take (length p)) e ∙ take_at p rest (length p) refl;
    }

pub place_at : (text : List ℕ) (k : ℕ) (ps : List (List ℕ)) (i : ℕ) (d : Span) → drop k text ≡ text_of ps → k ≤ length text → i < length ps → IsPlace text (get_or ps i []) (get_or (spans_from k ps) i d)
place_at text k [] i d e within below = absurd (omega arith)
place_at text k (p ∷ []) zero d e within below = place_here text p [] k (e ∙ sym (append-nil p)) within
place_at text k (p ∷ []) (suc i) d e within below = absurd (omega arith)
place_at text k (p ∷ q ∷ qs) zero d e within below = place_here text p (47 ∷ text_of (q ∷ qs)) k e within
place_at text k (p ∷ q ∷ qs) (suc i) d e within below =
    let size : length text - k ≡ length p + length (47 ∷ text_of (q ∷ qs)) = sym (length-drop k text) ∙ ap length e ∙ length-append p (47 ∷ text_of (q ∷ qs)) in
    let far : length (p ++ 47 ∷ []) ≡ length p + 1 = length-append p (47 ∷ []) in
    let rest : drop (k + length p + 1) text ≡ text_of (q ∷ qs) =
    ap (λ n. drop n text) (add_assoc k (length p) 1)
    ∙ sym (drop-drop (length p + 1) k text)
    ∙ ap (drop (length p + 1)) (e ∙ sym (append_assoc p (47 ∷ []) (text_of (q ∷ qs))))
    ∙ drop_at (p ++ 47 ∷ []) (text_of (q ∷ qs)) (length p + 1) far in
    place_at text (k + length p + 1) (q ∷ qs) i d rest (omega arith) (omega arith)

-- the place at an index is that of the part there
pub place_of : (text : List ℕ) (parts : List (List ℕ)) (i : ℕ) (found : Span) → text ≡ text_of parts → i < length parts → found ≡ get_or (spans_from 0 parts) i found → IsPlace text (get_or parts i []) found
place_of text parts i found whole below read =
    subst (IsPlace text (get_or parts i [])) (sym read) (place_at text 0 parts i found whole (omega arith) below)

take_past : (p : List ℕ) (c : ℕ) (t : List ℕ) (m n : ℕ) → n ≡ length p + m + 1 → take n (p ++ c ∷ t) ≡ p ++ c ∷ take m t
take_past [] c t m zero e = absurd (omega arith)
take_past [] c t m (suc n) e = let same : n ≡ m = omega arith in ap (λ k. c ∷ take k t) same
take_past (x ∷ p) c t m zero e = absurd (omega arith)
take_past (x ∷ p) c t m (suc n) e = ap (λ l. x ∷ l) (take_past p c t m n (omega arith))

-- the text up to the end of a part consists of the parts so far
text_to : (k : ℕ) (ps : List (List ℕ)) (n : ℕ) (d : Span) → n < length ps → (k ≤ (get_or (spans_from k ps) n d).end) × (take ((get_or (spans_from k ps) n d).end - k) (text_of ps) ≡ text_of (take (suc n) ps))
text_to k [] n d h = absurd (omega arith)
text_to k (p ∷ []) zero d h = (omega arith, take_all (k + length p - k) p (omega arith))
text_to k (p ∷ []) (suc n) d h = absurd (omega arith)
text_to k (p ∷ q ∷ qs) zero d h =
    let same : k + length p - k ≡ length p = omega arith in
    (omega arith, ap (λ m. take m (p ++ 47 ∷ text_of (q ∷ qs))) same ∙ take_at p (47 ∷ text_of (q ∷ qs)) (length p) refl)
text_to k (p ∷ q ∷ qs) (suc n) d h =
    let start = k + length p + 1 in
    let end = (get_or (spans_from start (q ∷ qs)) n d).end in
    let rest = text_to start (q ∷ qs) n d (omega arith) in
    let far : start ≤ end = rest.0 in
    (omega arith, take_past p 47 (text_of (q ∷ qs)) (end - start) (end - k) (omega arith) ∙ ap (λ t. p ++ 47 ∷ t) rest.1)

-- the parts of the text up to the end of a part
parts_of-prefix : (text : List ℕ) (n : ℕ) (d : Span) → n < length (parts_of text) → parts_of (take (get_or (spans_from 0 (parts_of text)) n d).end text) ≡ take (suc n) (parts_of text)
parts_of-prefix text n d h =
    let end = (get_or (spans_from 0 (parts_of text)) n d).end in
    let f = first_part text in
    let same : end ≡ end - 0 = omega arith in
    let to_end = ap (λ t. take end t) (sym (text_of-parts_of text)) ∙ ap (λ m. take m (text_of (parts_of text))) same ∙ (text_to 0 (parts_of text) n d h).1 in
    let slash_free = subst (All HasNoSlash) (ap (take (suc n)) f.2) (All-take HasNoSlash (suc n) (parts_of text) (parts_no_slash text)) in
    ap parts_of to_end
    ∙ ap (λ ps. parts_of (text_of (take (suc n) ps))) f.2
    ∙ parts_of-text_of f.0 (take n f.1) slash_free
    ∙ ap (take (suc n)) (sym f.2)

-- the same for a place that was found
pub parts_of-prefix_at : (text : List ℕ) (parts : List (List ℕ)) (n : ℕ) (found : Span) → parts_of text ≡ parts → n < length parts → found ≡ get_or (spans_from 0 parts) n found → parts_of (take found.end text) ≡ take (suc n) parts
parts_of-prefix_at text parts n found cut below read =
    ap (λ (s : Span). parts_of (take s.end text)) (read ∙ ap (λ ps. get_or (spans_from 0 ps) n found) (sym cut))
    ∙ parts_of-prefix text n found (subst (λ ps. n < length ps) (sym cut) below)
    ∙ ap (take (suc n)) cut
