-- Cutting a text into parts, and joining parts to a text.
use Rattle.std.proofs.Common.{subst, ◌↔◌, IsTrue, inl, inr, ⊎_elim, append_assoc, Decides, ◌≡◌, ℕ, ◌≤◌, Bool, true, false, eqb, List, [], ◌∷◌, ◌++◌, length, refl, sym, ◌∙◌, ap, arith}
use Rattle.std.specs.List.{onto_first, All}
use Rattle.std.proofs.lemmas.List.Splits.{slice_split-cons_yes, slice_split-cons_no, slice_split_none, slice_split_at, length-slice_split, join_with_byte-slice_split}
use Rattle.std.proofs.lemmas.List.Elements.{All-head, All-tail, All-cons, All-nil}
use Rattle.std.specs.Cmp.Lexicographic.{pointwise, bytes_decides, pointwise_decides}
use Rattle.std.proofs.lemmas.Bool.Decides.{same_from_decides}
use Rattle.std.proofs.lemmas.List.{append-nil}
use Rattle.drf_role.specs.Parts.{parts_of, text_of, BeginsWith, GoesOn}

-- the list of parts is not empty
abbrev pub HasFirst : List (List ℕ) → Type 0
HasFirst parts = (p : List ℕ) × (ps : List (List ℕ)) × (parts ≡ p ∷ ps)

pub first_part : (bs : List ℕ) → HasFirst (parts_of bs)
first_part [] = ([], [], refl)
first_part (b ∷ bs) = by (eqb b 47) refl (first_part bs)
  where
    by : (t : Bool) → eqb b 47 ≡ t → HasFirst (parts_of bs) → HasFirst (parts_of (b ∷ bs))
    by true e f = ([], parts_of bs, slice_split-cons_yes (λ c. eqb c 47) b bs e)
    by false e f = (b ∷ f.0, f.1, slice_split-cons_no (λ c. eqb c 47) b bs e ∙ ap (onto_first b) f.2)

pub text_of-parts_of : (bs : List ℕ) → text_of (parts_of bs) ≡ bs
text_of-parts_of bs = join_with_byte-slice_split 47 bs

abbrev pub HasNoSlash : List ℕ → Type 0
HasNoSlash part = All (λ b. eqb b 47 ≡ false) part

-- parts without `/` are the parts of their text
pub parts_of-text_of : (p : List ℕ) (ps : List (List ℕ)) → All HasNoSlash (p ∷ ps) → parts_of (text_of (p ∷ ps)) ≡ p ∷ ps
parts_of-text_of p [] h = slice_split_none (λ b. eqb b 47) p (All-head HasNoSlash p [] h)
parts_of-text_of p (q ∷ qs) h =
    slice_split_at (λ b. eqb b 47) p 47 (text_of (q ∷ qs)) (All-head HasNoSlash p (q ∷ qs) h) refl
    ∙ ap (λ ps. p ∷ ps) (parts_of-text_of q qs (All-tail HasNoSlash p (q ∷ qs) h))

pub length-parts_of : (bs : List ℕ) → 1 ≤ length (parts_of bs)
length-parts_of bs = omega (arith, length-slice_split (λ b. eqb b 47) bs)

onto_first-append : (b : ℕ) (ps qs : List (List ℕ)) → HasFirst ps → onto_first b (ps ++ qs) ≡ onto_first b ps ++ qs
onto_first-append b ps qs f =
    ap (λ xs. onto_first b (xs ++ qs)) f.2 ∙ sym (ap (λ xs. onto_first b xs ++ qs) f.2)

pub parts_of-append : (xs ys : List ℕ) → parts_of (xs ++ 47 ∷ ys) ≡ parts_of xs ++ parts_of ys
parts_of-append [] ys = refl
parts_of-append (b ∷ xs) ys = by (eqb b 47) refl (parts_of-append xs ys)
  where
    by : (t : Bool) → eqb b 47 ≡ t → parts_of (xs ++ 47 ∷ ys) ≡ parts_of xs ++ parts_of ys → parts_of ((b ∷ xs) ++ 47 ∷ ys) ≡ parts_of (b ∷ xs) ++ parts_of ys
    by true e h =
        slice_split-cons_yes (λ c. eqb c 47) b (xs ++ 47 ∷ ys) e
        ∙ ap (λ ps. [] ∷ ps) h
        ∙ ap (λ ps. ps ++ parts_of ys) (sym (slice_split-cons_yes (λ c. eqb c 47) b xs e))
    by false e h =
        slice_split-cons_no (λ c. eqb c 47) b (xs ++ 47 ∷ ys) e
        ∙ ap (onto_first b) h
        ∙ onto_first-append b (parts_of xs) (parts_of ys) (first_part xs)
        ∙ ap (λ ps. ps ++ parts_of ys) (sym (slice_split-cons_no (λ c. eqb c 47) b xs e))

pub text_of-append : (p : List ℕ) (ps : List (List ℕ)) (q : List ℕ) (qs : List (List ℕ)) → text_of ((p ∷ ps) ++ (q ∷ qs)) ≡ text_of (p ∷ ps) ++ 47 ∷ text_of (q ∷ qs)
text_of-append p [] q qs = refl
text_of-append p (r ∷ rs) q qs =
    ap (λ t. p ++ 47 ∷ t) (text_of-append r rs q qs)
    ∙ sym (append_assoc p (47 ∷ text_of (r ∷ rs)) (47 ∷ text_of (q ∷ qs)))

pub begins_from_text : (text prefix : List ℕ) → GoesOn text prefix → BeginsWith (parts_of text) (parts_of prefix)
begins_from_text text prefix h =
    ⊎_elim
    (λ e. ([], append-nil (parts_of prefix) ∙ sym (ap parts_of e)))
    (λ m. (parts_of m.0, sym (ap parts_of m.1 ∙ parts_of-append prefix m.0)))
    h

pub text_from_begins : (text prefix : List ℕ) → BeginsWith (parts_of text) (parts_of prefix) → GoesOn text prefix
text_from_begins text prefix h = by (parts_of prefix) h.0 (first_part prefix) (text_of-parts_of prefix) (sym (text_of-parts_of text) ∙ ap text_of (sym h.1))
  where
    by : (fs rest : List (List ℕ)) → HasFirst fs → text_of fs ≡ prefix → text ≡ text_of (fs ++ rest) → GoesOn text prefix
    by fs [] f e t = inl (t ∙ ap text_of (append-nil fs) ∙ e)
    by fs (q ∷ qs) f e t =
        inr (text_of (q ∷ qs), t ∙ ap (λ xs. text_of (xs ++ q ∷ qs)) f.2 ∙ text_of-append f.0 f.1 q qs ∙ ap (λ x. x ++ 47 ∷ text_of (q ∷ qs)) (ap text_of (sym f.2) ∙ e))

-- `==` of lists of parts decides `≡`
pub paths_decided : (ps qs : List (List ℕ)) → Decides (pointwise (pointwise eqb) ps qs) (ps ≡ qs)
paths_decided = pointwise_decides bytes_decides

-- two texts are equal exactly if their parts are
pub same_parts : (t u : List ℕ) → pointwise eqb t u ≡ pointwise (pointwise eqb) (parts_of t) (parts_of u)
same_parts t u =
    let by_parts = paths_decided (parts_of t) (parts_of u) in
    let parts_decide : Decides (pointwise (pointwise eqb) (parts_of t) (parts_of u)) (t ≡ u) =
    (λ e. sym (text_of-parts_of t) ∙ ap text_of (by_parts.0 e) ∙ text_of-parts_of u, λ e. by_parts.1 (ap parts_of e)) in
    same_from_decides (pointwise eqb t u) (pointwise (pointwise eqb) (parts_of t) (parts_of u)) (bytes_decides t u) parts_decide

pub begins_decided : (r : Bool) (text prefix : List ℕ) → IsTrue r ↔ GoesOn text prefix → IsTrue r ↔ BeginsWith (parts_of text) (parts_of prefix)
begins_decided r text prefix h =
    (λ e. begins_from_text text prefix (h.0 e), λ b. h.1 (text_from_begins text prefix b))

pub parts_no_slash : (bs : List ℕ) → All HasNoSlash (parts_of bs)
parts_no_slash [] = All-cons HasNoSlash [] [] (All-nil (λ b. eqb b 47 ≡ false)) (All-nil HasNoSlash)
parts_no_slash (b ∷ bs) = by (eqb b 47) refl (first_part bs) (parts_no_slash bs)
  where
    by : (t : Bool) → eqb b 47 ≡ t → HasFirst (parts_of bs) → All HasNoSlash (parts_of bs) → All HasNoSlash (parts_of (b ∷ bs))
    by true e f h =
        subst (All HasNoSlash) (sym (slice_split-cons_yes (λ c. eqb c 47) b bs e))
        (All-cons HasNoSlash [] (parts_of bs) (All-nil (λ c. eqb c 47 ≡ false)) h)
    by false e f h =
        let first = subst (All HasNoSlash) f.2 h in
        subst (All HasNoSlash) (sym (slice_split-cons_no (λ c. eqb c 47) b bs e ∙ ap (onto_first b) f.2))
        (All-cons HasNoSlash (b ∷ f.0) f.1 (All-cons (λ c. eqb c 47 ≡ false) b f.0 e (All-head HasNoSlash f.0 f.1 first)) (All-tail HasNoSlash f.0 f.1 first))
