-- Texts that are joined by a separator, one after another.
use Rattle.std.proofs.Common.{◌≡◌, ℕ, ◌+◌, ◌<◌, cond, eqb, List, [], ◌∷◌, ◌++◌, length, map, take, get_or, refl, sym, ap, ◌∙◌, append_assoc, arith, ne_eqb}
use Rattle.std.specs.List.{join_with_byte}
use Rattle.std.proofs.lemmas.List.{take_more, map-append, length-take, length-map}

-- the separator, unless the place is 0
abbrev pub mark_before : ℕ → ℕ → List ℕ
mark_before place mark = cond (eqb place 0) [] (mark ∷ [])

join_push : (c : ℕ) (x : List ℕ) (xs : List (List ℕ)) (y : List ℕ)
    → join_with_byte c (x ∷ (xs ++ y ∷ [])) ≡ join_with_byte c (x ∷ xs) ++ c ∷ y
join_push c x [] y = refl
join_push c x (z ∷ zs) y = ap (λ t. x ++ c ∷ t) (join_push c z zs y) ∙ sym (append_assoc x (c ∷ join_with_byte c (z ∷ zs)) (c ∷ y))

mark_some : (n c : ℕ) → 0 < n → mark_before n c ≡ c ∷ []
mark_some n c some = rw (ne_eqb n 0 (λ e. omega arith)) refl

join_more : (c : ℕ) (xs : List (List ℕ)) (y : List ℕ)
    → join_with_byte c (xs ++ y ∷ []) ≡ (join_with_byte c xs ++ mark_before (length xs) c) ++ y
join_more c [] y = refl
join_more c (x ∷ xs) y =
    join_push c x xs y
    ∙ sym (append_assoc (join_with_byte c (x ∷ xs)) (c ∷ []) y)
    ∙ ap (λ (m : List ℕ). (join_with_byte c (x ∷ xs) ++ m) ++ y) (sym (mark_some (length (x ∷ xs)) c (omega arith)))

-- one more text is added to the joined texts
joined_more : (prefix : List ℕ) (c : ℕ) (xs : List (List ℕ)) (y : List ℕ) (i : ℕ) (before now : List ℕ) → length xs ≡ i
    → before ≡ prefix ++ join_with_byte c xs
    → now ≡ (before ++ mark_before i c) ++ y → now ≡ prefix ++ join_with_byte c (xs ++ y ∷ [])
joined_more prefix c xs y i before now long known is =
    is
    ∙ ap (λ (b : List ℕ). (b ++ mark_before i c) ++ y) known
    ∙ ap (λ (b : List ℕ). b ++ y) (append_assoc prefix (join_with_byte c xs) (mark_before i c))
    ∙ append_assoc prefix (join_with_byte c xs ++ mark_before i c) y
    ∙ ap (λ (n : ℕ). prefix ++ ((join_with_byte c xs ++ mark_before n c) ++ y)) (sym long)
    ∙ ap (λ (b : List ℕ). prefix ++ b) (sym (join_more c xs y))

pub mapped_more : {A : Type 0} (f : A → List ℕ) (prefix : List ℕ) (c : ℕ) (es : List A) (i : ℕ) (e : A) (before now : List ℕ)
    → i < length es → e ≡ get_or es i e
    → before ≡ prefix ++ join_with_byte c (map f (take i es)) → now ≡ (before ++ mark_before i c) ++ f e → now ≡ prefix ++ join_with_byte c (map f (take (i + 1) es))
mapped_more {A} f prefix c es i e before now within read known is =
    let more : take (i + 1) es ≡ take i es ++ e ∷ [] = take_more es i e within ∙ ap (λ (x : A). take i es ++ x ∷ []) (sym read) in
    let long : length (map f (take i es)) ≡ i = simp (length-map, length-take) (omega arith) in
    joined_more prefix c (map f (take i es)) (f e) i before now long known is
    ∙ ap (λ (ts : List (List ℕ)). prefix ++ join_with_byte c ts) (sym (ap (map f) more ∙ map-append f (take i es) (e ∷ [])))

pub map_same : (xs : List (List ℕ)) → map (λ x. x) xs ≡ xs
map_same [] = refl
map_same (x ∷ xs) = ap (λ ys. x ∷ ys) (map_same xs)
