-- Prefixes of lists.
use Rattle.std.proofs.Common.{◌≡◌, ◌≤◌, List, [], ◌∷◌, ◌++◌, length, refl, ap, sym, ◌∙◌, append_assoc, arith}
use mathlib.Core.List.{IsPrefix}

-- if two lists can be continued to the same list, the shorter is a prefix of the longer
shorter-begins : {A : Type 0} (xs ys r s : List A) → xs ++ r ≡ ys ++ s → length xs ≤ length ys → IsPrefix xs ys
shorter-begins [] ys r s same few = (ys, refl)
shorter-begins (x ∷ xs) [] r s same few = absurd (omega arith)
shorter-begins (x ∷ xs) (y ∷ ys) r s same few =
    let head : x ≡ y = cc same in
    let tail : xs ++ r ≡ ys ++ s = cc same in
    let rest : IsPrefix xs ys = shorter-begins xs ys r s tail (omega (arith, few)) in
    (rest.0, cc (head, rest.1))

pub begins-trans : {A : Type 0} (xs ys zs : List A) → IsPrefix xs ys → IsPrefix ys zs → IsPrefix xs zs
begins-trans xs ys zs first second =
    (first.0 ++ second.0, sym (append_assoc xs first.0 second.0) ∙ (ap (λ l. l ++ second.0) first.1 ∙ second.1))

pub prefixes-compare : {A : Type 0} (xs ys whole : List A) → IsPrefix xs whole → IsPrefix ys whole → length xs ≤ length ys → IsPrefix xs ys
prefixes-compare xs ys whole begins ends few = shorter-begins xs ys begins.0 ends.0 (begins.1 ∙ sym ends.1) few

-- a prefix that is not shorter is the whole list
pub prefix-all : {A : Type 0} (xs whole : List A) → IsPrefix xs whole → length whole ≤ length xs → xs ≡ whole
prefix-all [] [] begins few = refl
prefix-all [] (y ∷ ys) begins few = absurd (omega arith)
prefix-all (x ∷ xs) [] begins few = absurd (cc (begins.1))
prefix-all (x ∷ xs) (y ∷ ys) begins few =
    let rest : xs ≡ ys = prefix-all xs ys (begins.0, cc (begins.1)) (omega (arith, few)) in cc (begins.1, rest)
