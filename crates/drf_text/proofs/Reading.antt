-- Reading texts one after another, each added to the result of those before it.
use Rattle.std.proofs.Common.{◌≡◌, ℕ, ◌+◌, ◌<◌, ◌≤◌, Bool, true, false, ltb, List, [], ◌∷◌, length, drop, get_or, Result, Ok, Err, refl, sym, ap, subst, ◌∙◌, arith, IsOk, lt-ltb}
use Rattle.std.proofs.lemmas.List.{at_drop_more, at_drop_all}
use Rattle.drf_text.proofs.Names.{Text, trimmed, TextFault}
use Rattle.drf_text.specs.Steps.{◌>>=◌, cut_in, named_in, IsFirstNamed}
use Rattle.drf_text.proofs.Together.{steps_of, filled}

-- ---- the first piece

named_some : (piece : Text) → IsOk (named_in piece) → ltb 0 (length piece) ≡ true
unfolding named_in cut_in
named_some [] is = is
named_some (b ∷ bs) is = lt-ltb 0 (length (b ∷ bs)) (omega arith)

first_named : (text : Text) (texts : List Text) → IsOk (named_in (trimmed text)) → IsFirstNamed (filled (text ∷ texts))
first_named text texts is = rw (named_some (trimmed text) is) is

-- if a step succeeds on a text that is not blank, the text has a valid name
abbrev pub StepsAreNamed : {T : Type 0} → (Text → T → Result T TextFault) → Type 0
StepsAreNamed {T} step = (text : Text) (earlier now : T) → ltb 0 (length (trimmed text)) ≡ true → step text earlier ≡ Ok now → IsOk (named_in (trimmed text))

-- ---- reading

module _ {T : Type 0} (step : Text → T → Result T TextFault) (empty : T) (texts : List Text) where
  -- the remaining texts, added to the result so far, give the result of all texts; if the remaining texts begin with a
  -- name, so do all texts
  pub record IsReadTo (n : ℕ) (now : T) : Type 0 where
    pub meaning : steps_of step now (drop n texts) ≡ steps_of step empty texts
    pub first : IsFirstNamed (filled (drop n texts)) → IsFirstNamed (filled texts)

  pub read_none : IsReadTo 0 empty
  read_none = record { meaning = refl; first = λ is. is }

  module _ (n : ℕ) (now : T) (text : Text) (within : n < length texts) (here : text ≡ get_or texts n text) (read : IsReadTo n now) where
    left : drop n texts ≡ text ∷ drop (n + 1) texts
    left = at_drop_more (λ (xs : List Text). xs) texts n text within ∙ ap (λ (x : Text). x ∷ drop (n + 1) texts) (sym here)

    next : (r : Result T TextFault) → step text now ≡ r → (r >>= λ after. steps_of step after (drop (n + 1) texts)) ≡ steps_of step empty texts
    next r is =
        ap (λ (found : Result T TextFault). found >>= λ after. steps_of step after (drop (n + 1) texts)) (sym is)
        ∙ ap (steps_of step now) (sym left) ∙ read.meaning

    pub read_more : (after : T) → StepsAreNamed step → step text now ≡ Ok after → IsReadTo (n + 1) after
    read_more after named is = record { meaning = next (Ok after) is; first = λ more. read.first (subst (λ (xs : List Text). IsFirstNamed (filled xs)) (sym left) (by (ltb 0 (length (trimmed text))) refl more)) }
      where
        by : (some : Bool) → ltb 0 (length (trimmed text)) ≡ some → IsFirstNamed (filled (drop (n + 1) texts)) → IsFirstNamed (filled (text ∷ drop (n + 1) texts))
        by true e more = first_named text (drop (n + 1) texts) (named text now after e is)
        by false e more = rw e more

    pub read_fault : (fault : TextFault) → step text now ≡ Err fault → steps_of step empty texts ≡ Err fault
    read_fault fault is = sym (next (Err fault) is)

    pub read_first : IsOk (named_in (trimmed text)) → IsFirstNamed (filled texts)
    read_first is = read.first (subst (λ (xs : List Text). IsFirstNamed (filled xs)) (sym left) (first_named text (drop (n + 1) texts) is))

  module _ (n : ℕ) (now : T) (over : length texts ≤ n) (read : IsReadTo n now) where
    pub read_all : steps_of step empty texts ≡ Ok now
    read_all = sym read.meaning ∙ at_drop_all (steps_of step now) texts n over

    pub first_of_all : IsFirstNamed (filled texts)
    first_of_all = read.first (subst IsFirstNamed (sym (at_drop_all filled texts n over)) tt)
