-- Removing spaces and tabs at the ends of a text.
use Rattle.std.specs.Bool.{OnTrue}
use Rattle.std.specs.List.{list_all}
use Rattle.std.proofs.Common.{zero, suc, get_or, refl, sym, ap, ◌∙◌, inl, inr, cond, arith, ◌≡◌, ◌≢◌, ℕ, ◌+◌, ◌<◌, ◌&&◌, Bool, true, false, [], ◌∷◌, ◌++◌, length, not, IsTrue, ne_eqb}
use Rattle.drf_text.proofs.Names.{Text, is_blank, IsOneLastLess, without_first_blanks, without_last_blanks, trimmed}

no_blank : (b : ℕ) → b ≢ 32 → b ≢ 9 → is_blank b ≡ false
no_blank b space tab = rw (ne_eqb b 32 space, ne_eqb b 9 tab) refl

-- ---- at the beginning

pub stays_first : (text : Text) → ((rest : Text) → text ≢ 32 ∷ rest) → ((rest : Text) → text ≢ 9 ∷ rest)
    → without_first_blanks text ≡ text
stays_first [] space tab = refl
stays_first (b ∷ bs) space tab = rw (no_blank b (λ e. space bs (ap (λ (c : ℕ). c ∷ bs) e)) (λ e. tab bs (ap (λ (c : ℕ). c ∷ bs) e))) refl

-- ---- at the end

not_all : (text : Text) → text ≢ [] → ((prefix : Text) → text ≢ prefix ++ 32 ∷ [])
    → ((prefix : Text) → text ≢ prefix ++ 9 ∷ []) → list_all is_blank text ≡ false
not_all [] some space tab = absurd (some refl)
not_all (b ∷ []) some space tab = rw (no_blank b (λ e. space [] (ap (λ (c : ℕ). c ∷ []) e)) (λ e. tab [] (ap (λ (c : ℕ). c ∷ []) e))) refl
not_all (b ∷ c ∷ cs) some space tab =
    let rest = not_all (c ∷ cs) (λ e. cc) (λ prefix e. space (b ∷ prefix) (ap (λ (t : Text). b ∷ t) e)) (λ prefix e. tab (b ∷ prefix) (ap (λ (t : Text). b ∷ t) e)) in
    and_none (is_blank b) (list_all is_blank (c ∷ cs)) rest
  where
    and_none : (x y : Bool) → y ≡ false → (x && y) ≡ false
    and_none true y e = e
    and_none false y e = refl

pub stays_last : (text : Text) → ((prefix : Text) → text ≢ prefix ++ 32 ∷ []) → ((prefix : Text) → text ≢ prefix ++ 9 ∷ [])
    → without_last_blanks text ≡ text
stays_last [] space tab = refl
stays_last (b ∷ []) space tab = let none = not_all (b ∷ []) (λ e. cc) space tab in ap (λ (t : Bool). cond t [] (b ∷ [])) none
stays_last (b ∷ c ∷ cs) space tab =
    let none = not_all (b ∷ c ∷ cs) (λ e. cc) space tab in
    let rest = stays_last (c ∷ cs) (λ prefix e. space (b ∷ prefix) (ap (λ (t : Text). b ∷ t) e)) (λ prefix e. tab (b ∷ prefix) (ap (λ (t : Text). b ∷ t) e)) in
    ap (λ (t : Bool). cond t [] (b ∷ without_last_blanks (c ∷ cs))) none ∙ ap (λ (t : Text). b ∷ t) rest

all_push : (text : Text) (b : ℕ) → IsTrue (is_blank b) → list_all is_blank (text ++ b ∷ []) ≡ list_all is_blank text
all_push [] b blank = rw blank refl
all_push (c ∷ cs) b blank = ap (λ (t : Bool). is_blank c && t) (all_push cs b blank)

push_dropped : (text : Text) (b : ℕ) → IsTrue (is_blank b)
    → without_last_blanks (text ++ b ∷ []) ≡ without_last_blanks text
push_dropped [] b blank = rw blank refl
push_dropped (c ∷ cs) b blank = λ i. cond (is_blank c && all_push cs b blank i) [] (c ∷ push_dropped cs b blank i)

pub last_more : (text rest : Text) → length rest < length text → IsOneLastLess text rest
    → without_last_blanks rest ≡ without_last_blanks text
last_more text rest shorter (inl less) = sym (ap without_last_blanks less.2 ∙ push_dropped rest less.0 less.1)
last_more text rest shorter (inr all) = ap without_last_blanks all.0

-- ---- a text whose ends are not blank

bare_first : (text : Text) (d : ℕ) → is_blank (get_or text 0 d) ≡ false → without_first_blanks text ≡ text
bare_first [] d bare = refl
bare_first (b ∷ bs) d bare = rw bare refl

not_all_at : (text : Text) (i d : ℕ) → i < length text → is_blank (get_or text i d) ≡ false → list_all is_blank text ≡ false
not_all_at [] i d in_range bare = absurd (omega arith)
not_all_at (b ∷ bs) zero d in_range bare = rw bare refl
not_all_at (b ∷ bs) (suc i) d in_range bare = by (is_blank b) (not_all_at bs i d (omega arith) bare)
  where
    by : (x : Bool) → list_all is_blank bs ≡ false → (x && list_all is_blank bs) ≡ false
    by true none = none
    by false none = refl

bare_last : (text : Text) (i d : ℕ) → i + 1 ≡ length text → is_blank (get_or text i d) ≡ false → without_last_blanks text ≡ text
bare_last [] i d last bare = refl
bare_last (b ∷ []) zero d last bare = rw bare refl
bare_last (b ∷ []) (suc i) d last bare = absurd (omega arith)
bare_last (b ∷ c ∷ cs) zero d last bare = absurd (omega arith)
bare_last (b ∷ c ∷ cs) (suc i) d last bare =
    let none : list_all is_blank (b ∷ c ∷ cs) ≡ false = not_all_at (b ∷ c ∷ cs) (suc i) d (omega arith) bare in
    ap (λ (t : Bool). cond t [] (b ∷ without_last_blanks (c ∷ cs))) none ∙ ap (λ (t : Text). b ∷ t) (bare_last (c ∷ cs) i d (omega arith) bare)

pub bare_ends : (text : Text) (b : Bool) (i d e : ℕ) → i + 1 ≡ length text → is_blank (get_or text 0 d) ≡ false → b ≡ not (is_blank (get_or text i e))
    → OnTrue b (trimmed text ≡ text)
bare_ends text true i d e last first is = ap without_last_blanks (bare_first text d first) ∙ bare_last text i e last (bare (is_blank (get_or text i e)) is)
  where
    bare : (x : Bool) → true ≡ not x → x ≡ false
    bare true same = same
    bare false same = refl
bare_ends text false i d e last first is = tt
