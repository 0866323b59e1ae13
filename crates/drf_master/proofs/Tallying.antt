-- Lemmas about a tally that examines one more receipt.
use Rattle.std.proofs.Common.{◌≡◌, ℕ, zero, suc, ◌+◌, ◌<◌, ◌≤◌, ◌==◌, ◌⊎◌, ◌↔◌, IsTrue, inl, inr, Bool, true, false, cond, nat_le, List, [], ◌∷◌, ◌++◌, length, Option, Some, None, MatchBool, slice_get, slice_set, refl, ap, sym, ◌∙◌, subst, arith}
use Rattle.std.proofs.lemmas.Bool.Decides.{nat_tests}
use Rattle.std.proofs.lemmas.Option.{slice_get_within}
use Rattle.drf_board.specs.declared.entry.Entry.{Entry}
use Rattle.drf_master.specs.Matching.{IsJournals, AreJournals, HasBroken, AreAllJournals, HasAnyBroken, IsWrong, IsLeast, times, times_in}
use Rattle.drf_master.specs.Tallies.{IsTally, IsLeastIfAny, marked, least_after, lesser}
use Rattle.drf_master.specs.declared.pass.Receipt.{Receipt}

abbrev either_way : {A B C : Type 0} → A ⊎ B → (A → C) → (B → C) → C
either_way (inl a) f g = f a
either_way (inr b) f g = g b

pub differ : (m n : ℕ) → (m == n) ≡ false → ¬ (m ≡ n)
differ m n is same = let yes : (m == n) ≡ true = grind (arith, nat_tests) in absurd (cc (sym yes ∙ is))

-- ---- the number of receipts for a place

pub times-last : (place : ℕ) (lists : List (List Receipt)) (rs : List Receipt) → times place (lists ++ rs ∷ []) ≡ times place lists + times_in place rs
times-last place [] rs = omega arith
times-last place (l ∷ lists) rs = let rest = times-last place lists rs in omega (arith, rest)

times_in-push : (place : ℕ) (rs : List Receipt) (r : Receipt) → times_in place (rs ++ r ∷ []) ≡ times_in place rs + cond (r.place == place) 1 0
times_in-push place [] r = omega arith
times_in-push place (x ∷ rs) r = let rest = times_in-push place rs r in omega (arith, rest)

times-push : (place : ℕ) (lists : List (List Receipt)) (rs : List Receipt) (r : Receipt)
    → times place (lists ++ (rs ++ r ∷ []) ∷ []) ≡ times place (lists ++ rs ∷ []) + cond (r.place == place) 1 0
times-push place lists rs r = omega (arith, times-last place lists (rs ++ r ∷ []), times-last place lists rs, times_in-push place rs r)

times-more : (place : ℕ) (lists : List (List Receipt)) (rs : List Receipt) (r : Receipt) → (r.place == place) ≡ true
    → times place (lists ++ (rs ++ r ∷ []) ∷ []) ≡ times place (lists ++ rs ∷ []) + 1
times-more place lists rs r is = let one : ◌≡◌ {A = ℕ} (cond (r.place == place) 1 0) 1 = rw is refl in omega (arith, times-push place lists rs r, one)

times-same : (place : ℕ) (lists : List (List Receipt)) (rs : List Receipt) (r : Receipt) → (r.place == place) ≡ false
    → times place (lists ++ (rs ++ r ∷ []) ∷ []) ≡ times place (lists ++ rs ∷ [])
times-same place lists rs r is = let none : ◌≡◌ {A = ℕ} (cond (r.place == place) 1 0) 0 = rw is refl in omega (arith, times-push place lists rs r, none)

-- ---- receipts that do not equal the journal's entries

broken-old : (journal : List Entry) (place least : ℕ) (rs : List Receipt) (r : Receipt) → HasBroken journal place least rs
    → HasBroken journal place least (rs ++ r ∷ [])
broken-old journal place least [] r broken = absurd broken
broken-old journal place least (x ∷ rs) r (inl here) = inl here
broken-old journal place least (x ∷ rs) r (inr later) = inr (broken-old journal place (x.place + 1) rs r later)

broken-new : (journal : List Entry) (place least : ℕ) (rs : List Receipt) (r : Receipt) → r.place ≡ place
    → ¬ IsJournals journal (least_after least rs) r → HasBroken journal place least (rs ++ r ∷ [])
broken-new journal place least [] r is not_its = inl (is, not_its)
broken-new journal place least (x ∷ rs) r is not_its = inr (broken-new journal place (x.place + 1) rs r is not_its)

broken-split : (journal : List Entry) (place least : ℕ) (rs : List Receipt) (r : Receipt) → HasBroken journal place least (rs ++ r ∷ [])
    → HasBroken journal place least rs ⊎ ((r.place ≡ place) × ¬ IsJournals journal (least_after least rs) r)
broken-split journal place least [] r (inl here) = inr here
broken-split journal place least [] r (inr later) = absurd later
broken-split journal place least (x ∷ rs) r (inl here) = inl (inl here)
broken-split journal place least (x ∷ rs) r (inr later) =
    either_way (broken-split journal place (x.place + 1) rs r later) (λ old. inl (inr old)) (λ new. inr new)

any-old : (journal : List Entry) (place : ℕ) (lists : List (List Receipt)) (rs : List Receipt) → HasAnyBroken journal place lists
    → HasAnyBroken journal place (lists ++ rs ∷ [])
any-old journal place [] rs broken = absurd broken
any-old journal place (l ∷ lists) rs (inl here) = inl here
any-old journal place (l ∷ lists) rs (inr later) = inr (any-old journal place lists rs later)

any-new : (journal : List Entry) (place : ℕ) (lists : List (List Receipt)) (rs : List Receipt) → HasBroken journal place 0 rs
    → HasAnyBroken journal place (lists ++ rs ∷ [])
any-new journal place [] rs broken = inl broken
any-new journal place (l ∷ lists) rs broken = inr (any-new journal place lists rs broken)

any-split : (journal : List Entry) (place : ℕ) (lists : List (List Receipt)) (rs : List Receipt) → HasAnyBroken journal place (lists ++ rs ∷ [])
    → HasAnyBroken journal place lists ⊎ HasBroken journal place 0 rs
any-split journal place [] rs (inl here) = inr here
any-split journal place [] rs (inr later) = absurd later
any-split journal place (l ∷ lists) rs (inl here) = inl (inl here)
any-split journal place (l ∷ lists) rs (inr later) = either_way (any-split journal place lists rs later) (λ old. inl (inr old)) (λ new. inr new)

journals-push : (journal : List Entry) (least : ℕ) (rs : List Receipt) (r : Receipt) → AreJournals journal least rs
    → IsJournals journal (least_after least rs) r → AreJournals journal least (rs ++ r ∷ [])
journals-push journal least [] r are is = (is, tt)
journals-push journal least (x ∷ rs) r are is = (are.0, journals-push journal (x.place + 1) rs r are.1 is)

all-push : (journal : List Entry) (lists : List (List Receipt)) (rs : List Receipt) (r : Receipt) → AreAllJournals journal (lists ++ rs ∷ [])
    → IsJournals journal (least_after 0 rs) r → AreAllJournals journal (lists ++ (rs ++ r ∷ []) ∷ [])
all-push journal [] rs r are is = (journals-push journal 0 rs r are.0 is, tt)
all-push journal (l ∷ lists) rs r are is = (are.0, all-push journal lists rs r are.1 is)

all-open : (journal : List Entry) (lists : List (List Receipt)) → AreAllJournals journal lists → AreAllJournals journal (lists ++ [] ∷ [])
all-open journal [] are = (tt, tt)
all-open journal (l ∷ lists) are = (are.0, all-open journal lists are.1)

-- ---- places at which something is wrong

wrong-old : (journal : List Entry) (lists : List (List Receipt)) (rs : List Receipt) (r : Receipt) (place : ℕ)
    → IsWrong journal (lists ++ rs ∷ []) place → IsWrong journal (lists ++ (rs ++ r ∷ []) ∷ []) place
wrong-old journal lists rs r place (inl broken) =
    either_way (any-split journal place lists rs broken) (λ old. inl (any-old journal place lists (rs ++ r ∷ []) old))
    (λ last. inl (any-new journal place lists (rs ++ r ∷ []) (broken-old journal place 0 rs r last)))
wrong-old journal lists rs r place (inr twice) = inr (omega (arith, times-push place lists rs r, twice))

-- a newly wrong place is that of the receipt, which does not equal the journal's entry or is not the first for its place
abbrev IsNewlyWrong : List Entry → List (List Receipt) → List Receipt → Receipt → ℕ → Type 0
IsNewlyWrong journal lists rs r place =
    (r.place ≡ place) × ((¬ IsJournals journal (least_after 0 rs) r) ⊎ (0 < times place (lists ++ rs ∷ [])))

wrong-twice : (journal : List Entry) (lists : List (List Receipt)) (rs : List Receipt) (r : Receipt) (place : ℕ) (b : Bool) → (r.place == place) ≡ b
    → 2 ≤ times place (lists ++ (rs ++ r ∷ []) ∷ []) → IsWrong journal (lists ++ rs ∷ []) place ⊎ IsNewlyWrong journal lists rs r place
wrong-twice journal lists rs r place true is twice =
    let same : r.place ≡ place = grind (arith, nat_tests) in
    inr (same, inr (omega (arith, times-more place lists rs r is, twice)))
wrong-twice journal lists rs r place false is twice = inl (inr (omega (arith, times-same place lists rs r is, twice)))

wrong-split : (journal : List Entry) (lists : List (List Receipt)) (rs : List Receipt) (r : Receipt) (place : ℕ)
    → IsWrong journal (lists ++ (rs ++ r ∷ []) ∷ []) place → IsWrong journal (lists ++ rs ∷ []) place ⊎ IsNewlyWrong journal lists rs r place
wrong-split journal lists rs r place (inl broken) =
    either_way (any-split journal place lists (rs ++ r ∷ []) broken) (λ old. inl (inl (any-old journal place lists rs old)))
    (λ last. either_way (broken-split journal place 0 rs r last) (λ old. inl (inl (any-new journal place lists rs old))) (λ new. inr (new.0, inl new.1)))
wrong-split journal lists rs r place (inr twice) = wrong-twice journal lists rs r place (r.place == place) refl twice

-- ---- the least of them

kept-least : (P Q : ℕ → Type 0) (w : Option ℕ) → ((n : ℕ) → P n → Q n) → ((n : ℕ) → Q n → P n) → IsLeastIfAny P w → IsLeastIfAny Q w
kept-least P Q None more less none = λ n q. none n (less n q)
kept-least P Q (Some m) more less least = record { holds = more m least.holds; least = λ n q. least.least n (less n q) }

lowered-some : (P Q : ℕ → Type 0) (n m : ℕ) (b : Bool) → nat_le m n ≡ b → ((k : ℕ) → P k → Q k) → ((k : ℕ) → Q k → P k ⊎ (n ≡ k)) → Q n
    → IsLeast P m → IsLeast Q (cond b m n)
lowered-some P Q n m true is more less here least =
    let below : m ≤ n = grind (arith, nat_tests) in
    record { holds = more m least.holds; least = λ k q. either_way (less k q) (λ p. least.least k p) (λ same. omega (arith, same, below)) }
lowered-some P Q n m false is more less here least =
    let above : n < m = grind (arith, nat_tests) in
    record { holds = here; least = λ k q. either_way (less k q) (λ p. omega (arith, least.least k p, above)) (λ same. omega (arith, same)) }

lowered : (P Q : ℕ → Type 0) (n : ℕ) (w : Option ℕ) → ((k : ℕ) → P k → Q k) → ((k : ℕ) → Q k → P k ⊎ (n ≡ k)) → Q n → IsLeastIfAny P w
    → IsLeast Q (lesser w n)
lowered P Q n None more less here none = record { holds = here; least = λ k q. either_way (less k q) (λ p. absurd (none k p)) (λ same. omega (arith, same)) }
lowered P Q n (Some m) more less here least = lowered-some P Q n m (nat_le m n) refl more less here least

-- ---- the list `named`

length-marks : (named : List Bool) (k : ℕ) → length (slice_set named k true) ≡ length named
length-marks [] k = refl
length-marks (b ∷ named) zero = refl
length-marks (b ∷ named) (suc k) = ap suc (length-marks named k)

mark-set : (named : List Bool) (k : ℕ) → k < length named → marked (slice_set named k true) k ≡ true
mark-set [] k inside = absurd (omega arith)
mark-set (b ∷ named) zero inside = refl
mark-set (b ∷ named) (suc k) inside = mark-set named k (omega (arith, inside))

mark-other : (named : List Bool) (k place : ℕ) → ¬ (k ≡ place) → marked (slice_set named k true) place ≡ marked named place
mark-other [] k place other = refl
mark-other (b ∷ named) zero zero other = absurd (other refl)
mark-other (b ∷ named) zero (suc place) other = refl
mark-other (b ∷ named) (suc k) zero other = refl
mark-other (b ∷ named) (suc k) (suc place) other = mark-other named k place (λ same. other (ap suc same))

seen-one : (journal : List Entry) (lists : List (List Receipt)) (rs : List Receipt) (r : Receipt) (named : List Bool) (place : ℕ) (b : Bool)
    → (r.place == place) ≡ b → length named ≡ length journal → place < length journal
    → MatchBool (marked named place) (0 < times place (lists ++ rs ∷ [])) (times place (lists ++ rs ∷ []) ≡ 0)
    → MatchBool (marked (slice_set named r.place true) place) (0 < times place (lists ++ (rs ++ r ∷ []) ∷ [])) (times place (lists ++ (rs ++ r ∷ []) ∷ []) ≡ 0)
seen-one journal lists rs r named place true is size inside old =
    let same : r.place ≡ place = grind (arith, nat_tests) in
    let set : marked (slice_set named r.place true) place ≡ true =
    subst (λ (k : ℕ). marked (slice_set named k true) place ≡ true) (sym same) (mark-set named place (omega (arith, size, inside))) in
    let more : 0 < times place (lists ++ (rs ++ r ∷ []) ∷ []) = omega (arith, times-more place lists rs r is) in
    subst (λ (m : Bool). MatchBool m (0 < times place (lists ++ (rs ++ r ∷ []) ∷ [])) (times place (lists ++ (rs ++ r ∷ []) ∷ []) ≡ 0)) (sym set) more
seen-one journal lists rs r named place false is size inside old =
    let other : ¬ (r.place ≡ place) = differ r.place place is in
    let same_mark : marked (slice_set named r.place true) place ≡ marked named place = mark-other named r.place place other in
    let same_times : times place (lists ++ (rs ++ r ∷ []) ∷ []) ≡ times place (lists ++ rs ∷ []) = times-same place lists rs r is in
    subst (λ (x : Bool × ℕ). MatchBool x.0 (0 < x.1) (x.1 ≡ 0)) (λ i. (sym same_mark i, sym same_times i)) old

-- ---- the tally

-- each part of a tally, after one more receipt
module _ (journal : List Entry) (lists : List (List Receipt)) (rs : List Receipt) (r : Receipt) (named : List Bool) (wrong : Option ℕ) (tally : IsTally journal (lists ++ rs ∷ []) named wrong) where
  abbrev before : List (List Receipt)
  before = lists ++ rs ∷ []

  abbrev after : List (List Receipt)
  after = lists ++ (rs ++ r ∷ []) ∷ []

  abbrev places_after : length (slice_set named r.place true) ≡ length journal
  places_after = length-marks named r.place ∙ tally.places

  abbrev seen_after : (place : ℕ) → place < length journal → MatchBool (marked (slice_set named r.place true) place) (0 < times place after) (times place after ≡ 0)
  seen_after place inside = seen-one journal lists rs r named place (r.place == place) refl tally.places inside (tally.seen place inside)

  -- the receipt is for a wrong place
  abbrev lowers : IsWrong journal after r.place → IsTally journal after (slice_set named r.place true) (Some (lesser wrong r.place))
  lowers here = record {
    places = places_after;
    seen = seen_after;
    least = lowered (IsWrong journal before) (IsWrong journal after) r.place wrong (wrong-old journal lists rs r)
        (λ place now. either_way (wrong-split journal lists rs r place now) (λ old. inl old) (λ new. inr new.0)) here tally.least;
    entries = λ none. absurd (cc (none));
  }

  pub tally-broken : ¬ IsJournals journal (least_after 0 rs) r → IsTally journal after (slice_set named r.place true) (Some (lesser wrong r.place))
  tally-broken not_its = lowers (inl (any-new journal r.place lists (rs ++ r ∷ []) (broken-new journal r.place 0 rs r refl not_its)))

  pub tally-entry : (b : Bool) → marked named r.place ≡ b → IsJournals journal (least_after 0 rs) r
      → IsTally journal after (slice_set named r.place true) (cond b (Some (lesser wrong r.place)) wrong)
  tally-entry true is its =
      let inside : r.place < length journal = slice_get_within journal r.place r.entry its.entry in
      let once : 0 < times r.place before = subst (λ (m : Bool). MatchBool m (0 < times r.place before) (times r.place before ≡ 0)) is (tally.seen r.place inside) in
      let same : (r.place == r.place) ≡ true = grind (arith, nat_tests) in
      lowers (inr (omega (arith, times-more r.place lists rs r same, once)))
  tally-entry false is its =
      let inside : r.place < length journal = slice_get_within journal r.place r.entry its.entry in
      let none : times r.place before ≡ 0 = subst (λ (m : Bool). MatchBool m (0 < times r.place before) (times r.place before ≡ 0)) is (tally.seen r.place inside) in
      record {
        places = places_after;
        seen = seen_after;
        least = kept-least (IsWrong journal before) (IsWrong journal after) wrong (wrong-old journal lists rs r)
            (λ place now. either_way (wrong-split journal lists rs r place now) (λ old. old)
            (λ new. either_way new.1 (λ not_its. absurd (not_its its))
            (λ twice. absurd (omega (arith, none, subst (λ (p : ℕ). 0 < times p before) (sym new.0) twice))))) tally.least;
        entries = λ still. all-push journal lists rs r (tally.entries still) its;
      }

pub tally-push : (journal : List Entry) (lists : List (List Receipt)) (rs : List Receipt) (r : Receipt) (named : List Bool) (wrong : Option ℕ) (is_entry : Bool)
    → IsTally journal (lists ++ rs ∷ []) named wrong
    → MatchBool is_entry (IsJournals journal (least_after 0 rs) r) (¬ IsJournals journal (least_after 0 rs) r)
    → IsTally journal (lists ++ (rs ++ r ∷ []) ∷ []) (slice_set named r.place true)
    (cond is_entry (cond (marked named r.place) (Some (lesser wrong r.place)) wrong) (Some (lesser wrong r.place)))
tally-push journal lists rs r named wrong true tally its = tally-entry journal lists rs r named wrong tally (marked named r.place) refl its
tally-push journal lists rs r named wrong false tally not_its = tally-broken journal lists rs r named wrong tally not_its

-- a new pass, of which no receipt was examined
times-open : (place : ℕ) (lists : List (List Receipt)) → times place (lists ++ [] ∷ []) ≡ times place lists
times-open place lists = omega (arith, times-last place lists [])

wrong-open : (journal : List Entry) (lists : List (List Receipt)) (place : ℕ) → IsWrong journal lists place → IsWrong journal (lists ++ [] ∷ []) place
wrong-open journal lists place (inl broken) = inl (any-old journal place lists [] broken)
wrong-open journal lists place (inr twice) = inr (omega (arith, times-open place lists, twice))

open-wrong : (journal : List Entry) (lists : List (List Receipt)) (place : ℕ) → IsWrong journal (lists ++ [] ∷ []) place → IsWrong journal lists place
open-wrong journal lists place (inl broken) = either_way (any-split journal place lists [] broken) (λ old. inl old) (λ none. absurd none)
open-wrong journal lists place (inr twice) = inr (omega (arith, times-open place lists, twice))

pub tally-open : (journal : List Entry) (lists : List (List Receipt)) (named : List Bool) (wrong : Option ℕ) → IsTally journal lists named wrong
    → IsTally journal (lists ++ [] ∷ []) named wrong
tally-open journal lists named wrong tally = record {
  places = tally.places;
  seen = λ place inside. subst (λ (n : ℕ). MatchBool (marked named place) (0 < n) (n ≡ 0)) (sym (times-open place lists)) (tally.seen place inside);
  least = kept-least (IsWrong journal lists) (IsWrong journal (lists ++ [] ∷ [])) wrong (wrong-open journal lists) (open-wrong journal lists) tally.least;
  entries = λ none. all-open journal lists (tally.entries none);
}

pub judged : (journal : List Entry) (least : ℕ) (r : Receipt) (b : Bool)
    → IsTrue b ↔ ((least ≤ r.place) × (slice_get journal r.place ≡ Some r.entry))
    → MatchBool b (IsJournals journal least r) (¬ IsJournals journal least r)
judged journal least r true is = let both = is.0 refl in record { above = both.0; entry = both.1 }
judged journal least r false is = λ its. absurd (cc (is.1 (its.above, its.entry)))

pub least_after-push : (least : ℕ) (rs : List Receipt) (r : Receipt) → least_after least (rs ++ r ∷ []) ≡ r.place + 1
least_after-push least [] r = refl
least_after-push least (x ∷ rs) r = least_after-push (x.place + 1) rs r
