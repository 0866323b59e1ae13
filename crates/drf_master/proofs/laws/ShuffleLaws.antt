-- Theorems about shuffles.
use Rattle.std.proofs.Common.{◌≡◌, ℕ, zero, suc, ◌+◌, ◌<◌, ◌≤◌, ◌==◌, ◌⊎◌, ⊎_elim, inl, inr, true, false, cond, List, [], ◌∷◌, length, refl, subst, arith}
use Rattle.std.proofs.lemmas.Bool.Decides.{nat_tests}
use Rattle.std.proofs.lemmas.Option.{slice_get_within}
use Rattle.drf_board.specs.declared.entry.Entry.{Entry}
use Rattle.drf_master.specs.Matching.{AreJournals, HasBroken, AreAllJournals, HasAnyBroken, IsShuffle, IsMissing, IsWrong, IsFault, times, times_in, count}
use Rattle.drf_master.specs.declared.matching.CloseFault.{CloseFault}
use Rattle.drf_master.specs.declared.matching.CloseFault.TheVariants.{Stranger, Missing, Mismatch, Memory}
use Rattle.drf_master.specs.declared.pass.Receipt.{Receipt}

-- ---- receipts, counted by their places below n

below-or-past : (n k : ℕ) → (k < n) ⊎ (n ≤ k)
below-or-past zero k = inr (omega arith)
below-or-past (suc n) zero = inl (omega arith)
below-or-past (suc n) (suc k) = ⊎_elim (λ below. inl (omega (arith, below))) (λ past. inr (omega (arith, past))) (below-or-past n k)

-- the number of places below n that equal this one
abbrev is_below : ℕ → ℕ → ℕ
is_below zero place = 0
is_below (suc n) place = is_below n place + cond (place == n) 1 0

below-none : (n place : ℕ) → n ≤ place → is_below n place ≡ 0
below-none zero place least = refl
below-none (suc n) place least =
    let other : (place == n) ≡ false = grind (arith, nat_tests) in
    let none : ◌≡◌ {A = ℕ} (cond (place == n) 1 0) 0 = rw other refl in
    omega (arith, none, below-none n place (omega (arith, least)))

below-one : (n place : ℕ) → (place < n) ⊎ (n ≤ place) → place < suc n → ((place < n) → is_below n place ≡ 1) → is_below (suc n) place ≡ 1
below-one n place (inl less) below rest =
    let other : (place == n) ≡ false = grind (arith, nat_tests) in
    let none : ◌≡◌ {A = ℕ} (cond (place == n) 1 0) 0 = rw other refl in
    omega (arith, none, rest less)
below-one n place (inr past) below rest =
    let same : (place == n) ≡ true = grind (arith, nat_tests) in
    let one : ◌≡◌ {A = ℕ} (cond (place == n) 1 0) 1 = rw same refl in
    omega (arith, one, below-none n place past)

below-some : (n place : ℕ) → place < n → is_below n place ≡ 1
below-some zero place below = absurd (omega arith)
below-some (suc n) place below = below-one n place (below-or-past n place) below (λ less. below-some n place less)

abbrev named_in : ℕ → List Receipt → ℕ
named_in zero rs = 0
named_in (suc n) rs = named_in n rs + times_in n rs

abbrev named : ℕ → List (List Receipt) → ℕ
named zero lists = 0
named (suc n) lists = named n lists + times n lists

named_in-nil : (n : ℕ) → named_in n [] ≡ 0
named_in-nil zero = refl
named_in-nil (suc n) = omega (arith, named_in-nil n)

named_in-cons : (n : ℕ) (r : Receipt) (rs : List Receipt) → named_in n (r ∷ rs) ≡ is_below n r.place + named_in n rs
named_in-cons zero r rs = refl
named_in-cons (suc n) r rs = let rest = named_in-cons n r rs in omega (arith, rest)

named-nil : (n : ℕ) → named n [] ≡ 0
named-nil zero = refl
named-nil (suc n) = omega (arith, named-nil n)

named-cons : (n : ℕ) (rs : List Receipt) (lists : List (List Receipt)) → named n (rs ∷ lists) ≡ named_in n rs + named n lists
named-cons zero rs lists = refl
named-cons (suc n) rs lists = let rest = named-cons n rs lists in omega (arith, rest)

-- all receipts are for places below the journal's length, so counting by these places counts all receipts
counted_in : (journal : List Entry) (least : ℕ) (rs : List Receipt) → AreJournals journal least rs → named_in (length journal) rs ≡ length rs
counted_in journal least [] are = named_in-nil (length journal)
counted_in journal least (r ∷ rs) are =
    let inside : r.place < length journal = slice_get_within journal r.place r.entry are.0.entry in
    omega (arith, named_in-cons (length journal) r rs, below-some (length journal) r.place inside, counted_in journal (r.place + 1) rs are.1)

counted : (journal : List Entry) (lists : List (List Receipt)) → AreAllJournals journal lists → named (length journal) lists ≡ count lists
counted journal [] are = named-nil (length journal)
counted journal (rs ∷ lists) are =
    omega (arith, named-cons (length journal) rs lists, counted_in journal 0 rs are.0, counted journal lists are.1)

-- ---- each place once

few : (n : ℕ) (lists : List (List Receipt)) → ((place : ℕ) → place < n → times place lists ≤ 1) → named n lists ≤ n
few zero lists most = omega arith
few (suc n) lists most =
    omega (arith, most n (omega arith), few n lists (λ place below. most place (omega (arith, below))))

once-at : (n place : ℕ) (lists : List (List Receipt)) → (place < n) ⊎ (n ≤ place) → place < suc n → times n lists ≡ 1
    → ((k : ℕ) → k < n → times k lists ≡ 1) → times place lists ≡ 1
once-at n place lists (inl less) below last rest = rest place less
once-at n place lists (inr past) below last rest =
    let same : n ≡ place = omega (arith, past, below) in subst (λ (k : ℕ). times k lists ≡ 1) same last

-- if no place has two receipts, and there are as many receipts as places, each place has one
each-once : (n : ℕ) (lists : List (List Receipt)) → ((place : ℕ) → place < n → times place lists ≤ 1) → n ≤ named n lists
    → (place : ℕ) → place < n → times place lists ≡ 1
each-once zero lists most enough place below = absurd (omega arith)
each-once (suc n) lists most enough place below =
    let less : (k : ℕ) → k < n → times k lists ≤ 1 = λ k low. most k (omega (arith, low)) in
    let rest : named n lists ≤ n = few n lists less in
    let last : times n lists ≡ 1 = omega (arith, enough, rest, most n (omega arith)) in
    once-at n place lists (below-or-past n place) below last (each-once n lists less (omega (arith, enough, last)))

ones : (n : ℕ) (lists : List (List Receipt)) → ((place : ℕ) → place < n → times place lists ≡ 1) → named n lists ≡ n
ones zero lists once = refl
ones (suc n) lists once = omega (arith, once n (omega arith), ones n lists (λ place below. once place (omega (arith, below))))

-- ---- shuffles

pub is_shuffle : (journal : List Entry) (lists : List (List Receipt)) → AreAllJournals journal lists → ((place : ℕ) → ¬ IsWrong journal lists place)
    → ¬ IsMissing journal lists → IsShuffle journal lists
is_shuffle journal lists are none enough =
    let most : (place : ℕ) → place < length journal → times place lists ≤ 1 =
    λ place below. ⊎_elim (λ less. omega (arith, less)) (λ twice. absurd (none place (inr twice))) (below-or-past 2 (times place lists)) in
    let as_many : length journal ≤ count lists =
    ⊎_elim (λ less. absurd (enough less)) (λ past. past) (below-or-past (length journal) (count lists)) in
    let all : length journal ≤ named (length journal) lists = omega (arith, counted journal lists are, as_many) in
    record { entries = are; once = each-once (length journal) lists most all }

no-broken : (journal : List Entry) (place least : ℕ) (rs : List Receipt) → AreJournals journal least rs → ¬ HasBroken journal place least rs
no-broken journal place least [] are broken = broken
no-broken journal place least (r ∷ rs) are (inl here) = here.1 are.0
no-broken journal place least (r ∷ rs) are (inr later) = no-broken journal place (r.place + 1) rs are.1 later

no-any-broken : (journal : List Entry) (place : ℕ) (lists : List (List Receipt)) → AreAllJournals journal lists → ¬ HasAnyBroken journal place lists
no-any-broken journal place [] are broken = broken
no-any-broken journal place (rs ∷ lists) are (inl here) = no-broken journal place 0 rs are.0 here
no-any-broken journal place (rs ∷ lists) are (inr later) = no-any-broken journal place lists are.1 later

beyond_in : (journal : List Entry) (place least : ℕ) (rs : List Receipt) → AreJournals journal least rs → length journal ≤ place → times_in place rs ≡ 0
beyond_in journal place least [] are past = refl
beyond_in journal place least (r ∷ rs) are past =
    let inside : r.place < length journal = slice_get_within journal r.place r.entry are.0.entry in
    let other : (r.place == place) ≡ false = grind (arith, nat_tests) in
    let none : ◌≡◌ {A = ℕ} (cond (r.place == place) 1 0) 0 = rw other refl in
    omega (arith, none, beyond_in journal place (r.place + 1) rs are.1 past)

beyond : (journal : List Entry) (place : ℕ) (lists : List (List Receipt)) → AreAllJournals journal lists → length journal ≤ place → times place lists ≡ 0
beyond journal place [] are past = refl
beyond journal place (rs ∷ lists) are past = omega (arith, beyond_in journal place 0 rs are.0 past, beyond journal place lists are.1 past)

not-twice : (journal : List Entry) (lists : List (List Receipt)) (place : ℕ) → IsShuffle journal lists → (place < length journal) ⊎ (length journal ≤ place)
    → ¬ (2 ≤ times place lists)
not-twice journal lists place shuffle (inl below) twice = absurd (omega (arith, shuffle.once place below, twice))
not-twice journal lists place shuffle (inr past) twice = absurd (omega (arith, beyond journal place lists shuffle.entries past, twice))

not-wrong : (journal : List Entry) (lists : List (List Receipt)) (place : ℕ) → IsShuffle journal lists → ¬ IsWrong journal lists place
not-wrong journal lists place shuffle (inl broken) = no-any-broken journal place lists shuffle.entries broken
not-wrong journal lists place shuffle (inr twice) = not-twice journal lists place shuffle (below-or-past (length journal) place) twice

not-missing : (journal : List Entry) (lists : List (List Receipt)) → IsShuffle journal lists → ¬ IsMissing journal lists
not-missing journal lists shuffle missing =
    absurd (omega (arith, counted journal lists shuffle.entries, ones (length journal) lists shuffle.once, missing))

-- for a shuffle, the only possible error is `Memory`
pub no_fault : (journal : List Entry) (lists : List (List Receipt)) (fault : CloseFault) → IsShuffle journal lists → IsFault journal lists fault → fault ≡ Memory
no_fault journal lists Stranger shuffle is = absurd is
no_fault journal lists Missing shuffle is = absurd (not-missing journal lists shuffle is)
no_fault journal lists (Mismatch place) shuffle is = absurd (not-wrong journal lists place shuffle is.1.holds)
no_fault journal lists Memory shuffle is = refl
