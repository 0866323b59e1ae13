-- Offers that are counted for their clients.
use Rattle.std.proofs.Common.{refl, sym, ap, ◌∙◌, inl, inr, zero, suc, arith, get_or, set, ◌≡◌, ℕ, ◌+◌, ◌<◌, ◌≤◌, ◌^◌, true, false, List, [], ◌∷◌, ◌++◌, length, map, flat_map, sum_by, take, drop}
use Rattle.std.proofs.lemmas.Bool.{cases_Bool}
use Rattle.std.proofs.lemmas.List.{length-append, length-map}
use Rattle.std.proofs.lemmas.List.Sums.{sum_by-cons}
use Rattle.drf_tables.proofs.tables.Names.{same_text, same_path, Client, offers_counted, counted, count_offer, client_of, holding_of_offer, ClientRow, FrameworkRow, OfferRow, counting, counting_all, count_clients, CanCount, CanCountAll}

-- ---- the clients are changed one by one

-- the elements before a place are mapped, and the others are not yet
module _ {X : Type 0} (f : X → X) where
  pub map_next : (xs ys : List X) (i n : ℕ) (d : X) → n ≡ i + 1 → i < length xs → ys ≡ map f (take i xs) ++ drop i xs
      → set ys i (f (get_or ys i d)) ≡ map f (take n xs) ++ drop n xs
  map_next xs ys i n d next within so = rw so (at xs i n next within)
    where
      at : (xs : List X) (i n : ℕ) → n ≡ i + 1 → i < length xs
          → set (map f (take i xs) ++ drop i xs) i (f (get_or (map f (take i xs) ++ drop i xs) i d))
          ≡ map f (take n xs) ++ drop n xs
      at [] i n next within = absurd (omega arith)
      at (x ∷ xs) zero zero next within = absurd (omega arith)
      at (x ∷ xs) zero (suc n) next within =
          let none : n ≡ 0 = omega arith in
          rw none refl
      at (x ∷ xs) (suc i) zero next within = absurd (omega arith)
      at (x ∷ xs) (suc i) (suc n) next within = ap (λ l. f x ∷ l) (at xs i n (omega arith) (omega arith))

-- ---- an offer is counted

pub counted_here : (client : Client) (c : ClientRow)
    → same_path c.role client.role ≡ true → counted client c ≡ record c { count = c.count + 1 }
counted_here client c same = rw same refl

pub counted_other : (client : Client) (c : ClientRow) → same_path c.role client.role ≡ false → counted client c ≡ c
counted_other client c other = rw other refl

-- after an offer is counted, one fewer still fits
counted_fits : (n m : ℕ) (client : Client) (c : ClientRow)
    → m ≡ n + 1 → c.count + m < 2 ^ 64 → (counted client c).count + n < 2 ^ 64
counted_fits n m client c next fits = elim (cases_Bool (same_path c.role client.role)) [
  | inl same ↦ rw same (omega (arith, next, fits))
  | inr other ↦ rw other (omega (arith, next, fits))
]

pub CanCount-counted : (n m : ℕ) (client : Client) (cs : List ClientRow)
    → m ≡ n + 1 → CanCount m cs → CanCount n (map (counted client) cs)
CanCount-counted n m client [] next all = tt
CanCount-counted n m client (c ∷ cs) next all =
    (counted_fits n m client c next all.0, CanCount-counted n m client cs next all.1)

CanCount-less : (n m : ℕ) (cs : List ClientRow) → n ≤ m → CanCount m cs → CanCount n cs
CanCount-less n m [] less all = tt
CanCount-less n m (c ∷ cs) less all = (omega (arith, less, all.0), CanCount-less n m cs less all.1)

counted_in : (n m : ℕ) (client : Client) (f : FrameworkRow)
    → m ≡ n + 1 → CanCount m f.clients → CanCount n (count_offer client f).clients
counted_in n m client f next all = elim (cases_Bool (same_text f.name client.framework)) [
  | inl same ↦ rw same (CanCount-counted n m client f.clients next all)
  | inr other ↦ rw other (CanCount-less n m f.clients (omega arith) all)
]

pub CanCountAll-counting : (n m : ℕ) (fs : List FrameworkRow) (offer : OfferRow)
    → m ≡ n + 1 → CanCountAll m fs → CanCountAll n (counting fs offer)
CanCountAll-counting n m [] offer next all = tt
CanCountAll-counting n m (f ∷ fs) offer next all =
    (counted_in n m (holding_of_offer offer).client f next all.0, CanCountAll-counting n m fs offer next all.1)

-- no count of a client is above the sum of all counts
CanCount-from : (n : ℕ) (cs : List ClientRow) → sum_by (λ c. c.count) cs + n < 2 ^ 64 → CanCount n cs
CanCount-from n [] few = tt
CanCount-from n (c ∷ cs) few =
    let first = sum_by-cons (λ (c : ClientRow). c.count) c cs in
    (omega (arith, first, few), CanCount-from n cs (omega (arith, first, few)))

pub CanCountAll-from : (n : ℕ) (fs : List FrameworkRow) → offers_counted fs + n < 2 ^ 64 → CanCountAll n fs
CanCountAll-from n [] few = tt
CanCountAll-from n (f ∷ fs) few =
    let first = sum_by-cons (λ (f : FrameworkRow). sum_by (λ (c : ClientRow). c.count) f.clients) f fs in
    (CanCount-from n f.clients (omega (arith, first, few)), CanCountAll-from n fs (omega (arith, first, few)))

-- ---- what counting does not change

length-count_offer : (client : Client) (f : FrameworkRow) → length (count_offer client f).clients ≡ length f.clients
length-count_offer client f = elim (cases_Bool (same_text f.name client.framework)) [
  | inl same ↦ rw same (length-map f.clients (counted client))
  | inr other ↦ rw other refl
]

pub count_clients-cons : (f : FrameworkRow) (fs : List FrameworkRow)
    → count_clients (f ∷ fs) ≡ length f.clients + count_clients fs
count_clients-cons f fs =
    length-append (map (client_of f) f.clients) (flat_map (λ f. map (client_of f) f.clients) fs)
    ∙ ap (λ n. n + count_clients fs) (length-map f.clients (client_of f))

count_clients-counting : (fs : List FrameworkRow) (offer : OfferRow)
    → count_clients (counting fs offer) ≡ count_clients fs
count_clients-counting [] offer = refl
count_clients-counting (f ∷ fs) offer =
    count_clients-cons (count_offer (holding_of_offer offer).client f) (counting fs offer)
    ∙ (λ i. length-count_offer (holding_of_offer offer).client f i + count_clients-counting fs offer i)
    ∙ sym (count_clients-cons f fs)

pub count_clients-counting_all : (fs : List FrameworkRow) (offers : List OfferRow)
    → count_clients (counting_all fs offers) ≡ count_clients fs
count_clients-counting_all fs [] = refl
count_clients-counting_all fs (o ∷ os) = count_clients-counting_all (counting fs o) os ∙ count_clients-counting fs o
