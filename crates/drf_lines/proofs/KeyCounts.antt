-- The number of different keys of members.
use Rattle.std.proofs.Common.{◌≡◌, ℕ, suc, ◌+◌, ◌<◌, ◌≤◌, Bool, true, false, cond, List, [], ◌∷◌, ◌++◌, length, Bor, map, take, drop, get_or, Ordering, Less, Equal, Greater, is_eq, nat_cmp, refl, sym, ap, subst, ◌∙◌, arith, length-append}
use Rattle.std.specs.Prelude.{◌||◌}
use Rattle.std.specs.Cmp.Lexicographic.{slice_cmp}
use Rattle.std.specs.Ordering.{match_ordering, ordering_reverse}
use Rattle.std.specs.Str.{bytes_eq}
use Rattle.std.proofs.lemmas.List.{at_drop_more, at_drop_all, length-map, length-take-le}
use Rattle.std.proofs.lemmas.Cmp.{nat_list_cmp_total}
use Rattle.std.proofs.lemmas.Map.Text.{is_eq-slice_cmp}
use Rattle.std.proofs.lemmas.Slice.Eq.{bytes_eq-Decides}
use Rattle.json.specs.Json as json
use Rattle.json.specs.Strict.{keys}
use Rattle.json.specs.Value.{members_view}
use Rattle.json.specs.declared.value.Value.{Value}
use Rattle.serde_json.specs.Data.{Data, Members, no_members, member, put}
use Rattle.drf_lines.specs.LineValue.{data_of, members_of, is_among}
use Rattle.drf_lines.specs.Object.{member_count}

abbrev cmp : List ℕ → List ℕ → Ordering
cmp = slice_cmp nat_cmp

-- the key is where `put` looks for it
abbrev has : List ℕ → Members → Bool
has key no_members = false
has key (member k d ms) = match_ordering (cmp key k) false true (has key ms)

-- ---- one more

moved : (b : Bool) (n : ℕ) → suc (cond b n (suc n)) ≡ cond b (suc n) (suc (suc n))
moved true n = refl
moved false n = refl

count_at : (o : Ordering) (k l : List ℕ) (d e : Data) (ms : Members) → member_count (put k d ms) ≡ cond (has k ms) (member_count ms) (suc (member_count ms))
    → member_count (match_ordering o (member k d (member l e ms)) (member l d ms) (member l e (put k d ms)))
    ≡ cond (match_ordering o false true (has k ms)) (suc (member_count ms)) (suc (suc (member_count ms)))
count_at Less k l d e ms later = refl
count_at Equal k l d e ms later = refl
count_at Greater k l d e ms later = ap suc later ∙ moved (has k ms) (member_count ms)

count_put : (k : List ℕ) (d : Data) (ms : Members) → member_count (put k d ms) ≡ cond (has k ms) (member_count ms) (suc (member_count ms))
count_put k d no_members = refl
count_put k d (member l e ms) = count_at (cmp k l) k l d e ms (count_put k d ms)

-- ---- the keys that are there

below : (x y : List ℕ) → cmp x y ≡ Greater → cmp y x ≡ Less
below x y e = nat_list_cmp_total.antisymm y x ∙ ap ordering_reverse e

above : (x y : List ℕ) → cmp x y ≡ Less → cmp y x ≡ Greater
above x y e = nat_list_cmp_total.antisymm y x ∙ ap ordering_reverse e

equal : (x y : List ℕ) → cmp x y ≡ Equal → cmp y x ≡ Equal
equal x y e = nat_list_cmp_total.antisymm y x ∙ ap ordering_reverse e

same : (x y : List ℕ) → cmp x y ≡ Equal → x ≡ y
same x y e = (bytes_eq-Decides x y).0 (sym (is_eq-slice_cmp x y) ∙ ap is_eq e)

or_true : (o : Ordering) → (is_eq o || true) ≡ true
or_true Less = refl
or_true Equal = refl
or_true Greater = refl

module _ (q k l : List ℕ) (d e : Data) (ms : Members) where
  abbrev At : Ordering → Ordering → Ordering → Type 0
  At o a b =
      has q (match_ordering o (member k d (member l e ms)) (member l d ms) (member l e (put k d ms)))
      ≡ (is_eq a || match_ordering b false true (has q ms))

  put_first : (a b : Ordering) → cmp k l ≡ Less → cmp k q ≡ a → cmp q l ≡ b → At Less a b
  put_first Less b first key at = rw (above k q key, at) refl
  put_first Equal b first key at = rw (equal k q key) refl
  put_first Greater b first key at =
      let under : cmp q l ≡ Less = nat_list_cmp_total.trans q k l (below k q key) first in
      rw (below k q key) (ap (λ (o : Ordering). match_ordering o false true (has q ms)) (sym under ∙ at))

  put_same : (a b : Ordering) → cmp k l ≡ Equal → cmp k q ≡ a → cmp q l ≡ b → At Equal a b
  put_same Less b first key at = rw at refl
  put_same Equal b first key at =
      let here : cmp q l ≡ Equal = equal l q (ap (λ x. cmp x q) (sym (same k l first)) ∙ key) in
      rw here (ap (λ (o : Ordering). true) here)
  put_same Greater b first key at = rw at refl

  put_later : (a b : Ordering) → cmp k l ≡ Greater → cmp k q ≡ a → cmp q l ≡ b
      → has q (put k d ms) ≡ (is_eq a || has q ms) → At Greater a b
  put_later a Less first key at later =
      let over : cmp k q ≡ Greater = above q k (nat_list_cmp_total.trans q l k at (below k l first)) in
      rw at (ap (λ (o : Ordering). is_eq o || false) (sym over ∙ key))
  put_later a Equal first key at later = rw at (sym (or_true a))
  put_later a Greater first key at later = rw at later

  has_at : (o a b : Ordering) → cmp k l ≡ o → cmp k q ≡ a → cmp q l ≡ b → has q (put k d ms) ≡ (is_eq a || has q ms) → At o a b
  has_at Less a b first key at later = put_first a b first key at
  has_at Equal a b first key at later = put_same a b first key at
  has_at Greater a b first key at later = put_later a b first key at later

alone : (q k : List ℕ) (a : Ordering) → cmp k q ≡ a → match_ordering (cmp q k) false true false ≡ (is_eq a || false)
alone q k Less e = rw (above k q e) refl
alone q k Equal e = rw (equal k q e) refl
alone q k Greater e = rw (below k q e) refl

has_put : (q k : List ℕ) (d : Data) (ms : Members) → has q (put k d ms) ≡ (is_eq (cmp k q) || has q ms)
has_put q k d no_members = alone q k (cmp k q) refl
has_put q k d (member l e ms) = has_at q k l d e ms (cmp k l) (cmp k q) (cmp q l) refl refl refl (has_put q k d ms)

-- ---- the names found so far

-- the number of names after some keys
abbrev pub count_after : List (List ℕ) → List (List ℕ) → ℕ
count_after names [] = length names
count_after names (key ∷ keys) = cond (is_among names key) (count_after names keys) (count_after (names ++ key ∷ []) keys)

either_grows : (b : Bool) (names : List (List ℕ)) (key : List ℕ) (m n : ℕ) → length names ≤ m → length (names ++ key ∷ []) ≤ n → length names ≤ cond b m n
either_grows true names key m n old new = old
either_grows false names key m n old new = omega (arith, length-append names (key ∷ []))

pub count_grows : (names keys : List (List ℕ)) → length names ≤ count_after names keys
count_grows names [] = omega arith
count_grows names (key ∷ keys) =
    either_grows (is_among names key) names key _ _ (count_grows names keys) (count_grows (names ++ key ∷ []) keys)

pub record AreNames (names : List (List ℕ)) (found : Members) : Type 0 where
  pub count : length names ≡ member_count found
  pub each : (q : List ℕ) → is_among names q ≡ has q found

or_assoc : (a b c : Bool) → ((a || b) || c) ≡ (a || (b || c))
or_assoc true b c = refl
or_assoc false b c = refl

or_swap : (a b : Bool) → (a || (b || false)) ≡ (b || a)
or_swap true true = refl
or_swap true false = refl
or_swap false true = refl
or_swap false false = refl

among_more : (names : List (List ℕ)) (k q : List ℕ) → is_among (names ++ k ∷ []) q ≡ (bytes_eq k q || is_among names q)
among_more names k q = prefix names ∙ or_swap (is_among names q) (bytes_eq k q)
  where
    prefix : (names : List (List ℕ)) → is_among (names ++ k ∷ []) q ≡ (is_among names q || (bytes_eq k q || false))
    prefix [] = refl
    prefix (name ∷ names) = ap (λ b. bytes_eq name q || b) (prefix names) ∙ sym (or_assoc (bytes_eq name q) (is_among names q) _)

known : (names : List (List ℕ)) (k q : List ℕ) (b : Bool) → bytes_eq k q ≡ b → is_among names k ≡ true → is_among names q ≡ (b || is_among names q)
known names k q true e here = subst (λ x. is_among names x ≡ true) ((bytes_eq-Decides k q).0 e) here
known names k q false e here = refl

module _ (names : List (List ℕ)) (k : List ℕ) (d : Data) (found : Members) (are : AreNames names found) where
  each_put : (q : List ℕ) → has q (put k d found) ≡ (bytes_eq k q || is_among names q)
  each_put q = has_put q k d found ∙ ap (λ b. b || has q found) (is_eq-slice_cmp k q) ∙ ap (λ b. bytes_eq k q || b) (sym (are.each q))

  names_again : is_among names k ≡ true → AreNames names (put k d found)
  names_again here = record {
    count = are.count ∙ sym (count_put k d found ∙ ap (λ b. cond b (member_count found) (suc (member_count found))) (sym (are.each k) ∙ here));
    each = λ q. known names k q (bytes_eq k q) refl here ∙ sym (each_put q);
  }

  names_more : is_among names k ≡ false → AreNames (names ++ k ∷ []) (put k d found)
  names_more new = record {
    count =
        let counted : member_count (put k d found) ≡ suc (member_count found) = count_put k d found ∙ ap (λ b. cond b (member_count found) (suc (member_count found))) (sym (are.each k) ∙ new) in
        omega (arith, are.count, length-append names (k ∷ []));
    each = λ q. among_more names k q ∙ sym (each_put q);
  }

either_way : (b : Bool) (n old new : ℕ) → (b ≡ true → n ≡ old) → (b ≡ false → n ≡ new) → n ≡ cond b old new
either_way true n old new there here = there refl
either_way false n old new there here = here refl

counted : (ms : json.Members) (names : List (List ℕ)) (found : Members) → AreNames names found → member_count (members_of ms found) ≡ count_after names (keys ms)
counted json.no_members names found are = sym are.count
counted (json.member k j ms) names found are =
    either_way (is_among names k) _ _ _
    (λ here. counted ms names (put k (data_of j) found) (names_again names k (data_of j) found are here))
    (λ new. counted ms (names ++ k ∷ []) (put k (data_of j) found) (names_more names k (data_of j) found are new))

pub keys_counted : (ms : json.Members) → member_count (members_of ms no_members) ≡ count_after [] (keys ms)
keys_counted ms = counted ms [] no_members (record { count = refl; each = λ q. refl })

-- the count after the key of the member at an index
pub next_key : {A : Type 0} (names : List (List ℕ)) (all : List (Bor (List ℕ) × Value A)) (i : ℕ) (m : Bor (List ℕ) × Value A) (b : Bool)
    → i < length all → m ≡ get_or all i m → is_among names m.0.now ≡ b
    → count_after names (keys (members_view (drop i all)))
    ≡ cond b (count_after names (keys (members_view (drop (i + 1) all)))) (count_after (names ++ m.0.now ∷ []) (keys (members_view (drop (i + 1) all))))
next_key {A} names all i m b inside is among =
    at_drop_more (λ (left : List (Bor (List ℕ) × Value A)). count_after names (keys (members_view left))) all i m inside
    ∙ ap (λ (n : Bor (List ℕ) × Value A). count_after names (n.0.now ∷ keys (members_view (drop (i + 1) all)))) (sym is)
    ∙ ap (λ b. cond b (count_after names (keys (members_view (drop (i + 1) all)))) (count_after (names ++ m.0.now ∷ []) (keys (members_view (drop (i + 1) all))))) among

pub last_key : {A : Type 0} (names : List (List ℕ)) (all : List (Bor (List ℕ) × Value A)) (i : ℕ) → length all ≤ i
    → count_after names (keys (members_view (drop i all))) ≡ length names
last_key {A} names all i past = at_drop_all (λ (left : List (Bor (List ℕ) × Value A)). count_after names (keys (members_view left))) all i past

-- the names as texts
abbrev pub texts : List (Bor (List ℕ)) → List (List ℕ)
texts names = map (λ name. name.now) names

pub texts_length : (names : List (Bor (List ℕ))) (n : ℕ) → n ≤ length names → length (texts (take n names)) ≡ n
texts_length names n h = length-map (take n names) (λ name. name.now) ∙ length-take-le n names h
