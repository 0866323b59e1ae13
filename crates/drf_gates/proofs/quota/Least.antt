-- The least room that limits leave to a role is the least that the limits of its prefixes leave.
use Rattle.std.proofs.Common.{◌≡◌, ℕ, ◌+◌, ◌<◌, ◌≤◌, min, Bool, true, false, ◌&&◌, cond, nat_lt, List, [], ◌∷◌, length, take, map, filter, fold, Option, None, Some, refl, sym, ap, subst, ◌∙◌, inl, inr, arith, length-take-le, true≢false}
use Rattle.std.specs.List.{reduce}
use Rattle.std.proofs.lemmas.Bool.{cases_Bool}
use Rattle.std.proofs.lemmas.Bool.Decides.{nat_tests}
use Rattle.drf_role.specs.Text.{Text}
use Rattle.drf_role.specs.Path.{Path, same_path}
use Rattle.drf_role.specs.PathLaws.{same_path-true}
use Rattle.drf_bundle.specs.Quantities.{is_named}
use Rattle.drf_rows.specs.Quota.{Consumed, is_within, binds, room_under, headroom_under}
use Rattle.drf_rows.specs.declared.rows.LimitRow.{LimitRow}
use Rattle.drf_gates.specs.quota.Prefix.{limits_at, least_at}
use Rattle.drf_gates.specs.quota.Allowance.{least_with}
use Rattle.drf_gates.proofs.quota.Leave.{prefix_few, prefix_there, prefix_within}

-- ---- the lesser of two numbers that may be unknown

abbrev lesser_of : Option ℕ → Option ℕ → Option ℕ
lesser_of None o = o
lesser_of (Some m) None = Some m
lesser_of (Some m) (Some n) = Some (min m n)

lesser_none : (o : Option ℕ) → lesser_of o None ≡ o
lesser_none None = refl
lesser_none (Some m) = refl

lesser_four : (a b c d : Option ℕ) → lesser_of (lesser_of a b) (lesser_of c d) ≡ lesser_of (lesser_of a c) (lesser_of b d)
lesser_four None None c d = refl
lesser_four None (Some b) None d = refl
lesser_four None (Some b) (Some c) None = let e : min b c ≡ min c b = omega arith in ap Some e
lesser_four None (Some b) (Some c) (Some d) = let e : min b (min c d) ≡ min c (min b d) = omega arith in ap Some e
lesser_four (Some a) None None d = refl
lesser_four (Some a) None (Some c) None = refl
lesser_four (Some a) None (Some c) (Some d) = let e : min a (min c d) ≡ min (min a c) d = omega arith in ap Some e
lesser_four (Some a) (Some b) None None = refl
lesser_four (Some a) (Some b) None (Some d) = let e : min (min a b) d ≡ min a (min b d) = omega arith in ap Some e
lesser_four (Some a) (Some b) (Some c) None = let e : min (min a b) c ≡ min (min a c) b = omega arith in ap Some e
lesser_four (Some a) (Some b) (Some c) (Some d) = let e : min (min a b) (min c d) ≡ min (min a c) (min b d) = omega arith in ap Some e

fold_min : (x y : ℕ) (ys : List ℕ) → fold min (min x y) ys ≡ min x (fold min y ys)
fold_min x y [] = refl
fold_min x y (z ∷ zs) =
    let e : min (min x y) z ≡ min x (min y z) = omega arith in
    ap (λ (n : ℕ). fold min n zs) e ∙ fold_min x (min y z) zs

least_first : (n : ℕ) (ns : List ℕ) → reduce min (n ∷ ns) ≡ lesser_of (Some n) (reduce min ns)
least_first n [] = refl
least_first n (m ∷ ms) = ap Some (fold_min n m ms)

least_with-lesser : (known : Option ℕ) (ns : List ℕ) → least_with known ns ≡ lesser_of known (reduce min ns)
least_with-lesser None ns = refl
least_with-lesser (Some n) ns = least_first n ns

-- ---- the least room under limits that pass a test

module _ (consumed : Consumed) (role : Path) (label : Text) where
  abbrev one_of : (LimitRow → Bool) → LimitRow → Option ℕ
  one_of test l = cond (test l) (Some (room_under consumed label l)) None

  abbrev least_of : (LimitRow → Bool) → List LimitRow → Option ℕ
  least_of test [] = None
  least_of test (l ∷ ls) = lesser_of (one_of test l) (least_of test ls)

  least_all : (test : LimitRow → Bool) (ls : List LimitRow) → reduce min (map (room_under consumed label) (filter test ls)) ≡ least_of test ls
  least_all test [] = refl
  least_all test (l ∷ ls) = by (test l) (least_all test ls)
    where
      by : (b : Bool) → reduce min (map (room_under consumed label) (filter test ls)) ≡ least_of test ls
          → reduce min (map (room_under consumed label) (cond b (l ∷ filter test ls) (filter test ls)))
          ≡ lesser_of (cond b (Some (room_under consumed label l)) None) (least_of test ls)
      by true rest =
          least_first (room_under consumed label l) (map (room_under consumed label) (filter test ls))
          ∙ ap (lesser_of (Some (room_under consumed label l))) rest
      by false rest = rest

  least_agree : (one other : LimitRow → Bool) → ((l : LimitRow) → one l ≡ other l) → (ls : List LimitRow) → least_of one ls ≡ least_of other ls
  least_agree one other same [] = refl
  least_agree one other same (l ∷ ls) =
      λ i. lesser_of (cond (same l i) (Some (room_under consumed label l)) None) (least_agree one other same ls i)

  least_both : (one other both : LimitRow → Bool) → ((l : LimitRow) → one_of both l ≡ lesser_of (one_of one l) (one_of other l))
      → (ls : List LimitRow) → least_of both ls ≡ lesser_of (least_of one ls) (least_of other ls)
  least_both one other both each [] = refl
  least_both one other both each (l ∷ ls) =
      (λ i. lesser_of (each l i) (least_both one other both each ls i))
      ∙ lesser_four (one_of one l) (one_of other l) (least_of one ls) (least_of other ls)

  -- ---- the prefixes so far

  abbrev is_until : ℕ → LimitRow → Bool
  is_until n l = nat_lt (length l.role) n && binds role label l

  abbrev is_at : ℕ → LimitRow → Bool
  is_at n l = same_path (take n role) l.role && is_named l.limit label

  abbrev pub least_until : ℕ → List LimitRow → Option ℕ
  least_until n ls = least_of (is_until n) ls

  and_none : (b : Bool) → (b && false) ≡ false
  and_none true = refl
  and_none false = refl

  until_here : (n : ℕ) (l : LimitRow) → n ≤ length role → same_path (take n role) l.role ≡ true
      → one_of (is_until (n + 1)) l ≡ lesser_of (one_of (is_until n) l) (one_of (is_at n) l)
  until_here n l few here =
      let size : length l.role ≡ n = sym (ap (λ (p : Path). length p) (same_path-true (take n role) l.role here)) ∙ length-take-le n role few in
      let past : nat_lt (length l.role) n ≡ false = grind (arith, nat_tests) in
      let below : nat_lt (length l.role) (n + 1) ≡ true = grind (arith, nat_tests) in
      let outer = prefix_within l.role role n few here in
      (λ i. cond (below i && (outer i && is_named l.limit label)) (Some (room_under consumed label l)) None)
      ∙ (λ i. lesser_of (cond (sym past i && binds role label l) (Some (room_under consumed label l)) None)
      (cond (sym here i && is_named l.limit label) (Some (room_under consumed label l)) None))

  until_past : (n : ℕ) (l : LimitRow) → same_path (take n role) l.role ≡ false → is_until (n + 1) l ≡ is_until n l
  until_past n l other = elim (cases_Bool (is_within l.role role)) [
    | inl within ↦
        let apart : length l.role ≡ n → ⊥ =
        (λ e. true≢false (sym (subst (λ (m : ℕ). same_path (take m role) l.role ≡ true) e (prefix_there l.role role within)) ∙ other)) in
        let same : nat_lt (length l.role) (n + 1) ≡ nat_lt (length l.role) n = grind (arith, nat_tests) in
        ap (λ (b : Bool). b && binds role label l) same
    | inr past ↦
        (λ i. nat_lt (length l.role) (n + 1) && (past i && is_named l.limit label))
        ∙ and_none (nat_lt (length l.role) (n + 1))
        ∙ sym (and_none (nat_lt (length l.role) n))
        ∙ (λ i. nat_lt (length l.role) n && (sym past i && is_named l.limit label))
  ]

  until_one : (n : ℕ) → n ≤ length role → (l : LimitRow) → one_of (is_until (n + 1)) l ≡ lesser_of (one_of (is_until n) l) (one_of (is_at n) l)
  until_one n few l = elim (cases_Bool (same_path (take n role) l.role)) [
    | inl here ↦ until_here n l few here
    | inr other ↦
        ap (λ (b : Bool). cond b (Some (room_under consumed label l)) None) (until_past n l other)
        ∙ sym (lesser_none (one_of (is_until n) l))
        ∙ (λ i. lesser_of (one_of (is_until n) l) (cond (sym other i && is_named l.limit label) (Some (room_under consumed label l)) None))
  ]

  least_prefix : (n : ℕ) (ls : List LimitRow)
      → reduce min (map (room_under consumed label) (filter (λ l. is_named l.limit label) (limits_at (take n role) ls))) ≡ least_of (is_at n) ls
  least_prefix n [] = refl
  least_prefix n (l ∷ ls) = by (same_path (take n role) l.role) (is_named l.limit label) refl (least_prefix n ls)
    where
      by : (here named : Bool) → is_named l.limit label ≡ named
          → reduce min (map (room_under consumed label) (filter (λ m. is_named m.limit label) (limits_at (take n role) ls))) ≡ least_of (is_at n) ls
          → reduce min (map (room_under consumed label) (filter (λ m. is_named m.limit label) (cond here (l ∷ limits_at (take n role) ls) (limits_at (take n role) ls))))
          ≡ lesser_of (cond (here && is_named l.limit label) (Some (room_under consumed label l)) None) (least_of (is_at n) ls)
      by true true named rest =
          (λ i. reduce min (map (room_under consumed label) (cond (named i) (l ∷ filter (λ m. is_named m.limit label) (limits_at (take n role) ls)) (filter (λ m. is_named m.limit label) (limits_at (take n role) ls)))))
          ∙ least_first (room_under consumed label l) (map (room_under consumed label) (filter (λ m. is_named m.limit label) (limits_at (take n role) ls)))
          ∙ ap (lesser_of (Some (room_under consumed label l))) rest
          ∙ (λ i. lesser_of (cond (sym named i) (Some (room_under consumed label l)) None) (least_of (is_at n) ls))
      by true false named rest =
          (λ i. reduce min (map (room_under consumed label) (cond (named i) (l ∷ filter (λ m. is_named m.limit label) (limits_at (take n role) ls)) (filter (λ m. is_named m.limit label) (limits_at (take n role) ls)))))
          ∙ rest
          ∙ (λ i. lesser_of (cond (sym named i) (Some (room_under consumed label l)) None) (least_of (is_at n) ls))
      by false named is rest = rest

  -- the least over one more prefix
  pub least_next : (n : ℕ) (ls : List LimitRow) (known new : Option ℕ) → n ≤ length role → known ≡ least_until n ls
      → new ≡ least_at known consumed (limits_at (take n role) ls) label → new ≡ least_until (n + 1) ls
  least_next n ls known new few so_far next =
      next
      ∙ least_with-lesser known (map (room_under consumed label) (filter (λ l. is_named l.limit label) (limits_at (take n role) ls)))
      ∙ (λ i. lesser_of (so_far i) (least_prefix n ls i))
      ∙ sym (least_both (is_until n) (is_at n) (is_until (n + 1)) (until_one n few) ls)

  least_start : (ls : List LimitRow) → None ≡ least_until 0 ls
  least_start [] = refl
  least_start (l ∷ ls) =
      let none : nat_lt (length l.role) 0 ≡ false = grind (arith, nat_tests) in
      λ i. lesser_of (cond (sym none i && binds role label l) (Some (room_under consumed label l)) None) (least_start ls i)

  -- the empty prefix leaves everything, because the empty path has no limit
  pub least_begun : (ls : List LimitRow) → limits_at [] ls ≡ [] → None ≡ least_until 1 ls
  least_begun ls none =
      least_next 0 ls None None (omega arith) (least_start ls) (sym (ap (λ (at : List LimitRow). least_at None consumed at label) none))

  -- a role above another has at most as many parts
  until_end : (n : ℕ) → length role < n → (l : LimitRow) → is_until n l ≡ binds role label l
  until_end n all l = elim (cases_Bool (is_within l.role role)) [
    | inl within ↦
        let few = prefix_few l.role role within in
        let below : nat_lt (length l.role) n ≡ true = grind (arith, nat_tests) in
        ap (λ (b : Bool). b && binds role label l) below
    | inr past ↦
        (λ i. nat_lt (length l.role) n && (past i && is_named l.limit label))
        ∙ and_none (nat_lt (length l.role) n)
        ∙ (λ i. sym past i && is_named l.limit label)
  ]

  pub least_end : (n : ℕ) (ls : List LimitRow) → length role < n → least_until n ls ≡ headroom_under ls consumed role label
  least_end n ls all =
      least_agree (is_until n) (binds role label) (until_end n all) ls ∙ sym (least_all (binds role label) ls)
