-- Limits as rows, and what they leave, limit by limit.
use Rattle.std.specs.Prelude.{◌≡◌, ℕ, min, nat_le, Bool, true, false, ◌&&◌, List, [], ◌∷◌, ◌++◌, map, filter, fold, length, Some}
use Rattle.std.specs.List.{reduce, AllByRecursion, IsDistinct}
use Rattle.std.specs.Option.{option_map_or}
use Rattle.std.specs.Map.{keys_of, lookup, remove_entry}
use Rattle.std.proofs.Common.{refl, sym, ap, ◌∙◌, inl, inr, cond, arith}
use Rattle.std.proofs.lemmas.Bool.{cases_Bool}
use Rattle.std.proofs.lemmas.Bool.Decides.{nat_tests}
use Rattle.std.proofs.lemmas.Map.Keys.{IsDistinct-head, IsDistinct-tail}
use Rattle.indexmap.specs.IndexMap.{insert_entry}
use Rattle.drf_role.specs.Text.{Text}
use Rattle.drf_role.specs.Path.{Path, same_path}
use Rattle.drf_role.proofs.PathLaws.{same_path-swap}
use Rattle.drf_bundle.specs.declared.quantities.Entry.{Entry}
use Rattle.drf_rows.specs.Quota.{Consumed, is_within, binds, room_under, headroom_under, headrooms, limit_of, limits_put, limits_without, limits_with, headroom_at, headroom, admits_under, admits}
use Rattle.drf_rows.specs.declared.rows.LimitRow.{LimitRow}
use Rattle.drf_rows.specs.declared.rows.Rows.{Rows}
use Rattle.drf_gates.specs.quota.Allowance.{Allowance, IsAllowanceOf, limit_row, limit_rows, used_at}

-- ---- the table of limits

pub limit_found : (role : Path) (es : List (Path × List Entry)) → lookup (same_path role) es ≡ limit_of (limit_rows es) role
limit_found role [] = refl
limit_found role (e ∷ es) =
    λ i. cond (same_path-swap role e.0 i) (Some e.1) (limit_found role es i)

pub limit_put : (es : List (Path × List Entry)) (role : Path) (limit : List Entry)
    → limit_rows (insert_entry same_path es role limit) ≡ limits_put (limit_rows es) role limit
limit_put [] role limit = refl
limit_put (e ∷ es) role limit =
    let test = same_path-swap e.0 role in
    elim (cases_Bool (same_path role e.0)) [
      | inl same ↦ rw (test ∙ same, same) refl
      | inr other ↦ rw (test ∙ other, other) (ap (λ ls. limit_row e ∷ ls) (limit_put es role limit))
    ]

pub limit_gone : (es : List (Path × List Entry)) (role : Path)
    → limit_rows (remove_entry (same_path role) es) ≡ limits_without (limit_rows es) role
limit_gone [] role = refl
limit_gone (e ∷ es) role =
    let test = same_path-swap e.0 role in
    elim (cases_Bool (same_path role e.0)) [
      | inl same ↦ rw (test ∙ same, same) refl
      | inr other ↦ rw (test ∙ other, other) (ap (λ ls. limit_row e ∷ ls) (limit_gone es role))
    ]

pub limits_with-some : (limits : List LimitRow) (role : Path) (limit : List Entry) → (length limit ≡ 0 → ⊥)
    → limits_put limits role limit ≡ limits_with limits role limit
limits_with-some limits role [] some = absurd (some refl)
limits_with-some limits role (e ∷ es) some = refl

pub limits_with-none : (limits : List LimitRow) (role : Path) (limit : List Entry) → length limit ≡ 0
    → limits_without limits role ≡ limits_with limits role limit
limits_with-none limits role [] none = refl
limits_with-none limits role (e ∷ es) none = absurd (omega (arith, none))

-- no role has two limits, so a later limit is that of another role
role_apart : (role : Path) (e : Path × List Entry) (es : List (Path × List Entry)) (limit : List Entry) (rest : List (Path × List Entry))
    → AllByRecursion (λ y. same_path e.0 y ≡ false) (keys_of (es ++ (role, limit) ∷ rest)) → same_path role e.0 ≡ false
role_apart role e [] limit rest none = same_path-swap role e.0 ∙ none.0
role_apart role e (x ∷ xs) limit rest none = role_apart role e xs limit rest none.1

pub limit_to_come : (es : List (Path × List Entry)) (role : Path) (limit : List Entry) (rest : List (Path × List Entry))
    → IsDistinct same_path (keys_of (es ++ (role, limit) ∷ rest)) → insert_entry same_path es role limit ≡ es ++ (role, limit) ∷ []
limit_to_come [] role limit rest apart = refl
limit_to_come (e ∷ es) role limit rest apart =
    let other = role_apart role e es limit rest (IsDistinct-head same_path e.0 (keys_of (es ++ (role, limit) ∷ rest)) apart) in
    rw other (ap (λ (xs : List (Path × List Entry)). e ∷ xs)
    (limit_to_come es role limit rest (IsDistinct-tail same_path e.0 (keys_of (es ++ (role, limit) ∷ rest)) apart)))

-- ---- the room under each limit

-- the least of some numbers is at least `least` if each of them is
least_enough : (least n : ℕ) (ns : List ℕ) → nat_le least (fold min n ns) ≡ (nat_le least n && option_map_or (nat_le least) (reduce min ns) true)
least_enough least n [] = by (nat_le least n)
  where
    by : (b : Bool) → b ≡ (b && true)
    by true = refl
    by false = refl
least_enough least n (m ∷ ms) =
    least_enough least (min n m) ms
    ∙ by (nat_le least (min n m)) (nat_le least n) (nat_le least m) (option_map_or (nat_le least) (reduce min ms) true) (lesser_enough n m)
    ∙ ap (λ b. nat_le least n && b) (sym (least_enough least m ms))
  where
    lesser_enough : (a b : ℕ) → nat_le least (min a b) ≡ (nat_le least a && nat_le least b)
    lesser_enough a b = grind (arith, nat_tests)

    by : (both one other more : Bool) → both ≡ (one && other) → (both && more) ≡ (one && (other && more))
    by both true other more same = ap (λ b. b && more) same
    by both false other more same = ap (λ b. b && more) same

module _ (consumed : Consumed) (role : Path) (label : Text) (least : ℕ) where
  -- whether the limits from here on leave at least `least`
  abbrev pub leaves_from : List LimitRow → Bool
  leaves_from ls = option_map_or (nat_le least) (headroom_under ls consumed role label) true

  pub leaves_past : (l : LimitRow) (ls : List LimitRow) → binds role label l ≡ false → leaves_from ls ≡ leaves_from (l ∷ ls)
  leaves_past l ls past =
      ap (λ (b : Bool). option_map_or (nat_le least) (reduce min (map (room_under consumed label) (cond b (l ∷ filter (binds role label) ls) (filter (binds role label) ls)))) true) (sym past)

  pub leaves_both : (l : LimitRow) (ls : List LimitRow) → binds role label l ≡ true
      → (nat_le least (room_under consumed label l) && leaves_from ls) ≡ leaves_from (l ∷ ls)
  leaves_both l ls here =
      sym (least_enough least (room_under consumed label l) (map (room_under consumed label) (filter (binds role label) ls)))
      ∙ ap (λ (b : Bool). option_map_or (nat_le least) (reduce min (map (room_under consumed label) (cond b (l ∷ filter (binds role label) ls) (filter (binds role label) ls)))) true) (sym here)

-- ---- for given rows, the results are the definition's

module _ (rows : Rows) (a : Allowance) (its : IsAllowanceOf rows a) (role : Path) where
  pub headroom_at-its : (label : Text) → headroom_under a.limits (used_at a.used) role label ≡ headroom_at rows role label
  headroom_at-its label = λ i. headroom_under (its.limits i) (λ r l. its.used (is_within r) l i) role label

  pub headroom-its : headrooms a.limits (used_at a.used) role ≡ headroom rows role
  headroom-its = λ i. headrooms (its.limits i) (λ r l. its.used (is_within r) l i) role

  pub admits-its : (amounts : List Entry) → admits_under a.limits (used_at a.used) role amounts ≡ admits rows role amounts
  admits-its amounts = λ i. admits_under (its.limits i) (λ r l. its.used (is_within r) l i) role amounts

  pub leaves-its : (label : Text) (least : ℕ) → option_map_or (nat_le least) (headroom_under a.limits (used_at a.used) role label) true
      ≡ option_map_or (nat_le least) (headroom_at rows role label) true
  leaves-its label least = ap (λ o. option_map_or (nat_le least) o true) (headroom_at-its label)
