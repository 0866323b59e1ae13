-- The limits that bind a role pass a test if and only if those of its prefixes do.
use Rattle.std.proofs.Common.{◌≡◌, ℕ, ◌+◌, ◌<◌, ◌≤◌, Bool, true, false, not, ◌&&◌, ◌||◌, cond, nat_le, List, [], ◌∷◌, filter, length, take, refl, sym, ap, ◌∙◌, inl, inr, arith, length-take-le}
use Rattle.std.specs.List.{list_all}
use Rattle.std.proofs.lemmas.Bool.{cases_Bool, and_parts}
use Rattle.std.proofs.lemmas.List.{length-take}
use Rattle.drf_role.specs.Text.{Text}
use Rattle.drf_role.specs.Path.{Path, same_path}
use Rattle.drf_role.specs.PathLaws.{same_path-true, same_path_itself}
use Rattle.drf_role.proofs.PathLaws.{same_path-swap}
use Rattle.drf_bundle.specs.Quantities.{is_named}
use Rattle.drf_rows.specs.Quota.{Consumed, is_within, binds, room_under}
use Rattle.drf_rows.specs.declared.rows.LimitRow.{LimitRow}
use Rattle.drf_gates.specs.quota.Prefix.{prefix_leaves, prefix_passes, limits_at, passes_one}
use Rattle.drf_gates.proofs.quota.Rows.{leaves_both, leaves_from, leaves_past}

-- ---- the role and the roles above it are the prefixes

-- a role above another is a prefix of it
pub prefix_there : (outer role : Path) → is_within outer role ≡ true → same_path (take (length outer) role) outer ≡ true
prefix_there outer role within = same_path-swap (take (length outer) role) outer ∙ within

pub prefix_few : (outer role : Path) → is_within outer role ≡ true → length outer < length role + 1
prefix_few outer role within =
    let size = ap (λ (p : Path). length p) (same_path-true outer (take (length outer) role) within) in
    omega (arith, size, length-take (length outer) role)

-- a prefix of a role is such a role
pub prefix_within : (outer role : Path) (n : ℕ) → n ≤ length role → same_path (take n role) outer ≡ true → is_within outer role ≡ true
prefix_within outer role n few same =
    let its : take n role ≡ outer = same_path-true (take n role) outer same in
    let size : length outer ≡ n = sym (ap (λ (p : Path). length p) its) ∙ length-take-le n role few in
    (λ i. same_path (sym its i) (take (size i) role)) ∙ same_path_itself (take n role)

module _ (test : LimitRow → Bool) (role : Path) (label : Text) where
  -- whether the limits that bind the role pass the test
  abbrev pub all_pass : List LimitRow → Bool
  all_pass ls = list_all test (filter (binds role label) ls)

  pass_past : (l : LimitRow) (ls : List LimitRow) → binds role label l ≡ false → all_pass ls ≡ all_pass (l ∷ ls)
  pass_past l ls past = ap (λ (b : Bool). list_all test (cond b (l ∷ filter (binds role label) ls) (filter (binds role label) ls))) (sym past)

  pass_both : (l : LimitRow) (ls : List LimitRow) → binds role label l ≡ true → (test l && all_pass ls) ≡ all_pass (l ∷ ls)
  pass_both l ls here = ap (λ (b : Bool). list_all test (cond b (l ∷ filter (binds role label) ls) (filter (binds role label) ls))) (sym here)

  rest_passes : (n : ℕ) (l : LimitRow) (ls : List LimitRow) → prefix_passes test role label n (l ∷ ls) ≡ true → prefix_passes test role label n ls ≡ true
  rest_passes n l ls all = by (same_path (take n role) l.role) all
    where
      by : (b : Bool) → list_all (passes_one test label) (cond b (l ∷ limits_at (take n role) ls) (limits_at (take n role) ls)) ≡ true
          → prefix_passes test role label n ls ≡ true
      by true both = (and_parts (passes_one test label l) (prefix_passes test role label n ls) both).1
      by false rest = rest

  first_passes : (n : ℕ) (l : LimitRow) (ls : List LimitRow) → prefix_passes test role label n (l ∷ ls) ≡ true → same_path (take n role) l.role ≡ true
      → passes_one test label l ≡ true
  first_passes n l ls all here = by (same_path (take n role) l.role) here all
    where
      by : (b : Bool) → b ≡ true
          → list_all (passes_one test label) (cond b (l ∷ limits_at (take n role) ls) (limits_at (take n role) ls)) ≡ true
          → passes_one test label l ≡ true
      by true is both = (and_parts (passes_one test label l) (prefix_passes test role label n ls) both).0
      by false is rest = cc

  -- if each prefix passes the test, all limits do
  pub prefixes_pass : (ls : List LimitRow) → ((n : ℕ) → n < length role + 1 → prefix_passes test role label n ls ≡ true) → true ≡ all_pass ls
  prefixes_pass [] all = refl
  prefixes_pass (l ∷ ls) all =
      let rest = prefixes_pass ls (λ n few. rest_passes n l ls (all n few)) in
      elim (cases_Bool (binds role label l)) [
        | inl here ↦
            let parts = and_parts (is_within l.role role) (is_named l.limit label) here in
            let one = first_passes (length l.role) l ls (all (length l.role) (prefix_few l.role role parts.0)) (prefix_there l.role role parts.0) in
            let its : test l ≡ true = ap (λ (b : Bool). not b || test l) (sym parts.1) ∙ one in
            rest ∙ ap (λ (b : Bool). b && all_pass ls) (sym its) ∙ pass_both l ls here
        | inr past ↦ rest ∙ pass_past l ls past
      ]

  -- if one prefix does not, not all limits do
  fails_more : (l : LimitRow) (ls : List LimitRow) → false ≡ all_pass ls → false ≡ all_pass (l ∷ ls)
  fails_more l ls fails =
      elim (cases_Bool (binds role label l)) [
        | inl here ↦ none (test l) ∙ ap (λ (b : Bool). test l && b) fails ∙ pass_both l ls here
        | inr past ↦ fails ∙ pass_past l ls past
      ]
    where
      none : (b : Bool) → false ≡ (b && false)
      none true = refl
      none false = refl

  one_fails : (l : LimitRow) (n : ℕ) → n ≤ length role → same_path (take n role) l.role ≡ true → passes_one test label l ≡ false
      → (binds role label l ≡ true) × (test l ≡ false)
  one_fails l n few here fails = by (is_named l.limit label) (test l) refl refl fails
    where
      by : (named passes : Bool) → is_named l.limit label ≡ named → test l ≡ passes → (not named || passes) ≡ false
          → (binds role label l ≡ true) × (test l ≡ false)
      by true false is_one fails' same = ((λ i. prefix_within l.role role n few here i && is_one i), fails')
      by true true is_one passes same = cc
      by false passes is_one is same = cc

  pub prefix_fails : (ls : List LimitRow) (n : ℕ) → n ≤ length role → prefix_passes test role label n ls ≡ false → false ≡ all_pass ls
  prefix_fails [] n few fails = sym fails
  prefix_fails (l ∷ ls) n few fails =
      by (same_path (take n role) l.role) (passes_one test label l) refl refl fails (prefix_fails ls n few)
    where
      by : (here passes : Bool) → same_path (take n role) l.role ≡ here → passes_one test label l ≡ passes
          → list_all (passes_one test label) (cond here (l ∷ limits_at (take n role) ls) (limits_at (take n role) ls)) ≡ false
          → (prefix_passes test role label n ls ≡ false → false ≡ all_pass ls)
          → false ≡ all_pass (l ∷ ls)
      by true true here passes both more =
          fails_more l ls (more (ap (λ (b : Bool). b && prefix_passes test role label n ls) (sym passes) ∙ both))
      by true false here fails' both more =
          let one = one_fails l n few here fails' in
          ap (λ (b : Bool). b && all_pass ls) (sym one.1) ∙ pass_both l ls one.0
      by false passes past is rest more = fails_more l ls (more rest)

  -- the empty prefix passes the test, because the empty path has no limit
  pub none_passes : (ls : List LimitRow) → limits_at [] ls ≡ [] → (n : ℕ) → n < 1 → prefix_passes test role label n ls ≡ true
  none_passes ls none n few =
      let zero : n ≡ 0 = omega (arith, few) in
      ap (λ (m : ℕ). prefix_passes test role label m ls) zero ∙ ap (λ (at : List LimitRow). list_all (passes_one test label) at) none

-- ---- the least room under the limits

module _ (consumed : Consumed) (role : Path) (label : Text) (least : ℕ) where
  abbrev leaves : LimitRow → Bool
  leaves l = nat_le least (room_under consumed label l)

  leaves_all : (ls : List LimitRow) → all_pass leaves role label ls ≡ leaves_from consumed role label least ls
  leaves_all [] = refl
  leaves_all (l ∷ ls) = elim (cases_Bool (binds role label l)) [
    | inl here ↦
        sym (pass_both leaves role label l ls here) ∙ ap (λ (b : Bool). leaves l && b) (leaves_all ls)
        ∙ leaves_both consumed role label least l ls here
    | inr past ↦ sym (pass_past leaves role label l ls past) ∙ leaves_all ls ∙ leaves_past consumed role label least l ls past
  ]

  pub prefixes_leave : (ls : List LimitRow) → ((n : ℕ) → n < length role + 1 → prefix_leaves consumed role label least n ls ≡ true)
      → true ≡ leaves_from consumed role label least ls
  prefixes_leave ls all = prefixes_pass leaves role label ls all ∙ leaves_all ls

  pub prefix_little : (ls : List LimitRow) (n : ℕ) → n ≤ length role → prefix_leaves consumed role label least n ls ≡ false
      → false ≡ leaves_from consumed role label least ls
  prefix_little ls n few little = prefix_fails leaves role label ls n few little ∙ leaves_all ls
