-- Lemmas about `specs/EntitlementLaws.antt`.
use Rattle.std.specs.Prelude.{◌≡◌, ℕ, min, Bool, true, false, ◌&&◌, ◌||◌, List, [], ◌∷◌, fold, filter, flat_map, Option, Some, None, is_some, IsTrue, All}
use Rattle.std.specs.List.{list_any, reduce}
use Rattle.std.specs.Option.{option_map_or}
use Rattle.std.proofs.Common.{refl, sym, ap, ◌∙◌, inl, inr, cond, arith}
use Rattle.std.proofs.lemmas.Bool.{cases_Bool, and_parts}
use Rattle.std.proofs.lemmas.List.Elements.{All-head, All-tail}
use Rattle.drf_role.specs.Text.{Text, same_text}
use Rattle.drf_role.specs.Path.{Path, begins_with}
use Rattle.drf_role.specs.Parts.{parts_of, text_of}
use Rattle.drf_bundle.specs.Value.{Point, Thousandths, Number, Member, units_in}
use Rattle.drf_bundle.specs.Quantities.{amount_of, is_named, names_of}
use Rattle.drf_bundle.proofs.theorems.QuantitiesLaws.{named-with}
use Rattle.drf_bundle.specs.Bundle.{Key, IsResource, IsBundle, is_default, key_of, is_in_order, same_key, units, is_for, part_for, clip, clipped, cut}
use Rattle.drf_bundle.specs.laws.KeyLaws.{stands_first, unit_of, where-cons, unit-here, unit-none, units_first, same_key_true}
use Rattle.drf_bundle.proofs.theorems.PartLaws.{bundle-part_for, keeps-clipped, cut-falls}
use Rattle.drf_bundle.proofs.theorems.RestLaws.{where-changed-cons, where-changed-le}
use Rattle.drf_bundle.specs.declared.quantities.Entry.{Entry}
use Rattle.drf_bundle.specs.declared.resource.Resource.{Resource}
use Rattle.drf_bundle.specs.declared.value.Value.{Value}
use Rattle.drf_bundle.specs.declared.value.Value.TheVariants.{Scalar, Ranges, Items}
use Rattle.drf_bundle.proofs.ListLaws.{list_any-map}
use Rattle.drf_rows.specs.Quota.{Consumed, consumption, is_within, binds, headroom_under, headroom_at, limited_names, headroom, entitlement}
use Rattle.drf_row_laws.proofs.QuotaLaws.{put, named_put, any_append, no_text, rooms-here, rooms-past, for_everyone}
use Rattle.drf_rows.specs.declared.rows.LimitRow.{LimitRow}
use Rattle.drf_rows.specs.declared.rows.Rows.{Rows}
use Rattle.drf_row_laws.specs.EntitlementLaws.{units_for, EntitledByUnits}

-- ---- what a role can use

-- the key is unreserved, or reserved for the role or a role above it
abbrev is_key_for : Path → Key → Bool
is_key_for role key = same_text key.1 [] || begins_with role (parts_of key.1)

is_for-key : (role : Path) (r : Resource) → IsResource r → is_for role r ≡ is_key_for role (key_of r)
is_for-key role r is = elim (cases_Bool (is_default r.role)) [
  | inl default ↦ rw default refl
  | inr other ↦ rw (other, no_text r.role is.role other, is.role_read) refl
]

none_of : (b : Bool) → ◌≡◌ {A = ℕ} 0 (cond b 0 0)
none_of true = refl
none_of false = refl

units-part_for : (role : Path) (key : Key) (p : Point) (rs : List Resource) → All IsResource rs
    → units (part_for role rs) key p ≡ cond (is_key_for role key) (units rs key p) 0
units-part_for role key p [] each = none_of (is_key_for role key)
units-part_for role key p (r ∷ rs) each =
    let later = units-part_for role key p rs (All-tail IsResource r rs each) in
    let whole = where-cons (same_key key) p r rs in
    elim (cases_Bool (same_key key (key_of r))) [
      | inl here ↦
          let for_it : is_for role r ≡ is_key_for role key =
          is_for-key role r (All-head IsResource r rs each) ∙ ap (is_key_for role) (sym (same_key_true key (key_of r) here)) in
          elim (cases_Bool (is_key_for role key)) [
            | inl kept ↦
                rw (for_it ∙ kept, kept)
                (omega (arith, where-cons (same_key key) p r (part_for role rs), whole, later, ap (λ (b : Bool). cond b (units rs key p) 0) kept))
            | inr gone ↦ rw (for_it ∙ gone, gone) (later ∙ ap (λ (b : Bool). cond b (units rs key p) 0) gone)
          ]
      | inr past ↦
          let none : unit_of (same_key key) p r ≡ 0 = unit-none (same_key key) p r past in
          let same : units (r ∷ rs) key p ≡ units rs key p = omega (arith, whole, none) in
          let goal : units (part_for role (r ∷ rs)) key p ≡ units (part_for role rs) key p = elim (cases_Bool (is_for role r)) [
            | inl kept ↦ rw kept (omega (arith, where-cons (same_key key) p r (part_for role rs), none))
            | inr gone ↦ rw gone refl
          ] in
          goal ∙ later ∙ ap (λ n. cond (is_key_for role key) n 0) (sym same)
    ]

-- ---- cutting to limits

-- of n units at a key, how many the limits leave
abbrev cut_to : List Entry → Key → Point → ℕ → ℕ
cut_to limits (label, []) Thousandths n = cond (is_named limits label) (min n (amount_of limits label)) n
cut_to limits (label, []) (Number m) n = n
cut_to limits (label, []) (Member m) n = n
cut_to limits (label, byte ∷ bytes) p n = n

cut_to-nothing : (limits : List Entry) (key : Key) (p : Point) → cut_to limits key p 0 ≡ 0
cut_to-nothing limits (label, []) Thousandths = by (is_named limits label)
  where
    by : (b : Bool) → cond b (min 0 (amount_of limits label)) 0 ≡ 0
    by true = omega arith
    by false = refl
cut_to-nothing limits (label, []) (Number m) = refl
cut_to-nothing limits (label, []) (Member m) = refl
cut_to-nothing limits (label, byte ∷ bytes) p = refl

cut-units : (b : Bool) (limit : ℕ) (v : Value)
    → units_in (cut b limit v) Thousandths ≡ cond b (min (units_in v Thousandths) limit) (units_in v Thousandths)
cut-units true limit (Scalar t) = refl
cut-units false limit (Scalar t) = refl
cut-units true limit (Ranges a) = omega arith
cut-units false limit (Ranges a) = refl
cut-units true limit (Items a) = omega arith
cut-units false limit (Items a) = refl

uncut : (limit : ℕ) (v : Value) (p : Point) → units_in (cut false limit v) p ≡ units_in v p
uncut limit (Scalar t) p = refl
uncut limit (Ranges a) p = refl
uncut limit (Items a) p = refl

cut-numbers : (b : Bool) (limit : ℕ) (v : Value) (m : ℕ) → units_in (cut b limit v) (Number m) ≡ units_in v (Number m)
cut-numbers b limit (Scalar t) m = refl
cut-numbers b limit (Ranges a) m = refl
cut-numbers b limit (Items a) m = refl

cut-members : (b : Bool) (limit : ℕ) (v : Value) (m : Text) → units_in (cut b limit v) (Member m) ≡ units_in v (Member m)
cut-members b limit (Scalar t) m = refl
cut-members b limit (Ranges a) m = refl
cut-members b limit (Items a) m = refl

-- one resource at its key
units-clipped : (limits : List Entry) (r : Resource) (key : Key) (p : Point) → IsResource r → key ≡ key_of r
    → units_in (clipped limits r).value p ≡ cut_to limits key p (units_in r.value p)
units-clipped limits r (label, []) Thousandths is same =
    let default : is_default r.role ≡ true = for_everyone r.role is.role (sym (ap (λ (k : Key). k.1) same)) in
    let name : r.label ≡ label = sym (ap (λ (k : Key). k.0) same) in
    cut-units (is_default r.role && is_named limits r.label) (amount_of limits r.label) r.value
    ∙ (λ i. cond (default i && is_named limits (name i)) (min (units_in r.value Thousandths) (amount_of limits (name i))) (units_in r.value Thousandths))
units-clipped limits r (label, []) (Number m) is same =
    cut-numbers (is_default r.role && is_named limits r.label) (amount_of limits r.label) r.value m
units-clipped limits r (label, []) (Member m) is same =
    cut-members (is_default r.role && is_named limits r.label) (amount_of limits r.label) r.value m
units-clipped limits r (label, byte ∷ bytes) p is same = elim (cases_Bool (is_default r.role)) [
  | inl default ↦
      let none : byte ∷ bytes ≡ [] = ap (λ (k : Key). k.1) same ∙ ap (λ b. cond b [] (text_of r.role)) default in
      cc
  | inr other ↦
      ap (λ b. units_in (cut (b && is_named limits r.label) (amount_of limits r.label) r.value) p) other
      ∙ uncut (amount_of limits r.label) r.value p
]

units-clip : (limits : List Entry) (key : Key) (p : Point) (rs : List Resource) → IsTrue (is_in_order rs) → All IsResource rs
    → units (clip limits rs) key p ≡ cut_to limits key p (units rs key p)
units-clip limits key p [] ordered each = sym (cut_to-nothing limits key p)
units-clip limits key p (r ∷ rs) ordered each =
    let f : Resource → Resource = clipped limits in
    let parts = and_parts (stands_first (key_of r) rs) (is_in_order rs) ordered in
    let clips = where-changed-cons f (keeps-clipped limits) (same_key key) p r rs in
    let whole = where-cons (same_key key) p r rs in
    elim (cases_Bool (same_key key (key_of r))) [
      | inl here ↦
          let same : key ≡ key_of r = same_key_true key (key_of r) here in
          let none : units rs key p ≡ 0 = ap (λ (k : Key). units rs k p) same ∙ units_first (key_of r) rs p parts.0 in
          let fewer = where-changed-le f (keeps-clipped limits)
          (λ s q. cut-falls (is_default s.role && is_named limits s.label) (amount_of limits s.label) s.value q) (same_key key) p rs in
          let first : unit_of (same_key key) p (f r) ≡ units_in (f r).value p = unit-here (same_key key) p (f r) here in
          let its : unit_of (same_key key) p r ≡ units_in r.value p = unit-here (same_key key) p r here in
          let cut_one : units (clip limits (r ∷ rs)) key p ≡ units_in (f r).value p = omega (arith, clips, first, fewer, none) in
          let all : units (r ∷ rs) key p ≡ units_in r.value p = omega (arith, whole, its, none) in
          cut_one ∙ units-clipped limits r key p (All-head IsResource r rs each) same ∙ ap (cut_to limits key p) (sym all)
      | inr past ↦
          let first : unit_of (same_key key) p (f r) ≡ 0 = unit-none (same_key key) p (f r) past in
          let its : unit_of (same_key key) p r ≡ 0 = unit-none (same_key key) p r past in
          let cut_none : units (clip limits (r ∷ rs)) key p ≡ units (clip limits rs) key p = omega (arith, clips, first) in
          let all : units (r ∷ rs) key p ≡ units rs key p = omega (arith, whole, its) in
          cut_none ∙ units-clip limits key p rs parts.1 (All-tail IsResource r rs each) ∙ ap (cut_to limits key p) (sym all)
    ]

-- ---- the headroom names exactly the scalars that limits restrict

module _ (consumed : Consumed) (role : Path) (label : Text) where
  pub some_room : (ls : List LimitRow) → is_some (headroom_under ls consumed role label) ≡ list_any (binds role label) ls
  some_room [] = refl
  some_room (l ∷ ls) = elim (cases_Bool (binds role label l)) [
    | inl here ↦ ap (λ ns. is_some (reduce min ns)) (rooms-here consumed role label l ls here) ∙ sym (ap (λ b. b || list_any (binds role label) ls) here)
    | inr past ↦
        ap (λ ns. is_some (reduce min ns)) (rooms-past consumed role label l ls past) ∙ some_room ls
        ∙ sym (ap (λ b. b || list_any (binds role label) ls) past)
  ]

  pub limited-binds : (ls : List LimitRow) → list_any (λ n. same_text n label) (limited_names ls role) ≡ list_any (binds role label) ls
  limited-binds [] = refl
  limited-binds (l ∷ ls) = by (is_within l.role role) (limited-binds ls)
    where
      by : (b : Bool) → list_any (λ n. same_text n label) (limited_names ls role) ≡ list_any (binds role label) ls
          → list_any (λ n. same_text n label) (flat_map (λ (m : LimitRow). names_of m.limit)
          (cond b (l ∷ filter (λ m. is_within m.role role) ls) (filter (λ m. is_within m.role role) ls)))
          ≡ ((b && is_named l.limit label) || list_any (binds role label) ls)
      by true later =
          any_append (λ n. same_text n label) (names_of l.limit) (limited_names ls role)
          ∙ (λ i. list_any-map (λ n. same_text n label) (λ (e : Entry). e.label) l.limit i || later i)
      by false later = later

pub named-puts : (v : Text → ℕ) (label : Text) (room : List Entry) (ns : List Text)
    → is_named (fold (put v label) room ns) label ≡ (is_named room label || list_any (λ n. same_text n label) ns)
named-puts v label room [] = or_nothing (is_named room label)
  where
    or_nothing : (b : Bool) → b ≡ (b || false)
    or_nothing true = refl
    or_nothing false = refl
named-puts v label room (n ∷ ns) =
    named-puts v label (put v label room n) ns
    ∙ ap (λ b. b || list_any (λ n. same_text n label) ns) (named-with room n (v n) label)
    ∙ turned (same_text n label) (is_named room label) (list_any (λ n. same_text n label) ns)
  where
    turned : (a b c : Bool) → ((a || b) || c) ≡ (b || (a || c))
    turned true true c = refl
    turned true false c = refl
    turned false true c = refl
    turned false false c = refl

-- a scalar is cut to its headroom, if it has one
cut-headroom : (rows : Rows) (role : Path) (label : Text) (n : ℕ)
    → cond (is_named (headroom rows role) label) (min n (amount_of (headroom rows role) label)) n
    ≡ option_map_or (min n) (headroom_at rows role label) n
cut-headroom rows role label n = by (headroom_at rows role label) refl
  where
    value : Text → ℕ
    value name = option_map_or (λ m. m) (headroom_at rows role name) 0

    names : list_any (λ n. same_text n label) (limited_names rows.limits role) ≡ is_some (headroom_at rows role label)
    names = limited-binds (consumption rows) role label rows.limits ∙ sym (some_room (consumption rows) role label rows.limits)

    named : is_named (headroom rows role) label ≡ is_some (headroom_at rows role label)
    named = named-puts value label [] (limited_names rows.limits role) ∙ names

    by : (o : Option ℕ) → headroom_at rows role label ≡ o
        → cond (is_named (headroom rows role) label) (min n (amount_of (headroom rows role) label)) n ≡ option_map_or (min n) o n
    by None is = ap (λ b. cond b (min n (amount_of (headroom rows role) label)) n) (named ∙ ap is_some is)
    by (Some m) is =
        let its = named_put value label [] (limited_names rows.limits role) (names ∙ ap is_some is) in
        let room : amount_of (headroom rows role) label ≡ m = its.1 ∙ ap (λ (o : Option ℕ). option_map_or (λ m. m) o 0) is in
        ap (λ b. cond b (min n (amount_of (headroom rows role) label)) n) (named ∙ ap is_some is) ∙ ap (min n) room

-- ---- both

pub entitled_by_units : EntitledByUnits
entitled_by_units rows free client key p is = both ∙ by key p
  where
    role : Path
    role = client.role

    part : IsBundle (part_for client.role free)
    part = bundle-part_for client.role free is

    both : units (entitlement rows free client) key p
        ≡ cut_to (headroom rows client.role) key p (cond (is_key_for client.role key) (units free key p) 0)
    both =
        units-clip (headroom rows client.role) key p (part_for client.role free) part.in_order part.each
        ∙ ap (cut_to (headroom rows client.role) key p) (units-part_for client.role key p free is.each)

    by : (key : Key) (p : Point)
        → cut_to (headroom rows client.role) key p (cond (is_key_for client.role key) (units free key p) 0)
        ≡ units_for rows client.role key p (units free key p)
    by (label, []) Thousandths = cut-headroom rows client.role label (units free (label, []) Thousandths)
    by (label, []) (Number m) = refl
    by (label, []) (Member m) = refl
    by (label, byte ∷ bytes) q = refl
