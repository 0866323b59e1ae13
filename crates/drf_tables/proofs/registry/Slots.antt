-- Entries with names in slots, of which some are free.
use Rattle.std.proofs.Common.{◌≡◌, ◌<◌, ℕ, zero, suc, true, false, not, refl, List, [], ◌∷◌, Option, None, Some, is_some, Result, Ok, Err, OnOk, length, get_or, set, take, slice_get, ap, ◌∙◌, sym, arith}
use Rattle.std.specs.Cmp.Lexicographic.{bytes_decides}
use Rattle.std.specs.List.{AllByRecursion, IsDistinct, list_all}
use Rattle.std.specs.Map.{lookup, keys_of}
use Rattle.std.proofs.lemmas.Bool.{and_from}
use Rattle.std.proofs.lemmas.Cmp.{nat_list_eq_equiv}
use Rattle.std.proofs.lemmas.List.{get_or_default}
use Rattle.std.proofs.lemmas.Map.Entries.{lookup_from_place}
use Rattle.std.proofs.lemmas.Map.Keys.{IsDistinct-head, IsDistinct-tail}
use Rattle.drf_hash.proofs.SlotLaws.{IsIn, filled-short, read_is, slot-known, slot_found}
use Rattle.drf_tables.proofs.tables.Names.{set_value_at, Resource, filled, Text, same_text, are_distinct, name_of, slot_of, with_free_at, IsRanked, Agent}
use Rattle.drf_tables.proofs.registry.Entries.{any-lookup}

abbrev pub Entry : Type 0 → Type 0
Entry A = Text × A

abbrev pub Slots : Type 0 → Type 0
Slots A = List (Option (Entry A))

-- a consequence of a postcondition on success holds on success
pub ok_then : {T E : Type 0} (r : Result T E) {P R : Type 0} → OnOk r P → (P → R) → OnOk r R
ok_then (Ok x) on so = so on
ok_then (Err e) on so = tt

-- ---- finding an entry

-- a name is found in a slot, and the entry there has it
pub record IsFound {A : Type 0} (name : Text) (slots : Slots A) (i : ℕ) : Type 0 where
  pub found : slot_of same_text name_of name slots ≡ Some i
  pub here : IsIn name_of name slots i

pub found_in : {A : Type 0} (name : Text) (slots : Slots A) (i : ℕ) → slot_of same_text name_of name slots ≡ Some i → IsFound name slots i
found_in name slots i found = record { found = found; here = slot_found same_text bytes_decides name_of name slots i found }

-- a name is found in slots exactly if an entry has it
pub slot-looked_up : {A : Type 0} (name : Text) (slots : Slots A)
    → is_some (slot_of same_text name_of name slots) ≡ is_some (lookup (same_text name) (filled slots))
slot-looked_up name slots = slot-known same_text bytes_decides name_of name slots ∙ any-lookup name (filled slots)

pub slot_none : {A : Type 0} (name : Text) (slots : Slots A) → slot_of same_text name_of name slots ≡ None → lookup (same_text name) (filled slots) ≡ None
slot_none {A} name slots none = by (lookup (same_text name) (filled slots)) (sym (slot-looked_up name slots) ∙ ap (λ (o : Option ℕ). is_some o) none)
  where
    by : (o : Option A) → is_some o ≡ false → o ≡ None
    by None is = refl
    by (Some a) is = cc

-- ---- no free slots

pub ranked-full : {A : Type 0} (slots : Slots A) (i : ℕ) → length (filled slots) ≡ length slots → i < length slots → IsRanked slots i i
ranked-full [] i full within = absurd (omega (arith, within))
ranked-full (None ∷ slots) i full within = absurd (omega (arith, full, filled-short slots))
ranked-full (Some e ∷ slots) zero full within = record { entry = e; there = refl; before = refl }
ranked-full (Some e ∷ slots) (suc i) full within =
    let later = ranked-full slots i (omega (arith, full)) (omega (arith, within)) in
    let before = later.before in
    record { entry = later.entry; there = later.there; before = omega (arith, before) }

-- ---- one more slot

pub ranked_here : {A : Type 0} (slots : Slots A) (i : ℕ) (slot : Option (Entry A)) (number : ℕ) → i < length slots → slot ≡ get_or slots i slot → is_some slot ≡ true
    → length (filled (take i slots)) ≡ number → IsRanked slots number i
ranked_here slots i None number below read is before = cc
ranked_here slots i (Some e) number below read is before =
    record { entry = e; there = get_or_default slots i None (Some e) below ∙ sym read; before = before }

-- ---- the entry at a place

pub filled_at : {A : Type 0} (slots : Slots A) (i : ℕ) (e : Entry A) → get_or slots i None ≡ Some e → slice_get (filled slots) (length (filled (take i slots))) ≡ Some e
filled_at [] i e at = cc
filled_at {A} (s ∷ slots) zero e at = by s at
  where
    by : (s : Option (Entry A)) → s ≡ Some e → slice_get (filled (s ∷ slots)) 0 ≡ Some e
    by None is = cc
    by (Some f) is = is
filled_at (None ∷ slots) (suc i) e at = filled_at slots i e at
filled_at (Some f ∷ slots) (suc i) e at = filled_at slots i e at

pub filled_set : {A : Type 0} (slots : Slots A) (i : ℕ) (e : Entry A) (w : A) → get_or slots i None ≡ Some e
    → filled (set slots i (Some (e.0, w))) ≡ set_value_at (filled slots) (length (filled (take i slots))) w
filled_set [] i e w at = cc
filled_set (None ∷ slots) zero e w at = cc
filled_set (Some f ∷ slots) zero e w at =
    let same : f ≡ e = cc in
    λ j. ((sym same j).0, w) ∷ filled slots
filled_set (None ∷ slots) (suc i) e w at = filled_set slots i e w at
filled_set (Some f ∷ slots) (suc i) e w at = ap (λ (es : List (Entry _)). f ∷ es) (filled_set slots i e w at)

pub written_free : (es : List (Entry Agent)) (i : ℕ) (e : Entry Agent) (free : List Resource) → slice_get es i ≡ Some e
    → set_value_at es i (record e.1 { free = Some free }) ≡ with_free_at es i free
written_free [] i e free at = cc
written_free (f ∷ es) zero e free at =
    let same : f ≡ e = cc in
    λ j. (f.0, record (sym same j).1 { free = Some free }) ∷ es
written_free (f ∷ es) (suc i) e free at = ap (λ (fs : List (Entry _)). f ∷ fs) (written_free es i e free at)

-- the entry in the slot of a name has the name
pub named_at : {A : Type 0} (name : Text) (slots : Slots A) (i : ℕ) (e : Entry A) → IsFound name slots i → get_or slots i None ≡ Some e → e.0 ≡ name
named_at name slots i e at there =
    let its = at.here.there in
    let same : at.here.entry ≡ e = cc in
    (λ j. (sym same j).0) ∙ at.here.named

-- a look-up among the entries finds it
pub value_found : {A : Type 0} (name : Text) (slots : Slots A) (i : ℕ) (e : Entry A) → IsDistinct same_text (keys_of (filled slots))
    → IsFound name slots i → get_or slots i None ≡ Some e → lookup (same_text name) (filled slots) ≡ Some e.1
value_found name slots i e apart at there =
    lookup_from_place nat_list_eq_equiv (filled slots) (length (filled (take i slots))) name e.1 apart
    (filled_at slots i e there ∙ (λ j. Some (named_at name slots i e at there j, e.1)))

-- ---- slots that are read

pub read_slot : {A : Type 0} (slots : Slots A) (i : ℕ) (x : Option (Entry A)) (e : Entry A) → i < length slots → x ≡ get_or slots i x → x ≡ Some e
    → get_or slots i None ≡ Some e
read_slot slots i x e below read is = get_or_default slots i None x below ∙ sym read ∙ is

pub no_free_slot : {A : Type 0} (slots : Slots A) (i : ℕ) (x : Option (Entry A)) (e : Entry A) → i < length slots → x ≡ get_or slots i x → get_or slots i None ≡ Some e
    → x ≡ None → ⊥
no_free_slot slots i x e below read there none =
    let wrong : ◌≡◌ {A = Option (Entry _)} None (Some e) = sym none ∙ read_is slots i x e below read there in
    cc

pub slot-below : {A : Type 0} (slots : Slots A) (i : ℕ) (e : Entry A) → get_or slots i None ≡ Some e → i < length slots
slot-below [] i e there = cc
slot-below (s ∷ slots) zero e there = omega arith
slot-below (s ∷ slots) (suc i) e there = omega (arith, slot-below slots i e there)

-- ---- names

-- distinct names pass the test
pub names_apart : (names : List Text) → IsDistinct same_text names → are_distinct names ≡ true
names_apart [] apart = refl
names_apart (n ∷ names) apart =
    and_from (list_all (λ m. not (same_text n m)) names) (are_distinct names)
    (others names (IsDistinct-head same_text n names apart)) (names_apart names (IsDistinct-tail same_text n names apart))
  where
    others : (ms : List Text) → AllByRecursion (λ m. same_text n m ≡ false) ms → list_all (λ m. not (same_text n m)) ms ≡ true
    others [] none = refl
    others (m ∷ ms) none = rw none.0 (others ms none.1)
