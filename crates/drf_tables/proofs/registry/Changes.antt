-- Changes of entries in slots that are found by name.
use Rattle.std.proofs.Common.{◌≡◌, ◌+◌, ◌<◌, ℕ, Bool, refl, List, [], ◌∷◌, ◌++◌, Option, None, Some, map, length, drop, get_or, set, ap, ◌∙◌, sym, subst}
use Rattle.std.specs.Cmp.Lexicographic.{bytes_decides}
use Rattle.std.specs.Option.{option_map}
use Rattle.std.proofs.lemmas.List.{drop_more, map-append}
use Rattle.std.proofs.lemmas.List.Sums.{sum_by-append}
use Rattle.drf_tables.proofs.tables.Names.{filled, Text, same_text, Path, reserved_for, reserved_in, AgentRow, changed, agent_row, name_of, slot_of, IsRegistry, Agent}
use Rattle.drf_hash.proofs.SlotLaws.{filled-changed, read_is, registry-set}
use Rattle.drf_tables.proofs.registry.Entries.{changed_none}
use Rattle.drf_tables.proofs.registry.Slots.{Entry, Slots, IsFound, slot_none}

-- an entry is replaced by another one of its name
pub registry_with : {A : Type 0} (slots : Slots A) (places : List (Text × ℕ)) (live i : ℕ) (e : Entry A) (w : A) (slot : Option (Entry A))
    → IsRegistry same_text name_of slots places live → get_or slots i None ≡ Some e → slot ≡ Some (e.0, w)
    → IsRegistry same_text name_of (set slots i slot) places live
registry_with slots places live i e w slot known there is =
    subst (λ (s : Option (Entry _)). IsRegistry same_text name_of (set slots i s) places live) (sym is)
    (registry-set same_text bytes_decides name_of slots places live i e (e.0, w) known there refl)

-- the slot of a name was read and written
pub record IsRewritten {A : Type 0} (name : Text) (slots new : Slots A) (places : List (Text × ℕ)) (live : ℕ) (old a : A) : Type 0 where
  pub registry : IsRegistry same_text name_of new places live
  pub entries : (change : A → A) → change old ≡ a → filled new ≡ map (changed name change) (filled slots)

pub rewritten : {A : Type 0} (name : Text) (slots : Slots A) (places : List (Text × ℕ)) (live i : ℕ) (e : Entry A) (g : A → A) (x slot : Option (Entry A))
    → IsRegistry same_text name_of slots places live → IsFound name slots i → get_or slots i None ≡ Some e → x ≡ get_or slots i x
    → slot ≡ option_map (λ (f : Entry A). (f.0, g f.1)) x → IsRewritten name slots (set slots i slot) places live e.1 (g e.1)
rewritten name slots places live i e g x slot known at there read put =
    let is : slot ≡ Some (e.0, g e.1) = put ∙ ap (option_map (λ (f : Entry _). (f.0, g f.1))) (read_is slots i x e at.here.below read there) in
    record {
      registry = registry_with slots places live i e (g e.1) slot known there is;
      entries = λ change same.
          (λ j. filled (set slots i ((is ∙ (λ k. Some (e.0, sym same k))) j)))
          ∙ filled-changed same_text bytes_decides name_of name (λ (f : Entry _). (f.0, change f.1)) slots i e known.apart at.found there;
    }

-- if no entry has the name, nothing changes
pub unchanged_slots : {A : Type 0} (name : Text) (change : A → A) (slots : Slots A) → slot_of same_text name_of name slots ≡ None
    → filled slots ≡ map (changed name change) (filled slots)
unchanged_slots name change slots none = changed_none name change (filled slots) (slot_none name slots none)

-- ---- what agents have reserved, slot by slot

filled-cons : (slot : Option (Entry Agent)) (slots : Slots Agent) → filled (slot ∷ slots) ≡ filled (slot ∷ []) ++ filled slots
filled-cons None slots = refl
filled-cons (Some e) slots = refl

pub reserved-next : (slots : Slots Agent) (i : ℕ) (slot : Option (Entry Agent)) (test : Path → Bool) (label : Text) → i < length slots → slot ≡ get_or slots i slot
    → reserved_for test (map agent_row (filled (drop i slots))) label
    ≡ reserved_for test (map agent_row (filled (slot ∷ []))) label + reserved_for test (map agent_row (filled (drop (i + 1) slots))) label
reserved-next slots i slot test label below read =
    let later : Slots Agent = drop (i + 1) slots in
    let reserved : List AgentRow → ℕ = λ rows. reserved_for test rows label in
    let split : filled (drop i slots) ≡ filled (slot ∷ []) ++ filled later =
    ap (λ (ss : Slots Agent). filled ss) (drop_more slots i slot below ∙ ap (λ (s : Option (Entry Agent)). s ∷ later) (sym read)) ∙ filled-cons slot later in
    ap (λ (es : List (Entry Agent)). reserved (map agent_row es)) split
    ∙ ap reserved (map-append agent_row (filled (slot ∷ [])) (filled later))
    ∙ sum_by-append (λ (a : AgentRow). reserved_in test label a.total) (map agent_row (filled (slot ∷ []))) (map agent_row (filled later))
