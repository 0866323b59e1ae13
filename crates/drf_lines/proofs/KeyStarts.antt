-- Keys that begin with different bytes are different.
use Rattle.std.proofs.Common.{◌≡◌, ℕ, ◌+◌, ◌<◌, ◌≤◌, Bool, true, false, ◌==◌, List, [], ◌∷◌, ◌++◌, length, Bor, map, set, take, drop, get_or, refl, sym, ap, subst, ◌∙◌, arith, take_all}
use Rattle.std.specs.Prelude.{⊤, ◌||◌}
use Rattle.std.specs.Str.{bytes_eq}
use Rattle.std.proofs.lemmas.Bool.{eqb-false, eqb-true}
use Rattle.std.proofs.lemmas.List.{length-map, length-set, map-append, take_more, get_or-set_same, get_or-set_other}
use Rattle.std.proofs.lemmas.Slice.Eq.{bytes_eq-Decides}
use Rattle.json.specs.Strict.{keys}
use Rattle.json.specs.Value.{members_view}
use Rattle.json.specs.declared.value.Value.{Value}
use Rattle.serde_json.specs.Data.{no_members}
use Rattle.drf_lines.specs.LineValue.{members_of, is_among}
use Rattle.drf_lines.specs.Object.{member_count}
use Rattle.drf_lines.proofs.KeyCounts.{count_after, keys_counted, next_key, last_key}

-- the first byte of a key
abbrev pub first : List ℕ → ℕ
first key = get_or key 0 0

-- the first byte of each key is marked as seen
abbrev pub AllSeen : List Bool → List (List ℕ) → Type 0
AllSeen seen [] = ⊤
AllSeen seen (key ∷ keys) = (get_or seen (first key) false ≡ true) × AllSeen seen keys

differs : (seen : List Bool) (name key : List ℕ) (b : Bool) → bytes_eq name key ≡ b
    → get_or seen (first name) false ≡ true → get_or seen (first key) false ≡ false → b ≡ false
differs seen name key false e was new = refl
differs seen name key true e was new =
    absurd (let old : get_or seen (first key) false ≡ true = subst (λ k. get_or seen (first k) false ≡ true) ((bytes_eq-Decides name key).0 e) was in cc)

none_among : (seen : List Bool) (names : List (List ℕ)) (key : List ℕ) → AllSeen seen names → get_or seen (first key) false ≡ false → is_among names key ≡ false
none_among seen [] key all new = refl
none_among seen (name ∷ names) key all new =
    ap (λ b. b || is_among names key) (differs seen name key (bytes_eq name key) refl all.0 new) ∙ none_among seen names key all.1 new

stays : (seen : List Bool) (place other : ℕ) (b : Bool) → (other == place) ≡ b → place < length seen
    → get_or seen other false ≡ true → get_or (set seen place true) other false ≡ true
stays seen place other true e inside was =
    subst (λ n. get_or (set seen place true) n false ≡ true) (sym (eqb-true other place e)) (get_or-set_same seen place true false inside)
stays seen place other false e inside was = get_or-set_other seen place other true false (eqb-false other place e) ∙ was

all_stay : (seen : List Bool) (place : ℕ) (names : List (List ℕ)) → place < length seen → AllSeen seen names → AllSeen (set seen place true) names
all_stay seen place [] inside all = tt
all_stay seen place (name ∷ names) inside all =
    (stays seen place (first name) (first name == place) refl inside all.0, all_stay seen place names inside all.1)

one_more : (seen : List Bool) (names : List (List ℕ)) (key : List ℕ) → AllSeen seen names → get_or seen (first key) false ≡ true → AllSeen seen (names ++ key ∷ [])
one_more seen [] key all new = (new, tt)
one_more seen (name ∷ names) key all new = (all.0, one_more seen names key all.1 new)

module _ {A : Type 0} (members : List (Bor (List ℕ) × Value A)) where
  abbrev pub names : ℕ → List (List ℕ)
  names i = map (λ m. m.0.now) (take i members)

  -- the keys before an index differ, and their first bytes are marked as seen
  pub record BeginApart (seen : List Bool) (i : ℕ) : Type 0 where
    pub room : length seen ≡ 256
    pub all : AllSeen seen (names i)
    pub counted : count_after (names i) (keys (members_view (drop i members))) ≡ count_after [] (keys (members_view members))

  pub begun : (seen : List Bool) → length seen ≡ 256 → BeginApart seen 0
  begun seen room = record { room = room; all = tt; counted = refl }

  pub gone_on : (seen : List Bool) (i : ℕ) (m : Bor (List ℕ) × Value A) → i < length members → m ≡ get_or members i m → first m.0.now < 256
      → get_or seen (first m.0.now) false ≡ false → BeginApart seen i → BeginApart (set seen (first m.0.now) true) (i + 1)
  gone_on seen i m inside is byte new so_far =
      let key = m.0.now in
      let place : first key < length seen = omega (arith, byte, so_far.room) in
      let next : names (i + 1) ≡ names i ++ key ∷ [] =
      ap (map (λ m. m.0.now)) (take_more members i m inside ∙ ap (λ x. take i members ++ x ∷ []) (sym is)) ∙ map-append _ (take i members) (m ∷ []) in
      record {
        room = length-set seen (first key) true ∙ so_far.room;
        all = subst (AllSeen (set seen (first key) true)) (sym next)
            (one_more _ (names i) key (all_stay seen (first key) (names i) place so_far.all) (get_or-set_same seen (first key) true false place));
        counted = ap (λ ks. count_after ks (keys (members_view (drop (i + 1) members)))) next
            ∙ sym (next_key (names i) members i m false inside is (none_among seen (names i) key so_far.all new)) ∙ so_far.counted;
      }

  pub ended : (seen : List Bool) (i : ℕ) → length members ≤ i → BeginApart seen i → member_count (members_of (members_view members) no_members) ≡ length members
  ended seen i past so_far =
      keys_counted (members_view members) ∙ sym so_far.counted ∙ last_key (names i) members i past
      ∙ length-map (take i members) (λ m. m.0.now) ∙ ap length (take_all i members past)
