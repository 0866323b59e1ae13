-- Lists of entries with names.
use Rattle.std.specs.List.{list_any}
use Rattle.std.specs.Global.{Vec}
use Rattle.std.specs.Map.{lookup, keys_of, values_of, remove_entry}
use Rattle.std.proofs.Common.{refl, sym, ap, ◌∙◌, inl, inr, arith, Bor, ◌≡◌, ℕ, Bool, true, false, not, List, [], ◌∷◌, length, map, filter, find, ◌+◌, ◌||◌, Option, None, slice_get, Some, is_some, Result, Ok, Err, OnOk, if◌then◌else◌}
use Rattle.std.proofs.lemmas.List.{length-map, with_items_is}
use Rattle.std.specs.Option.{option_copied, option_map, option_map_or}
use Rattle.std.proofs.lemmas.Map.Made.{is_some-lookup}
use Rattle.std.proofs.lemmas.Option.{slice_get-map}
use Rattle.drf_bundle.proofs.ListLaws.{list_any-map}
use Rattle.drf_role.specs.TextLaws.{same_from_test}
use Rattle.std.proofs.lemmas.Bool.{cases_Bool, and_parts, not-true}
use Rattle.drf_tables.proofs.tables.Names.{changed, with_each, Text, same_text, are_distinct, same_text-swap, none_has, ClientRow, FrameworkRow, same_path, Client, is_registered, count_clients, framework_row, framework_rows}
use Rattle.drf_tables.proofs.cycle.Counted.{count_clients-cons}

-- ---- names

-- a name is found among entries exactly if one has it
pub any-lookup : {V : Type 0} (n : Text) (es : List (Text × V)) → list_any (λ e. same_text e.0 n) es ≡ is_some (lookup (same_text n) es)
any-lookup {V} n es =
    (λ i. list_any (λ (e : Text × V). same_text-swap e.0 n i) es)
    ∙ sym (list_any-map (same_text n) (λ (e : Text × V). e.0) es) ∙ sym (is_some-lookup (same_text n) es)

-- and the same for the rows of the entries
pub known-lookup : {V R : Type 0} (name : R → Text) (row : Text × V → R) (n : Text) (es : List (Text × V))
    → ((e : Text × V) → name (row e) ≡ e.0)
    → list_any (λ r. same_text (name r) n) (map row es) ≡ is_some (lookup (same_text n) es)
known-lookup {V} name row n es keeps =
    list_any-map (λ r. same_text (name r) n) row es
    ∙ (λ i. list_any (λ (e : Text × V). same_text (keeps e i) n) es) ∙ any-lookup n es

-- ---- the entry at a place

pub value_at : {X : Type 0} (es : List (Text × X)) (i : ℕ) (e : Text × X) → slice_get es i ≡ Some e → slice_get (values_of es) i ≡ Some e.1
value_at {X} es i e at = slice_get-map (λ (e : Text × X). e.1) es i ∙ ap (option_map (λ (e : Text × X). e.1)) at

-- ---- lists

-- what holds on success holds of a call that succeeded
pub from_ok : {T E : Type 0} (r : Result T E) (x : T) (P : Type 0) → r ≡ Ok x → OnOk r P → P
from_ok (Ok y) x P ok here = here
from_ok (Err e) x P ok here = cc

-- ---- frameworks

-- changing each client of a framework changes its row in the same way
pub rows-with_each : (name : Text) (change : ClientRow → ClientRow) (es : List (Text × Vec ClientRow))
    → framework_rows (map (changed name (with_each change)) es)
    ≡ map (λ (f : FrameworkRow). if same_text f.name name then record f { clients = map change f.clients } else f) (framework_rows es)
rows-with_each name change [] = refl
rows-with_each name change (e ∷ es) = λ i. by (same_text e.0 name) i ∷ rows-with_each name change es i
  where
    by : (b : Bool) → framework_row (if b then (e.0, with_each change e.1) else e)
        ≡ (if b then record (framework_row e) { clients = map change e.1.items } else framework_row e)
    by true = λ i. record { name = e.0; clients = with_items_is e.1 (map change e.1.items) (length-map e.1.items change ∙ sym e.1.ok.0) i }
    by false = refl

-- the row of an entry
pub row_at : (fs : List (Text × Vec ClientRow)) (i : ℕ) (e : Text × Vec ClientRow)
    → slice_get fs i ≡ Some e → slice_get (framework_rows fs) i ≡ Some (framework_row e)
row_at fs i e at = slice_get-map framework_row fs i ∙ ap (option_map framework_row) at

-- ---- a change of one key

module _ {V : Type 0} (n : Text) (change : V → V) where
  changed-other : (e : Text × V) → same_text n e.0 ≡ false → changed n change e ≡ e
  changed-other e past = ap (λ (b : Bool). if b then (e.0, change e.1) else e) (same_text-swap e.0 n ∙ past)

  -- if no entry has the name, none changes
  pub changed_none : (es : List (Text × V)) → lookup (same_text n) es ≡ None → es ≡ map (changed n change) es
  changed_none [] none = refl
  changed_none (e ∷ es) none = elim (cases_Bool (same_text n e.0)) [
    | inl same ↦
        let there : ◌≡◌ {A = Option _} (Some e.1) None = sym (ap (λ (b : Bool). if b then Some e.1 else lookup (same_text n) es) same) ∙ none in
        cc
    | inr other ↦
        let later = sym (ap (λ (b : Bool). if b then Some e.1 else lookup (same_text n) es) other) ∙ none in
        λ i. sym (changed-other e other) i ∷ changed_none es later i
  ]

-- ---- a key is removed

module _ {V : Type 0} (n : Text) where
  -- the entries of other keys
  abbrev pub stays : Text × V → Bool
  stays e = not (same_text e.0 n)

  none_out : (es : List (Text × V)) → none_has same_text (λ (e : Text × V). e.0) n es ≡ true → filter stays es ≡ es
  none_out [] none = refl
  none_out (e ∷ es) none =
      let parts = and_parts (not (same_text n e.0)) (none_has same_text (λ (e : Text × V). e.0) n es) none in
      let past : same_text e.0 n ≡ false = same_text-swap e.0 n ∙ not-true (same_text n e.0) parts.0 in
      rw past (ap (λ l. e ∷ l) (none_out es parts.1))

  pub removed_entry : (es : List (Text × V)) → are_distinct (keys_of es) ≡ true
      → remove_entry (same_text n) es ≡ filter stays es
  removed_entry [] apart = refl
  removed_entry (e ∷ es) apart =
      let parts = and_parts (none_has same_text (λ (e : Text × V). e.0) e.0 es) (are_distinct (keys_of es)) apart in
      let swap = same_text-swap e.0 n in
      elim (cases_Bool (same_text n e.0)) [
        | inl same ↦
            let none = ap (λ m. none_has same_text (λ (e : Text × V). e.0) m es) (same_from_test n e.0 same) ∙ parts.0 in
            rw (swap ∙ same, same) (sym (none_out es none))
        | inr other ↦ rw (swap ∙ other, other) (ap (λ l. e ∷ l) (removed_entry es parts.1))
      ]

  -- the rows of the entries are removed in the same way
  pub rows-filter : {R : Type 0} (row : Text × V → R) (name : R → Text) (es : List (Text × V))
      → ((e : Text × V) → name (row e) ≡ e.0) → map row (filter stays es) ≡ filter (λ r. not (same_text (name r) n)) (map row es)
  rows-filter row name [] named = refl
  rows-filter row name (e ∷ es) named =
      let its : same_text (name (row e)) n ≡ same_text e.0 n = ap (λ t. same_text t n) (named e) in
      let more = rows-filter row name es named in
      elim (cases_Bool (same_text e.0 n)) [
        | inl same ↦ rw (its ∙ same, same) more
        | inr other ↦ rw (its ∙ other, other) (ap (λ l. row e ∷ l) more)
      ]

-- the keys are the names of the rows
pub names-keys : {V R : Type 0} (row : Text × V → R) (name : R → Text) (es : List (Text × V))
    → ((e : Text × V) → name (row e) ≡ e.0) → map name (map row es) ≡ keys_of es
names-keys row name [] named = refl
names-keys row name (e ∷ es) named = λ i. named e i ∷ names-keys row name es named i

-- ---- a key is found

-- a row is found exactly if its entry is
pub found-lookup : {V R : Type 0} (row : Text × V → R) (name : R → Text) (n : Text) (es : List (Text × V))
    → ((e : Text × V) → name (row e) ≡ e.0)
    → find (λ r. same_text (name r) n) (map row es) ≡ option_map (λ v. row (n, v)) (lookup (same_text n) es)
found-lookup row name n [] named = refl
found-lookup row name n (e ∷ es) named =
    let its : same_text (name (row e)) n ≡ same_text n e.0 = ap (λ t. same_text t n) (named e) ∙ same_text-swap e.0 n in
    elim (cases_Bool (same_text n e.0)) [
      | inl same ↦
          let mine : n ≡ e.0 = same_from_test n e.0 same in
          rw (its ∙ same, same) (λ i. Some (row (sym mine i, e.1)))
      | inr other ↦ rw (its ∙ other, other) (found-lookup row name n es named)
    ]

-- if no entry has the name, none is removed
pub removed-none : {V : Type 0} (n : Text) (es : List (Text × V)) → lookup (same_text n) es ≡ None → remove_entry (same_text n) es ≡ es
removed-none n [] none = refl
removed-none n (e ∷ es) none = elim (cases_Bool (same_text n e.0)) [
  | inl same ↦
      let there : ◌≡◌ {A = Option _} (Some e.1) None = sym (ap (λ (b : Bool). if b then Some e.1 else lookup (same_text n) es) same) ∙ none in
      cc
  | inr other ↦
      let later = sym (ap (λ (b : Bool). if b then Some e.1 else lookup (same_text n) es) other) ∙ none in
      rw other (ap (λ l. e ∷ l) (removed-none n es later))
]

-- after a framework is removed, its clients do not count
pub counted-removed : (n : Text) (es : List (Text × Vec ClientRow)) (v : Vec ClientRow) → lookup (same_text n) es ≡ Some v
    → count_clients (framework_rows es) ≡ count_clients (framework_rows (remove_entry (same_text n) es)) + length v.items
counted-removed n [] v found = cc
counted-removed n (e ∷ es) v found =
    let first = count_clients-cons (framework_row e) (framework_rows es) in
    elim (cases_Bool (same_text n e.0)) [
      | inl same ↦
          let there : ◌≡◌ {A = Option (Vec ClientRow)} (Some e.1) (Some v) =
          sym (ap (λ (b : Bool). if b then Some e.1 else lookup (same_text n) es) same) ∙ found in
          let its : e.1 ≡ v = cc in
          let many : length e.1.items ≡ length v.items = λ i. length (its i).items in
          rw same (omega (arith, first, many))
      | inr other ↦
          let later = sym (ap (λ (b : Bool). if b then Some e.1 else lookup (same_text n) es) other) ∙ found in
          let rest = framework_rows (remove_entry (same_text n) es) in
          rw other (omega (arith, first, counted-removed n es v later, count_clients-cons (framework_row e) rest))
    ]

-- a client is registered exactly if the entry of its framework has its role
pub registered-lookup : (client : Client) (es : List (Text × Vec ClientRow))
    → are_distinct (map (λ f. f.name) (framework_rows es)) ≡ true
    → is_registered (framework_rows es) client
    ≡ option_map_or (λ v. list_any (λ c. same_path c.role client.role) v.items) (lookup (same_text client.framework) es) false
registered-lookup client [] apart = refl
registered-lookup client (e ∷ es) apart =
    let n : Text = client.framework in
    let parts = and_parts (none_has same_text (λ (f : FrameworkRow). f.name) e.0 (framework_rows es)) (are_distinct (map (λ f. f.name) (framework_rows es))) apart in
    let roles : Bool = list_any (λ c. same_path c.role client.role) e.1.items in
    let swap = same_text-swap e.0 n in
    elim (cases_Bool (same_text n e.0)) [
      | inl same ↦
          let mine : e.0 ≡ n = sym (same_from_test n e.0 same) in
          let none = none_registered client (framework_rows es) (ap (λ m. none_has same_text (λ (f : FrameworkRow). f.name) m (framework_rows es)) (sym mine) ∙ parts.0) in
          rw (swap ∙ same, same) ((λ i. roles || none i) ∙ or-false roles)
      | inr other ↦ rw (swap ∙ other, other) (registered-lookup client es parts.1)
    ]
  where
    or-false : (b : Bool) → (b || false) ≡ b
    or-false true = refl
    or-false false = refl

    none_registered : (client : Client) (fs : List FrameworkRow)
        → none_has same_text (λ (f : FrameworkRow). f.name) client.framework fs ≡ true → is_registered fs client ≡ false
    none_registered client [] none = refl
    none_registered client (f ∷ fs) none =
        let parts = and_parts (not (same_text client.framework f.name)) (none_has same_text (λ (f : FrameworkRow). f.name) client.framework fs) none in
        let past : same_text f.name client.framework ≡ false =
        same_text-swap f.name client.framework ∙ not-true (same_text client.framework f.name) parts.0 in
        rw past (none_registered client fs parts.1)

pub is_some-copied : {X : Type 0} (o : Option (Bor X)) → is_some (option_copied o) ≡ is_some o
is_some-copied None = refl
is_some-copied (Some x) = refl
