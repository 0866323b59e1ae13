-- The active clients of consistent rows have different paths, so a turn serves each of them.
use Rattle.std.specs.Prelude.{◌≡◌, Bool, true, false, not, ◌&&◌, List, [], ◌∷◌, ◌++◌, map, filter, flat_map}
use Rattle.std.specs.List.{AllByRecursion, IsDistinct}
use Rattle.std.specs.List.Sorted.{IsPermutation}
use Rattle.std.proofs.Common.{refl, ap, ◌∙◌, inl, inr}
use Rattle.std.proofs.lemmas.Bool.{cases_Bool, and_parts, not-true}
use Rattle.std.proofs.lemmas.Map.Keys.{IsDistinct-cons}
use Rattle.drf_role.specs.Text.{Text, same_text}
use Rattle.drf_role.specs.Name.{IsName}
use Rattle.drf_role.specs.Path.{Path, IsClientPath, same_path}
use Rattle.drf_role.proofs.PathLaws.{same_path-client_path}
use Rattle.drf_role.specs.Role.{IsRole}
use Rattle.drf_rows.specs.Client.{Client, path_of}
use Rattle.drf_rows.specs.Held.{client_of, active_clients}
use Rattle.drf_rows.specs.Cycle.{turn_order}
use Rattle.drf_rows.specs.Consistent.{are_distinct, are_distinct_roles, IsFramework, IsConsistent}
use Rattle.drf_bundle.proofs.ListLaws.{each_append, each_filter, each_from, each_map, none_has}
use Rattle.drf_rows.specs.declared.rows.ClientRow.{ClientRow}
use Rattle.drf_rows.specs.declared.rows.FrameworkRow.{FrameworkRow}
use Rattle.drf_rows.specs.declared.rows.Rows.{Rows}
use Rattle.drf_sorter.proofs.ServedLemmas.{each_is_served_once}
use Rattle.drf_row_laws.proofs.WeightLaws.{weight_of-in_range}
use Rattle.drf_rows.specs.Held as rows_word

-- ---- clients with different paths

abbrev Differ : Client → Client → Type 0
Differ c d = same_path (path_of c) (path_of d) ≡ false

abbrev DiffersFromAll : List Client → Client → Type 0
DiffersFromAll ds c = AllByRecursion (Differ c) ds

abbrev AllDiffer : List Client → Type 0
AllDiffer [] = Unit {0}
AllDiffer (c ∷ cs) = DiffersFromAll cs c × AllDiffer cs

other_framework : (c d : Client) → same_text c.framework d.framework ≡ false → Differ c d
other_framework c d other =
    same_path-client_path c.role d.role c.framework d.framework ∙ ap (λ b. b && same_path c.role d.role) other

neither : (b : Bool) → (b && false) ≡ false
neither true = refl
neither false = refl

other_role : (c d : Client) → same_path c.role d.role ≡ false → Differ c d
other_role c d other =
    same_path-client_path c.role d.role c.framework d.framework
    ∙ ap (λ b. same_text c.framework d.framework && b) other ∙ neither (same_text c.framework d.framework)

distinct_paths : (cs : List Client) → AllDiffer cs → IsDistinct same_path (map path_of cs)
unfolding IsDistinct
distinct_paths [] differ = tt
distinct_paths (c ∷ cs) differ =
    IsDistinct-cons same_path (path_of c) (map path_of cs)
    (each_map (λ p. same_path (path_of c) p ≡ false) path_of cs differ.0) (distinct_paths cs differ.1)

together : (cs ds : List Client) → AllDiffer cs → AllDiffer ds → AllByRecursion (DiffersFromAll ds) cs
    → AllDiffer (cs ++ ds)
together [] ds first second between = second
together (c ∷ cs) ds first second between =
    (each_append (Differ c) cs ds first.0 between.0, together cs ds first.1 second between.1)

-- ---- the active clients

each_other : {X K : Type 0} (same : K → K → Bool) (key : X → K) (k : K) (xs : List X)
    → none_has same key k xs ≡ true → AllByRecursion (λ x. same k (key x) ≡ false) xs
each_other same key k [] none = tt
each_other same key k (x ∷ xs) none =
    let parts = and_parts (not (same k (key x))) (none_has same key k xs) none in
    (not-true (same k (key x)) parts.0, each_other same key k xs parts.1)

-- what holds of everything holds of each element
each : {X : Type 0} (P : X → Type 0) (xs : List X) → ((x : X) → P x) → AllByRecursion P xs
each P [] all = tt
each P (x ∷ xs) all = (all x, each P xs all)

abbrev active_of : FrameworkRow → List ClientRow → List Client
active_of f cs = map (client_of f) (filter (λ c. not c.suppressed) cs)

abbrev active_in : FrameworkRow → List Client
active_in f = active_of f f.clients

each_active : (P : Client → Type 0) (f : FrameworkRow) (cs : List ClientRow)
    → AllByRecursion (λ c. P (client_of f c)) cs → AllByRecursion P (active_of f cs)
each_active P f cs all =
    each_map P (client_of f) (filter (λ c. not c.suppressed) cs)
    (each_filter (λ c. P (client_of f c)) (λ c. not c.suppressed) cs all)

-- the clients of one framework have different roles
one_framework : (f : FrameworkRow) (cs : List ClientRow) → are_distinct_roles (map (λ c. c.role) cs) ≡ true
    → AllDiffer (active_of f cs)
one_framework f [] distinct = tt
one_framework f (c ∷ cs) distinct =
    let role : ClientRow → Path = λ c. c.role in
    let parts = and_parts (none_has same_path role c.role cs) (are_distinct_roles (map role cs)) distinct in
    let others : DiffersFromAll (active_of f cs) (client_of f c) =
    each_active (Differ (client_of f c)) f cs
    (each_from (λ x. same_path c.role x.role ≡ false) (λ x. Differ (client_of f c) (client_of f x)) cs
    (λ x other. other_role (client_of f c) (client_of f x) other) (each_other same_path role c.role cs parts.0)) in
    let later : AllDiffer (active_of f cs) = one_framework f cs parts.1 in
    elim (cases_Bool (not c.suppressed)) [
      | inl here ↦ rw here (others, later)
      | inr past ↦ rw past later
    ]

-- the clients of two frameworks have different frameworks
two_frameworks : (f : FrameworkRow) (c : ClientRow) (gs : List FrameworkRow)
    → AllByRecursion (λ g. same_text f.name g.name ≡ false) gs
    → DiffersFromAll (flat_map active_in gs) (client_of f c)
two_frameworks f c [] others = tt
two_frameworks f c (g ∷ gs) others =
    each_append (Differ (client_of f c)) (active_in g) (flat_map active_in gs)
    (each_active (Differ (client_of f c)) g g.clients
    (each (λ d. Differ (client_of f c) (client_of g d)) g.clients
    (λ d. other_framework (client_of f c) (client_of g d) others.0)))
    (two_frameworks f c gs others.1)

all_frameworks : (fs : List FrameworkRow) → are_distinct (map (λ f. f.name) fs) ≡ true
    → AllByRecursion (λ f. are_distinct_roles (map (λ c. c.role) f.clients) ≡ true) fs
    → AllDiffer (flat_map active_in fs)
all_frameworks [] names roles = tt
all_frameworks (f ∷ fs) names roles =
    let name : FrameworkRow → Text = λ f. f.name in
    let parts = and_parts (none_has same_text name f.name fs) (are_distinct (map name fs)) names in
    let others : AllByRecursion (λ g. same_text f.name g.name ≡ false) fs =
    each_other same_text name f.name fs parts.0 in
    together (active_in f) (flat_map active_in fs) (one_framework f f.clients roles.0)
    (all_frameworks fs parts.1 roles.1)
    (each_active (DiffersFromAll (flat_map active_in fs)) f f.clients
    (each (λ c. DiffersFromAll (flat_map active_in fs) (client_of f c)) f.clients
    (λ c. two_frameworks f c fs others)))

-- ---- the paths of clients

paths_of : (f : FrameworkRow) (cs : List ClientRow) → IsName f.name → AllByRecursion IsRole (map (λ c. c.role) cs)
    → AllByRecursion (λ c. IsClientPath (path_of (client_of f c))) cs
paths_of f [] name roles = tt
paths_of f (c ∷ cs) name roles = (
  record { role = c.role; framework = f.name; right_role = roles.0; right_name = name; joined = refl },
  paths_of f cs name roles.1,
)

all_paths : (fs : List FrameworkRow) → AllByRecursion IsFramework fs
    → AllByRecursion (λ c. IsClientPath (path_of c)) (flat_map active_in fs)
all_paths [] each = tt
all_paths (f ∷ fs) each =
    let IsPath : Client → Type 0 = λ c. IsClientPath (path_of c) in
    each_append IsPath (active_in f) (flat_map active_in fs)
    (each_active IsPath f f.clients (paths_of f f.clients each.0.name each.0.roles)) (all_paths fs each.1)

-- ---- the turn

pub each_has_its_turn : (rows : Rows) → IsConsistent rows → IsPermutation (active_clients rows) (turn_order rows)
unfolding rows_word.standing_of
each_has_its_turn rows consistent =
    each_is_served_once (rows_word.standing_of rows) (active_clients rows)
    (λ node. (weight_of-in_range rows.weights node consistent.weights.each).0)
    (record {
      each = all_paths rows.frameworks consistent.frameworks.each;
      distinct = distinct_paths (active_clients rows)
          (all_frameworks rows.frameworks consistent.frameworks.names consistent.frameworks.roles);
    })
