-- How the content changes when the roles of a framework change: clients are added and others removed, one by one.
use Rattle.std.specs.Prelude.{◌≡◌, ◌+◌, ◌&&◌, ◌||◌, Bool, true, false, not, List, [], ◌∷◌, ◌++◌, map, filter, find, flat_map, Some, if◌then◌else◌}
use Rattle.std.specs.List.{list_any, list_all, AllByRecursion}
use Rattle.std.specs.List.Sorted.{IsPermutation}
use Rattle.std.proofs.Common.{refl, sym, ap, subst, ◌∙◌, inl, inr, cond, append_assoc}
use Rattle.std.proofs.lemmas.Bool.{cases_Bool, and_parts, not-true, false≢true, or_left, or_parts}
use Rattle.std.proofs.lemmas.List.{append-nil, map-append}
use Rattle.std.proofs.lemmas.List.Elements.{filter-append}
use Rattle.std.proofs.lemmas.List.Folds.{list_any-append}
use Rattle.std.proofs.lemmas.List.Sorted.{IsPermutation-append_comm, IsPermutation-append_right}
use Rattle.std.proofs.lemmas.Map.Views.{any-filter_same}
use Rattle.drf_role.specs.Text.{Text, same_text}
use Rattle.drf_role.specs.TextLaws.{same_itself, same_from_test}
use Rattle.drf_role.specs.Path.{Path, same_path, client_path}
use Rattle.drf_role.specs.PathLaws.{same_path-true, same_path_itself}
use Rattle.drf_role.proofs.PathLaws.{same_path-client_path}
use Rattle.drf_bundle.proofs.ListLaws.{none_has, each_from, each_filter, each_find, each_found, any_fails}
use Rattle.drf_rows.specs.Client.{Client, path_of}
use Rattle.drf_rows.specs.Consistent.{are_distinct, are_distinct_roles, IsHeld, IsConsistent}
use Rattle.drf_rows.specs.Held.{is_registered}
use Rattle.drf_rows.specs.Holdings.{Holding, holdings_of, held_where, amount_in, is_of}
use Rattle.drf_rows.specs.Members.{distinct, new_client}
use Rattle.drf_rows.specs.Roles.{has_role, clients_joined, clients_kept, with_roles, roles_set_in, framework_set}
use Rattle.drf_rows.specs.Roles as rows_word
use Rattle.drf_rows.specs.declared.rows.AgentRow.{AgentRow}
use Rattle.drf_rows.specs.declared.rows.ClientRow.{ClientRow}
use Rattle.drf_rows.specs.declared.rows.FrameworkRow.{FrameworkRow}
use Rattle.drf_rows.specs.declared.rows.Rows.{Rows}
use Rattle.drf_row_laws.proofs.ReleaseLaws.{find-place}
use Rattle.drf_row_laws.proofs.HoldingsLaws.{held_where-cons}
use Rattle.drf_laws.proofs.theorems.Clients.{named, one_named, path_of-injective, role_registered}
use Rattle.drf_laws.proofs.theorems.RoleChanges.{map-filter, roles_of}
use Rattle.drf_laws.proofs.theorems.Roles.{is_other, apart-filter, distinct_apart, each-distinct}
use Rattle.drf_laws.proofs.theorems.RolesSet.{no_other}
use Rattle.drf_sorter.specs.Content.{Content, Ranked, IsSame, has_client, with_client}
use Rattle.drf_sorter.proofs.theorems.SameLaws.{IsSame-sym, IsSame-trans}
use Rattle.drf_content.specs.Content.{ranked, content_of}
use Rattle.drf_content.specs.ContentLaws.{RolesAreFollowed}
use Rattle.drf_content.specs.Registering.{AreKnown, AreNew, client_paths, paths_joined, paths_left, with_all, without_all}
use Rattle.drf_content.proofs.theorems.Client.{ranked_all}
use Rattle.drf_content.proofs.theorems.Members.{has_client-content_of, has_client-registered}
use Rattle.drf_content.proofs.theorems.Removed.{IsKnown, all_known, among, is_among, left_all, others_stay}
use Rattle.drf_content.proofs.theorems.Same.{AreKnown-same, AreNew-same, IsSame-with_all, IsSame-without_all}

-- ---- clients are added

-- a client that was just added
abbrev added : Path → Ranked
added path = record { path = path; active = true; held = λ _. 0; count = 0 }

with_all-is : (content : Content) (paths : List Path)
    → with_all content paths ≡ record content { clients = content.clients ++ map added paths }
with_all-is content [] = λ i. record content { clients = sym (append-nil content.clients) i }
with_all-is content (path ∷ paths) =
    with_all-is (with_client content path) paths
    ∙ (λ i. record content { clients = append_assoc content.clients (added path ∷ []) (map added paths) i })

has_client-with_all : (content : Content) (paths : List Path) (path : Path)
    → has_client content path ≡ true → has_client (with_all content paths) path ≡ true
has_client-with_all content paths path known =
    ap (λ (k : Content). has_client k path) (with_all-is content paths)
    ∙ list_any-append (λ (c : Ranked). same_path c.path path) content.clients (map added paths)
    ∙ or_left (has_client content path) (list_any (λ (c : Ranked). same_path c.path path) (map added paths)) known

-- adding a client of a framework leaves its clients in other roles unknown
unknown_past : (content : Content) (name : Text) (role : Path) (roles : List Path) → list_all (is_other role) roles ≡ true
    → AllByRecursion (λ r. has_client content (client_path r name) ≡ false) roles
    → AllByRecursion (λ r. has_client (with_client content (client_path role name)) (client_path r name) ≡ false) roles
unknown_past content name role [] apart unknown = tt
unknown_past content name role (r ∷ roles) apart unknown =
    let parts = and_parts (is_other role r) (list_all (is_other role) roles) apart in
    let other : same_path (client_path role name) (client_path r name) ≡ false =
    same_path-client_path role r name name ∙ (λ i. same_itself name i && not-true (same_path role r) parts.0 i) in (
      list_any-append (λ (c : Ranked). same_path c.path (client_path r name)) content.clients (added (client_path role name) ∷ [])
          ∙ (λ i. unknown.0 i || (other i || false)),
      unknown_past content name role roles parts.1 unknown.1,
    )

all_unknown : (content : Content) (name : Text) (roles : List Path) → are_distinct_roles roles ≡ true
    → AllByRecursion (λ r. has_client content (client_path r name) ≡ false) roles
    → AreNew content (client_paths name (map new_client roles))
all_unknown content name [] apart unknown = tt
all_unknown content name (role ∷ roles) apart unknown =
    let parts = and_parts (list_all (is_other role) roles) (are_distinct_roles roles) apart in (
      unknown.0,
      all_unknown (with_client content (client_path role name)) name roles parts.1 (unknown_past content name role roles parts.0 unknown.1),
    )

-- ---- a client that is not registered holds nothing

module _ (agents : List AgentRow) (frameworks : List FrameworkRow) (client : Client) (unknown : is_registered frameworks client ≡ false) where
  held_by_others : (h : Holding) → IsHeld agents frameworks h → is_of (path_of client) h ≡ false
  held_by_others h held = elim (cases_Bool (is_of (path_of client) h)) [
    | inl its ↦
        let one : h.client ≡ client = path_of-injective h.client client (same_path-true (path_of h.client) (path_of client) its) in
        absurd (false≢true (sym unknown ∙ ap (is_registered frameworks) (sym one) ∙ held.client))
    | inr others ↦ others
  ]

  nothing_held : (hs : List Holding) (label : Text) → AllByRecursion (IsHeld agents frameworks) hs
      → held_where (is_of (path_of client)) hs label ≡ 0
  nothing_held [] label held = refl
  nothing_held (h ∷ hs) label held =
      held_where-cons (is_of (path_of client)) h hs label
      ∙ (λ i. cond (held_by_others h held.0 i) (amount_in label h) 0 + nothing_held hs label held.1 i)

-- ---- lists

each_out : {X : Type 0} (p : X → Bool) (xs : List X) → AllByRecursion (λ x. p x ≡ false) (filter (λ x. not (p x)) xs)
each_out p [] = tt
each_out p (x ∷ xs) = elim (cases_Bool (p x)) [
  | inl goes ↦ rw goes (each_out p xs)
  | inr stays ↦ rw stays (stays, each_out p xs)
]

same_moved : {X : Type 0} (a b c d : List X) → a ≡ b → IsPermutation b c → c ≡ d → IsPermutation a d
same_moved a b c d first moved last = subst (IsPermutation a) last (subst (λ xs. IsPermutation xs c) (sym first) moved)

-- a path of the framework is among others of it exactly if its role is among theirs
past_by : (name : Text) (role : Path) (ds : List ClientRow)
    → is_among (client_paths name ds) (client_path role name) ≡ list_any (λ d. same_path role d.role) ds
past_by name role [] = refl
past_by name role (d ∷ ds) =
    λ i. (same_path-client_path role d.role name name ∙ ap (λ (b : Bool). b && same_path role d.role) (same_itself name)) i
    || past_by name role ds i

found_any : {X : Type 0} (p : X → Bool) (xs : List X) (x : X) → find p xs ≡ Some x → list_any p xs ≡ true
found_any p [] x found = cc
found_any {X} p (y ∷ xs) x found = by (p y) found (found_any p xs x)
  where
    by : (b : Bool) → cond b (Some y) (find p xs) ≡ Some x → (find p xs ≡ Some x → list_any p xs ≡ true) → (b || list_any p xs) ≡ true
    by true this later = refl
    by false this later = later this

-- ---- the clients of one framework

module _ (rows : Rows) (name : Text) (roles : List Path) (f : FrameworkRow) (right : IsConsistent rows)
    (found : find (named name) rows.frameworks ≡ Some f) where
  abbrev hs : List Holding
  hs = holdings_of rows

  -- a framework that has just the clients that are removed
  abbrev leaving : FrameworkRow
  leaving = record { name = name; clients = filter (λ c. not (rows_word.is_among roles c.role)) f.clients }

  abbrev joined : List Path
  joined = paths_joined name roles f.clients

  abbrev left : List Path
  left = paths_left name roles f.clients

  abbrev joined_roles : List Path
  joined_roles = filter (λ role. not (has_role f.clients role)) (distinct roles)

  only_one : AllByRecursion (λ g. named name g ≡ true → g ≡ f) rows.frameworks
  only_one = one_named name rows.frameworks f right.frameworks.names found

  is_named : named name f ≡ true
  is_named = (find-place (named name) rows.frameworks f found).1

  its_name : f.name ≡ name
  its_name = same_from_test f.name name is_named

  -- ---- which clients are new, and which are known

  new_role : (role : Path) → has_role f.clients role ≡ false → is_registered rows.frameworks (record { role = role; framework = name }) ≡ false
  new_role role none =
      any_fails (λ (g : FrameworkRow). named name g && has_role g.clients role) rows.frameworks
      (each_from (λ g. named name g ≡ true → g ≡ f) (λ g. (named name g && has_role g.clients role) ≡ false) rows.frameworks
      (λ g only. by g (named name g) refl only) only_one)
    where
      by : (g : FrameworkRow) (b : Bool) → named name g ≡ b → (named name g ≡ true → g ≡ f) → (b && has_role g.clients role) ≡ false
      by g true here only = ap (λ (h : FrameworkRow). has_role h.clients role) (only here) ∙ none
      by g false past only = refl

  each_joined : AllByRecursion (λ role. has_role f.clients role ≡ false) joined_roles
  each_joined = each_out (has_role f.clients) (distinct roles)

  all_new : AreNew (content_of rows) joined
  all_new =
      all_unknown (content_of rows) name joined_roles
      (apart-filter (λ role. not (has_role f.clients role)) (distinct roles) (distinct_apart roles))
      (each_from (λ role. has_role f.clients role ≡ false) (λ role. has_client (content_of rows) (client_path role name) ≡ false) joined_roles
      (λ role none. has_client-content_of rows (record { role = role; framework = name }) ∙ new_role role none) each_joined)

  all_left_known : AreKnown (with_all (content_of rows) joined) left
  all_left_known =
      let HasRoles : FrameworkRow → Type 0 = λ g. are_distinct_roles (roles_of g.clients) ≡ true in
      let Known : ClientRow → Type 0 = IsKnown (with_all (content_of rows) joined) name in
      let goes : ClientRow → Bool = λ c. not (rows_word.is_among roles c.role) in
      all_known name (with_all (content_of rows) joined) leaving.clients
      (ap are_distinct_roles (map-filter (λ (c : ClientRow). c.role) (λ r. not (rows_word.is_among roles r)) f.clients)
      ∙ apart-filter (λ r. not (rows_word.is_among roles r)) (roles_of f.clients)
      (each_find HasRoles (named name) rows.frameworks f right.frameworks.roles found))
      (each_filter Known goes f.clients
      (each_from (λ c. list_any (λ d. same_path d.role c.role) f.clients ≡ true) Known f.clients
      (λ c has. has_client-with_all (content_of rows) joined (client_path c.role name)
      (has_client-registered rows (record { role = c.role; framework = name }) (role_registered name rows.frameworks f c.role found has)))
      (each_found (λ d c. same_path d.role c.role) f.clients (λ c. same_path_itself c.role))))

  -- ---- the clients after the change

  abbrev stays : Ranked → Bool
  stays c = not (is_among left c.path)

  -- a client of the framework stays if its role does
  stays_by_role : (c : ClientRow) → list_any (λ d. same_path c.role d.role) f.clients ≡ true
      → stays (ranked hs f c) ≡ rows_word.is_among roles c.role
  stays_by_role c its =
      let leave : list_any (λ d. same_path c.role d.role) leaving.clients ≡ not (rows_word.is_among roles c.role) =
      any-filter_same (λ d. same_path c.role d.role) (λ d. not (rows_word.is_among roles d.role)) (not (rows_word.is_among roles c.role))
      (λ d same. ap (λ (r : Path). not (rows_word.is_among roles r)) (sym (same_path-true c.role d.role same))) f.clients
      ∙ ap (λ (b : Bool). not (rows_word.is_among roles c.role) && b) its ∙ and_true (not (rows_word.is_among roles c.role)) in
      ap not (among hs name leaving f c ∙ (λ i. is_named i && leave i)) ∙ twice (rows_word.is_among roles c.role)
    where
      and_true : (b : Bool) → (b && true) ≡ b
      and_true true = refl
      and_true false = refl

      twice : (b : Bool) → not (not b) ≡ b
      twice true = refl
      twice false = refl

  own_stay : (cs : List ClientRow) → AllByRecursion (λ c. list_any (λ d. same_path c.role d.role) f.clients ≡ true) cs
      → filter stays (map (ranked hs f) cs) ≡ map (ranked hs f) (clients_kept roles cs)
  own_stay [] its = refl
  own_stay (c ∷ cs) its = elim (cases_Bool (rows_word.is_among roles c.role)) [
    | inl kept ↦ rw (stays_by_role c its.0, kept) (ap (λ (rs : List Ranked). ranked hs f c ∷ rs) (own_stay cs its.1))
    | inr gone ↦ rw (stays_by_role c its.0, gone) (own_stay cs its.1)
  ]

  -- an added client is active, and holds nothing
  comes : (role : Path) → has_role f.clients role ≡ false → ranked hs f (new_client role) ≡ added (client_path role name)
  unfolding ranked
  comes role none = λ i. record {
    path = client_path role (its_name i);
    active = true;
    held = λ label. (ap (λ (n : Text). held_where (is_of (client_path role n)) hs label) its_name
        ∙ nothing_held rows.agents rows.frameworks (record { role = role; framework = name }) (new_role role none) hs label right.holdings) i;
    count = 0;
  }

  all_come : (rs : List Path) → AllByRecursion (λ role. has_role f.clients role ≡ false) rs
      → map (ranked hs f) (map new_client rs) ≡ map added (client_paths name (map new_client rs))
  all_come [] none = refl
  all_come (r ∷ rs) none = λ i. comes r none.0 i ∷ all_come rs none.1 i

  -- no added client is removed
  none_goes : (rs : List Path) → AllByRecursion (λ role. rows_word.is_among roles role ≡ true) rs
      → filter stays (map added (client_paths name (map new_client rs))) ≡ map added (client_paths name (map new_client rs))
  none_goes [] listed = refl
  none_goes (r ∷ rs) listed =
      let here : is_among left (client_path r name) ≡ false =
      past_by name r leaving.clients
      ∙ any-filter_same (λ (d : ClientRow). same_path r d.role) (λ d. not (rows_word.is_among roles d.role)) false
      (λ d same. ap (λ (s : Path). not (rows_word.is_among roles s)) (sym (same_path-true r d.role same)) ∙ ap not listed.0) f.clients in
      rw here (ap (λ (cs : List Ranked). added (client_path r name) ∷ cs) (none_goes rs listed.1))

  abbrev coming : List Ranked
  coming = map added joined

  ranked-set : ranked hs (record f { clients = with_roles roles f.clients }) ≡ ranked hs f
  unfolding ranked
  ranked-set = refl

  own_set : (g : FrameworkRow) → named name g ≡ true → g ≡ f
      → ranked_all hs (roles_set_in name roles g) ≡ filter stays (ranked_all hs g) ++ coming
  own_set g here is =
      ap (λ (h : FrameworkRow). ranked_all hs (roles_set_in name roles h)) is
      ∙ ap (λ (b : Bool). ranked_all hs (if b then record f { clients = with_roles roles f.clients } else f)) is_named
      ∙ ap (λ (r : ClientRow → Ranked). map r (with_roles roles f.clients)) ranked-set
      ∙ map-append (ranked hs f) (clients_kept roles f.clients) (clients_joined roles f.clients)
      ∙ (λ i. sym (own_stay f.clients (each_found (λ d c. same_path c.role d.role) f.clients (λ c. same_path_itself c.role))) i
      ++ all_come joined_roles each_joined i)
      ∙ ap (λ (h : FrameworkRow). filter stays (ranked_all hs h) ++ coming) (sym is)

  other_set : (g : FrameworkRow) → named name g ≡ false → ranked_all hs (roles_set_in name roles g) ≡ filter stays (ranked_all hs g)
  other_set g past =
      ap (λ (b : Bool). ranked_all hs (if b then record g { clients = with_roles roles g.clients } else g)) past
      ∙ sym (others_stay hs name leaving g g.clients past)

  abbrev before_in : List FrameworkRow → List Ranked
  before_in gs = filter stays (flat_map (ranked_all hs) gs)

  abbrev then_in : List FrameworkRow → List Ranked
  then_in gs = flat_map (ranked_all hs) (map (roles_set_in name roles) gs)

  split : (g : FrameworkRow) (gs : List FrameworkRow) → before_in (g ∷ gs) ≡ filter stays (ranked_all hs g) ++ before_in gs
  split g gs = filter-append stays (ranked_all hs g) (flat_map (ranked_all hs) gs)

  -- the clients of other frameworks keep their places
  none_moved : (gs : List FrameworkRow) → list_any (named name) gs ≡ false → before_in gs ≡ then_in gs
  none_moved [] none = refl
  none_moved (g ∷ gs) none =
      let both = or_parts (named name g) (list_any (named name) gs) none in
      split g gs ∙ (λ i. sym (other_set g both.0) i ++ none_moved gs both.1 i)

  -- the added clients move from the end to their framework, so the lists are permutations of each other
  all_moved : (gs : List FrameworkRow) → list_any (named name) gs ≡ true → are_distinct (map (λ g. g.name) gs) ≡ true
      → AllByRecursion (λ g. named name g ≡ true → g ≡ f) gs → IsPermutation (before_in gs ++ coming) (then_in gs)
  all_moved [] some apart only = absurd (false≢true some)
  all_moved (g ∷ gs) some apart only =
      let parts = and_parts (none_has same_text (λ (h : FrameworkRow). h.name) g.name gs) (are_distinct (map (λ h. h.name) gs)) apart in
      let own : List Ranked = filter stays (ranked_all hs g) in
      let first : before_in (g ∷ gs) ++ coming ≡ own ++ (before_in gs ++ coming) =
      ap (λ (rs : List Ranked). rs ++ coming) (split g gs) ∙ append_assoc own (before_in gs) coming in
      elim (cases_Bool (named name g)) [
        | inl here ↦
            same_moved (before_in (g ∷ gs) ++ coming) (own ++ (before_in gs ++ coming)) (own ++ (coming ++ before_in gs)) (then_in (g ∷ gs))
            first
            (IsPermutation-append_right own (before_in gs ++ coming) (coming ++ before_in gs) (IsPermutation-append_comm (before_in gs) coming))
            (sym (append_assoc own coming (before_in gs))
            ∙ (λ i. sym (own_set g here (only.0 here)) i ++ none_moved gs (no_other name gs g here parts.0) i))
        | inr past ↦
            let later : list_any (named name) gs ≡ true = sym (ap (λ (b : Bool). b || list_any (named name) gs) past) ∙ some in
            same_moved (before_in (g ∷ gs) ++ coming) (own ++ (before_in gs ++ coming)) (own ++ then_in gs) (then_in (g ∷ gs))
            first
            (IsPermutation-append_right own (before_in gs ++ coming) (then_in gs) (all_moved gs later parts.1 only.1))
            (ap (λ (rs : List Ranked). rs ++ then_in gs) (sym (other_set g past)))
      ]

  listed : AllByRecursion (λ role. rows_word.is_among roles role ≡ true) joined_roles
  listed =
      each_filter (λ role. rows_word.is_among roles role ≡ true) (λ role. not (has_role f.clients role)) (distinct roles)
      (each-distinct (λ role. rows_word.is_among roles role ≡ true) roles (each_found same_path roles same_path_itself))

  same_set : IsSame (without_all (with_all (content_of rows) joined) left) (content_of (framework_set rows name roles))
  unfolding content_of
  same_set =
      let some : list_any (named name) rows.frameworks ≡ true = found_any (named name) rows.frameworks f found in
      let held : without_all (with_all (content_of rows) joined) left
      ≡ record (content_of rows) { clients = before_in rows.frameworks ++ coming } =
      left_all (with_all (content_of rows) joined) left
      ∙ (λ i. record (with_all-is (content_of rows) joined i) { clients = filter stays ((with_all-is (content_of rows) joined i).clients) })
      ∙ (λ i. record (content_of rows) {
        clients = (filter-append stays (content_of rows).clients coming
            ∙ ap (λ (rs : List Ranked). before_in rows.frameworks ++ rs) (none_goes joined_roles listed)) i;
      }) in
      subst (λ (k : Content). IsSame k (content_of (framework_set rows name roles))) (sym held) (record {
        clients = all_moved rows.frameworks some right.frameworks.names only_one;
        total = refl;
        weights = refl;
      })

pub roles_are_followed : RolesAreFollowed
roles_are_followed rows content framework roles f same right found =
    let base : Content = content_of rows in
    let back = IsSame-sym content base same in
    let joined : List Path = paths_joined framework roles f.clients in
    let left : List Path = paths_left framework roles f.clients in
    let more = IsSame-with_all content base joined same in
    let more_back = IsSame-with_all base content joined back in
    record {
      new = AreNew-same base content joined back (all_new rows framework roles f right found);
      known = AreKnown-same (with_all base joined) (with_all content joined) left more_back (all_left_known rows framework roles f right found);
      same = IsSame-trans (without_all (with_all content joined) left) (without_all (with_all base joined) left)
          (content_of (framework_set rows framework roles))
          (IsSame-without_all (with_all content joined) (with_all base joined) left more)
          (same_set rows framework roles f right found);
    }
