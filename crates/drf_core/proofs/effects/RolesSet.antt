-- What the tables and the sorter hold after the roles of a framework change, and the work for that.
use Rattle.std.proofs.Common.{◌≡◌, ℕ, ◌+◌, ◌<◌, ◌≤◌, ◌^◌, Bool, true, false, List, [], ◌∷◌, ◌++◌, None, Some, length, map, refl, sym, ap, subst, ◌∙◌, inl, inr, arith, nat_lt}
use Rattle.std.specs.Prelude.{not, ◌||◌, filter, find, Option, sum_by, if◌then◌else◌}
use Rattle.std.proofs.lemmas.Bool.{cases_Bool, and_parts, ltb-false, not-false, not-true, or_parts}
use Rattle.std.proofs.lemmas.List.Elements.{filter-append}
use Rattle.std.proofs.lemmas.List.Sums.{sum_by-cons}
use Rattle.drf_role.specs.Text.{Text, same_text}
use Rattle.drf_role.specs.TextLaws.{same_from_test}
use Rattle.drf_role.specs.Path.{Path, client_path}
use Rattle.drf_bundle.proofs.ListLaws.{none_has}
use Rattle.drf_row_laws.proofs.ConsistentLaws.{same_text-swap}
use Rattle.drf_rows.specs.Client.{Client, path_of}
use Rattle.drf_rows.specs.Consistent.{IsConsistent, are_distinct}
use Rattle.drf_rows.specs.Held.{client_of, clients_in, clients_of, is_registered}
use Rattle.drf_rows.specs.LimitNumbers.{LimitNumbers}
use Rattle.drf_rows.specs.Members.{distinct, has_framework}
use Rattle.drf_rows.specs.Roles.{framework_set, has_role, is_among, is_left, is_role_in_use, with_framework_roles}
use Rattle.drf_rows.specs.Step.{effect, is_in_role, refusal_of}
use Rattle.drf_rows.specs.declared.event.Event.TheVariants.{SetFramework}
use Rattle.drf_rows.specs.declared.rows.ClientRow.{ClientRow}
use Rattle.drf_rows.specs.declared.rows.FrameworkRow.{FrameworkRow}
use Rattle.drf_rows.specs.declared.rows.Rows.{Rows}
use Rattle.drf_laws.specs.Kept.{IsKept}
use Rattle.drf_laws.proofs.theorems.Welcome.{no_case_of}
use Rattle.drf_sorter.specs.Content.{Content, IsSame}
use Rattle.drf_sorter.specs.Work.{Work, Defers, Spends}
use Rattle.drf_content.specs.Content.{content_of}
use Rattle.drf_content.specs.ContentLaws.{FollowsRoles}
use Rattle.drf_content.specs.Registering.{paths_joined, paths_left, with_all, without_all}
use Rattle.drf_core.specs.Working.{nodes_of, touched}
use Rattle.drf_core.proofs.stepping.Work.{nodes_of-append, nodes_of-new}

pub effect-roles : (rows tables : Rows) (framework : Text) (roles : List Path) → tables ≡ framework_set rows framework roles
    → tables ≡ effect rows (SetFramework framework roles)
unfolding effect
effect-roles rows tables framework roles same = same

-- after clients are added and removed, the sorter holds what the tables say
pub sorted-roles : (rows tables : Rows) (framework : Text) (roles : List Path) (clients : List ClientRow) (content middle after : Content) (joined left : List Path)
    → FollowsRoles rows content framework roles clients
    → joined ≡ paths_joined framework roles clients → left ≡ paths_left framework roles clients
    → middle ≡ with_all content joined → after ≡ without_all middle left
    → tables ≡ framework_set rows framework roles
    → IsSame after (content_of tables)
sorted-roles rows tables framework roles clients content middle after joined left follows joined_is left_is added removed same =
    let is : after ≡ without_all (with_all content (paths_joined framework roles clients)) (paths_left framework roles clients) =
    removed ∙ (λ i. without_all ((added ∙ ap (with_all content) joined_is) i) (left_is i)) in
    subst (λ (k : Content). IsSame k (content_of tables)) (sym is) (subst (IsSame _) (sym (ap content_of same)) follows.same)

-- ---- the preconditions of the change

module _ (limits : LimitNumbers) (rows : Rows) (framework : Text) (roles : List Path)
    (none : refusal_of limits rows (SetFramework framework roles) ≡ None) where
  pub known-set : has_framework rows framework ≡ true
  known-set = not-false (has_framework rows framework) (no_case_of limits rows (SetFramework framework roles) none).1.0

  pub unused-set : is_role_in_use rows framework roles ≡ false
  unused-set = (no_case_of limits rows (SetFramework framework roles) none).1.1.1.1.0

  -- the number of clients fits in 64 bits
  pub few-set : IsKept limits rows → length (clients_in (with_framework_roles rows framework roles)) < 2 ^ 64
  few-set kept =
      let clients : ℕ = length (clients_in (with_framework_roles rows framework roles)) in
      let over = or_parts (nat_lt limits.roles (length (distinct roles))) (nat_lt limits.clients clients)
      (no_case_of limits rows (SetFramework framework roles) none).1.1.1.0 in
      omega (arith, ltb-false limits.clients clients over.1, kept.few.ceilings.clients.1)

-- ---- registered clients

none_registered : (name : Text) (role : Path) (fs : List FrameworkRow) → none_has same_text (λ (f : FrameworkRow). f.name) name fs ≡ true
    → is_registered fs (record { role = role; framework = name }) ≡ false
none_registered name role [] none = refl
none_registered name role (f ∷ fs) none =
    let parts = and_parts (not (same_text name f.name)) (none_has same_text (λ (f : FrameworkRow). f.name) name fs) none in
    let past : same_text f.name name ≡ false = same_text-swap f.name name ∙ not-true (same_text name f.name) parts.0 in
    rw past (none_registered name role fs parts.1)

-- a framework is registered in the roles of its clients
registered_in : (name : Text) (role : Path) (fs : List FrameworkRow) (f : FrameworkRow) → find (λ g. same_text g.name name) fs ≡ Some f
    → are_distinct (map (λ g. g.name) fs) ≡ true → is_registered fs (record { role = role; framework = name }) ≡ has_role f.clients role
registered_in name role [] f found apart = cc
registered_in name role (g ∷ gs) f found apart =
    let parts = and_parts (none_has same_text (λ (h : FrameworkRow). h.name) g.name gs) (are_distinct (map (λ h. h.name) gs)) apart in
    elim (cases_Bool (same_text g.name name)) [
      | inl here ↦
          let one : ◌≡◌ {A = Option FrameworkRow} (Some g) (Some f) = ap (λ (b : Bool). if b then Some g else find (λ h. same_text h.name name) gs) (sym here) ∙ found in
          let same : g ≡ f = cc in
          let none = none_registered name role gs (ap (λ m. none_has same_text (λ (h : FrameworkRow). h.name) m gs) (sym (same_from_test g.name name here)) ∙ parts.0) in
          rw here ((λ i. has_role g.clients role || none i) ∙ or_false (has_role g.clients role) ∙ ap (λ (h : FrameworkRow). has_role h.clients role) same)
      | inr past ↦
          let later = ap (λ (b : Bool). if b then Some g else find (λ h. same_text h.name name) gs) (sym past) ∙ found in
          rw past (registered_in name role gs f later parts.1)
    ]
  where
    or_false : (b : Bool) → (b || false) ≡ b
    or_false true = refl
    or_false false = refl

-- a call that computes no key spends no more than it defers
pub spends_of : {counted : Bool} {old new : Work} {most : ℕ} → Defers counted old new most → Spends counted old new most
spends_of so = record { made = omega (arith, so.made); work = so.work }

-- ---- the work of the event

-- the removed clients are those in roles that the framework loses
left_of : (f : FrameworkRow) (framework : Text) (roles : List Path) (cs : List ClientRow) → same_text f.name framework ≡ true
    → sum_by length (paths_left framework roles cs) ≡ nodes_of (filter (is_left framework roles) (map (client_of f) cs))
left_of f framework roles [] same = refl
left_of f framework roles (c ∷ cs) same = elim (cases_Bool (is_among roles c.role)) [
  | inl stays ↦ rw (same, stays) (left_of f framework roles cs same)
  | inr goes ↦
      let names : f.name ≡ framework = same_from_test f.name framework same in
      let path : length (client_path c.role framework) ≡ length (path_of (client_of f c)) = ap (λ (n : Text). length (client_path c.role n)) (sym names) in
      rw (same, goes) (omega (
        arith,
        left_of f framework roles cs same,
        sum_by-cons length (client_path c.role framework) (paths_left framework roles cs),
        sum_by-cons (λ (d : Client). length (path_of d)) (client_of f c) (filter (is_left framework roles) (map (client_of f) cs)),
        path,
      ))
]

nodes_of-left : (framework : Text) (roles : List Path) (f : FrameworkRow) (fs : List FrameworkRow) → find (λ g. same_text g.name framework) fs ≡ Some f
    → sum_by length (paths_left framework roles f.clients) ≤ nodes_of (filter (is_left framework roles) (clients_in fs))
nodes_of-left framework roles f [] found = cc
nodes_of-left framework roles f (g ∷ gs) found =
    let All : List Client = clients_in gs in
    let both : nodes_of (filter (is_left framework roles) (map (client_of g) g.clients ++ All))
    ≡ nodes_of (filter (is_left framework roles) (map (client_of g) g.clients)) + nodes_of (filter (is_left framework roles) All) =
    ap nodes_of (filter-append (is_left framework roles) (map (client_of g) g.clients) All)
    ∙ nodes_of-append (filter (is_left framework roles) (map (client_of g) g.clients)) (filter (is_left framework roles) All) in
    elim (cases_Bool (same_text g.name framework)) [
      | inl here ↦
          let one : Some g ≡ Some f = rw here at found in
          let same : g ≡ f = cc in
          let mine = left_of g framework roles g.clients here in
          let reported = ap (λ (h : FrameworkRow). sum_by length (paths_left framework roles h.clients)) same in
          omega (arith, both, mine, reported)
      | inr past ↦ omega (arith, both, nodes_of-left framework roles f gs (rw past at found))
    ]

same_filter : (p q : Path → Bool) (rs : List Path) → ((r : Path) → p r ≡ q r) → filter p rs ≡ filter q rs
same_filter p q rs same = λ i. filter (λ r. same r i) rs

pub nodes_of-roles : (rows : Rows) (framework : Text) (roles : List Path) (f : FrameworkRow) (joined left : List Path) → IsConsistent rows
    → find (λ g. same_text g.name framework) rows.frameworks ≡ Some f
    → joined ≡ paths_joined framework roles f.clients → left ≡ paths_left framework roles f.clients
    → sum_by length joined + sum_by length left ≤ nodes_of (touched rows (SetFramework framework roles))
nodes_of-roles rows framework roles f joined left right found joined_is left_is =
    let news : List Path = filter (λ role. not (is_in_role rows framework role)) (distinct roles) in
    let same : filter (λ role. not (has_role f.clients role)) (distinct roles) ≡ news =
    same_filter (λ role. not (has_role f.clients role)) (λ role. not (is_in_role rows framework role)) (distinct roles)
    (λ role. ap not (sym (registered_in framework role rows.frameworks f found right.frameworks.names))) in
    let come : sum_by length joined ≡ nodes_of (map (λ role. record { role = role; framework = framework }) news) =
    ap (λ (ps : List Path). sum_by length ps) joined_is
    ∙ nodes_of-new framework (filter (λ role. not (has_role f.clients role)) (distinct roles))
    ∙ ap (λ (rs : List Path). nodes_of (map (λ role. record { role = role; framework = framework }) rs)) same in
    omega (
      arith,
      come,
      ap (λ (ps : List Path). sum_by length ps) left_is,
      nodes_of-left framework roles f rows.frameworks found,
      nodes_of-append (filter (is_left framework roles) (clients_of rows)) (map (λ role. record { role = role; framework = framework }) news),
    )
