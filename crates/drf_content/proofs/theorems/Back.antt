-- Restoring the clients of a saved framework one by one.
use Rattle.std.specs.Prelude.{◌≡◌, ◌+◌, ◌^◌, ◌<◌, ◌||◌, Bool, true, false, not, ◌&&◌, List, [], ◌∷◌, ◌++◌, map, sum_by, if◌then◌else◌}
use Rattle.std.specs.List.{list_any}
use Rattle.std.proofs.Common.{refl, sym, ap, subst, ◌∙◌, append_assoc, arith}
use Rattle.std.proofs.lemmas.Bool.{or_parts}
use Rattle.std.proofs.lemmas.List.{append-nil, map-append}
use Rattle.std.proofs.lemmas.List.Folds.{list_any-append}
use Rattle.std.proofs.lemmas.List.Sums.{sum_by-append, sum_by-cons}
use Rattle.drf_role.specs.Text.{Text}
use Rattle.drf_role.specs.TextLaws.{same_itself}
use Rattle.drf_role.specs.Path.{Path, client_path, same_path}
use Rattle.drf_role.specs.PathLaws.{same_path_itself}
use Rattle.drf_role.proofs.PathLaws.{same_path-client_path}
use Rattle.drf_rows.specs.Consistent.{are_distinct_roles}
use Rattle.drf_bundle.proofs.ListLaws.{each_parts}
use Rattle.drf_rows.specs.declared.rows.ClientRow.{ClientRow}
use Rattle.drf_rows.specs.declared.rows.FrameworkRow.{FrameworkRow}
use Rattle.drf_sorter.specs.Content.{Content, Ranked, IsSound, activated, charged, has_client, with_change, with_client}
use Rattle.drf_content.specs.Content.{content_of}
use Rattle.drf_content.specs.ContentLaws.{ClientIsPutBack, ClientsCanBeBack}
use Rattle.drf_content.specs.Putting.{CanAllBeBack, put_back, with_last}
use Rattle.drf_content.proofs.theorems.Held.{counts-content_of}
use Rattle.drf_content.proofs.theorems.Members.{has_client-content_of}
use Rattle.drf_content.proofs.theorems.Sound.{IsSound-content_of}
use Rattle.drf_laws.proofs.theorems.Clients.{unregistered}
use Rattle.drf_laws.proofs.theorems.Roles.{is_role, none_before}

-- ---- a client is restored

-- a change of the last client changes no other
changed_last : (cs : List Ranked) (r : Ranked) (path : Path) (change : Ranked → Ranked)
    → list_any (λ c. same_path c.path path) cs ≡ false → same_path r.path path ≡ true
    → map (λ c. if same_path c.path path then change c else c) (cs ++ r ∷ []) ≡ cs ++ change r ∷ []
changed_last [] r path change none here = rw here refl
changed_last (c ∷ cs) r path change none here =
    let parts = or_parts (same_path c.path path) (list_any (λ c. same_path c.path path) cs) none in
    rw (parts.0) (ap (λ (rs : List Ranked). c ∷ rs) (changed_last cs r path change parts.1 here))

with_change-last : (content : Content) (r : Ranked) (path : Path) (change : Ranked → Ranked)
    → has_client content path ≡ false → same_path r.path path ≡ true
    → with_change (with_last content r) path change ≡ with_last content (change r)
with_change-last content r path change new here =
    λ i. record content { clients = changed_last content.clients r path change new here i }

-- the client that was added last is known
pub has_client-last : (content : Content) (r : Ranked) → has_client (with_last content r) r.path ≡ true
has_client-last content r =
    list_any-append (λ (c : Ranked). same_path c.path r.path) content.clients (r ∷ [])
    ∙ ap (λ (b : Bool). list_any (λ (c : Ranked). same_path c.path r.path) content.clients || (b || false)) (same_path_itself r.path)
    ∙ or_true (list_any (λ (c : Ranked). same_path c.path r.path) content.clients)
  where
    or_true : (b : Bool) → (b || true) ≡ true
    or_true true = refl
    or_true false = refl

-- a client that was just added and set active or inactive, with no offers counted
abbrev pub added : Text → ClientRow → Ranked
added framework c = record { path = client_path c.role framework; active = not c.suppressed; held = λ _. 0; count = 0 }

pub client_is_added : (content : Content) (framework : Text) (c : ClientRow) → has_client content (client_path c.role framework) ≡ false
    → with_change (with_client content (client_path c.role framework)) (client_path c.role framework) (activated (not c.suppressed))
    ≡ with_last content (added framework c)
client_is_added content framework c new =
    let path : Path = client_path c.role framework in
    with_change-last content (record { path = path; active = true; held = λ _. 0; count = 0 }) path (activated (not c.suppressed)) new
    (same_path_itself path)

pub client_is_put_back : ClientIsPutBack
client_is_put_back content framework c new =
    let path : Path = client_path c.role framework in
    let same : 0 + c.count ≡ c.count = omega arith in
    ap (λ (k : Content). with_change k path (charged [] c.count)) (client_is_added content framework c new)
    ∙ with_change-last content (added framework c) path (charged [] c.count) new (same_path_itself path)
    ∙ (λ i. with_last content (record { path = path; active = not c.suppressed; held = λ _. 0; count = same i }))

-- ---- all clients of the framework are restored

-- restored clients hold nothing; their counts are those of the saved rows
nothing_back : (name label : Text) (cs : List ClientRow) → sum_by (λ (r : Ranked). r.held label) (map (put_back name) cs) ≡ 0
nothing_back name label [] = refl
nothing_back name label (c ∷ cs) =
    sum_by-cons (λ (r : Ranked). r.held label) (put_back name c) (map (put_back name) cs) ∙ omega (arith, nothing_back name label cs)

counts_back : (name : Text) (cs : List ClientRow) → sum_by (λ (r : Ranked). r.count) (map (put_back name) cs) ≡ sum_by (λ c. c.count) cs
counts_back name [] = refl
counts_back name (c ∷ cs) = omega (
  arith,
  sum_by-cons (λ (r : Ranked). r.count) (put_back name c) (map (put_back name) cs),
  sum_by-cons (λ (d : ClientRow). d.count) c cs,
  counts_back name cs,
)

-- the content with restored clients after the others
abbrev behind : Content → Text → List ClientRow → Content
behind content name cs = record content { clients = content.clients ++ map (put_back name) cs }

sound_behind : (content : Content) (name : Text) (cs : List ClientRow) → IsSound content
    → sum_by (λ (r : Ranked). r.count) content.clients + sum_by (λ (c : ClientRow). c.count) cs < 2 ^ 64
    → IsSound (behind content name cs)
sound_behind content name cs sound few = record {
  held = λ label. omega (
    arith,
    sum_by-append (λ (r : Ranked). r.held label) content.clients (map (put_back name) cs),
    nothing_back name label cs,
    sound.held label,
  );
  total = sound.total;
  count = omega (
    arith,
    sum_by-append (λ (r : Ranked). r.count) content.clients (map (put_back name) cs),
    counts_back name cs,
    few,
  );
}

module _ (content : Content) (name : Text) (sound : IsSound content)
    (unknown : (role : Path) → has_client content (client_path role name) ≡ false) where
  -- a client is restored exactly if its role is among those of the restored clients
  others_back : (role : Path) (cs : List ClientRow)
      → list_any (λ (r : Ranked). same_path r.path (client_path role name)) (map (put_back name) cs) ≡ list_any (is_role role) (map (λ c. c.role) cs)
  others_back role [] = refl
  others_back role (c ∷ cs) =
      let here : same_path (client_path c.role name) (client_path role name) ≡ same_path c.role role =
      same_path-client_path c.role role name name ∙ ap (λ (b : Bool). b && same_path c.role role) (same_itself name) in
      λ i. here i || others_back role cs i

  still_unknown : (before : List ClientRow) (role : Path) → list_any (is_role role) (map (λ c. c.role) before) ≡ false
      → has_client (behind content name before) (client_path role name) ≡ false
  still_unknown before role none =
      list_any-append (λ (r : Ranked). same_path r.path (client_path role name)) content.clients (map (put_back name) before)
      ∙ (λ i. unknown role i || (others_back role before ∙ none) i)

  one_more : (before : List ClientRow) (c : ClientRow)
      → with_last (behind content name before) (put_back name c) ≡ behind content name (before ++ c ∷ [])
  one_more before c = λ i. record content {
    clients = (append_assoc content.clients (map (put_back name) before) (put_back name c ∷ [])
        ∙ ap (λ (rs : List Ranked). content.clients ++ rs) (sym (map-append (put_back name) before (c ∷ [])))) i;
  }

  all_can : (before cs : List ClientRow) → are_distinct_roles (map (λ c. c.role) (before ++ cs)) ≡ true
      → sum_by (λ (r : Ranked). r.count) content.clients + sum_by (λ (c : ClientRow). c.count) (before ++ cs) < 2 ^ 64
      → CanAllBeBack (behind content name before) name cs
  all_can before [] apart few = tt
  all_can before (c ∷ cs) apart few =
      let roles : are_distinct_roles (map (λ c. c.role) before ++ (c.role ∷ map (λ c. c.role) cs)) ≡ true =
      ap are_distinct_roles (sym (map-append (λ (c : ClientRow). c.role) before (c ∷ cs))) ∙ apart in
      let regroup : (before ++ c ∷ []) ++ cs ≡ before ++ (c ∷ cs) = append_assoc before (c ∷ []) cs in
      let fits : sum_by (λ (r : Ranked). r.count) content.clients + sum_by (λ (c : ClientRow). c.count) (before ++ c ∷ []) < 2 ^ 64 =
      omega (arith, few, ap (sum_by (λ (c : ClientRow). c.count)) regroup, sum_by-append (λ (c : ClientRow). c.count) (before ++ c ∷ []) cs) in
      let next = all_can (before ++ c ∷ []) cs
      (ap (λ (ds : List ClientRow). are_distinct_roles (map (λ c. c.role) ds)) regroup ∙ apart)
      (subst (λ (ds : List ClientRow). sum_by (λ (r : Ranked). r.count) content.clients + sum_by (λ (c : ClientRow). c.count) ds < 2 ^ 64) (sym regroup) few) in (
        record {
          new = still_unknown before c.role (none_before (map (λ c. c.role) before) c.role (map (λ c. c.role) cs) roles);
          sound = subst IsSound (sym (one_more before c)) (sound_behind content name (before ++ c ∷ []) sound fits);
        },
        subst (λ (k : Content). CanAllBeBack k name cs) (sym (one_more before c)) next,
      )

pub clients_can_be_back : ClientsCanBeBack
clients_can_be_back rows f right more few_agents few_offers new =
    let content : Content = content_of rows in
    let counted : sum_by (λ (r : Ranked). r.count) content.clients + sum_by (λ (c : ClientRow). c.count) f.clients < 2 ^ 64 = omega (
      arith,
      counts-content_of rows,
      sum_by-append (λ (g : FrameworkRow). sum_by (λ c. c.count) g.clients) rows.frameworks (f ∷ []),
      more.counted,
      few_offers,
    ) in
    let unknown : (role : Path) → has_client content (client_path role f.name) ≡ false = λ role.
    has_client-content_of rows (record { role = role; framework = f.name })
    ∙ unregistered rows.frameworks (record { role = role; framework = f.name }) new in
    let roles = each_parts (λ g. are_distinct_roles (map (λ c. c.role) g.clients) ≡ true) rows.frameworks (f ∷ []) more.frameworks.roles in
    let sound : IsSound content = IsSound-content_of rows right few_agents few_offers in
    subst (λ (k : Content). CanAllBeBack k f.name f.clients) (λ i. record content { clients = append-nil content.clients i })
    (all_can content f.name sound unknown [] f.clients roles.1.0 counted)
