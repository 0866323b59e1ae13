-- The paths of active clients.
use Rattle.std.specs.List.{AllByRecursion, IsDistinct, list_any}
use Rattle.std.specs.Cmp.Lexicographic.{bytes_decides}
use Rattle.std.proofs.Common.{refl, sym, ap, subst, ◌∙◌, inl, inr, append_assoc, arith, length-append, ◌≡◌, ◌≢◌, ◌≤◌, ◌<◌, Bool, true, false, ◌||◌, cond, nat_lt, List, [], ◌∷◌, ◌++◌, codes, filter, length, map, append-nil}
use Rattle.std.proofs.lemmas.Bool.{true≢false, false≢true, cases_Bool, lt-ltb, or_cases, or_left, or_right}
use Rattle.std.proofs.lemmas.Map.Keys.{IsDistinct-head, IsDistinct-tail, IsDistinct-cons}
use Rattle.std.proofs.lemmas.Slice.Eq.{starts_is}
use Rattle.drf_tree.proofs.Names.{Text, Path, IsClientPath, IsNodePath, begins_with, same_path, client_paths-apart, same_path-true, Ranked, most_parts}
use Rattle.drf_role.specs.Role.{IsRole}

abbrev pub paths_in : List Ranked → List Path
paths_in cs = map (λ c. c.path) cs

abbrev pub active_in : List Ranked → List Ranked
active_in cs = filter (λ c. c.active) cs

-- what holds of all clients holds of the active ones
pub kept_active : (P : Path → Type 0) (cs : List Ranked) → AllByRecursion P (paths_in cs)
    → AllByRecursion P (paths_in (active_in cs))
kept_active P [] all = all
kept_active P (c ∷ cs) all = elim (cases_Bool c.active) [
  | inl active ↦ rw active (all.0, kept_active P cs all.1)
  | inr idle ↦ rw idle (kept_active P cs all.1)
]

pub distinct_active : (cs : List Ranked) → IsDistinct same_path (paths_in cs) → IsDistinct same_path (paths_in (active_in cs))
distinct_active [] distinct = distinct
distinct_active (c ∷ cs) distinct =
    let later = distinct_active cs (IsDistinct-tail same_path c.path (paths_in cs) distinct) in
    elim (cases_Bool c.active) [
      | inl active ↦
          rw active
          (IsDistinct-cons same_path c.path (paths_in (active_in cs))
          (kept_active (λ p. same_path c.path p ≡ false) cs (IsDistinct-head same_path c.path (paths_in cs) distinct)) later)
      | inr idle ↦ rw idle later
    ]

pub any_active : (p : Path → Bool) (cs : List Ranked) → list_any p (paths_in (active_in cs)) ≡ true
    → list_any p (paths_in cs) ≡ true
any_active p [] some = some
any_active p (c ∷ cs) some = by (any_active p cs) c.active some
  where
    by : (list_any p (paths_in (active_in cs)) ≡ true → list_any p (paths_in cs) ≡ true) → (b : Bool)
        → list_any p (paths_in (cond b (c ∷ active_in cs) (active_in cs))) ≡ true
        → (p c.path || list_any p (paths_in cs)) ≡ true
    by later true some = elim (or_cases (p c.path) (list_any p (paths_in (active_in cs))) some) [
      | inl here ↦ or_left (p c.path) (list_any p (paths_in cs)) here
      | inr past ↦ or_right (p c.path) (list_any p (paths_in cs)) (later past)
    ]
    by later false some = or_right (p c.path) (list_any p (paths_in cs)) (later some)

pub each_any : (P : Path → Type 0) (p : Path) (ps : List Path) → AllByRecursion P ps → list_any (same_path p) ps ≡ true → P p
each_any P p [] all some = absurd (false≢true some)
each_any P p (q ∷ ps) all some = elim (or_cases (same_path p q) (list_any (same_path p) ps) some) [
  | inl here ↦ subst P (sym (same_path-true p q here)) all.0
  | inr past ↦ each_any P p ps all.1 past
]

role_short : (role : Path) → IsRole role → length role ≤ 8
role_short role (inl default) = omega (arith, ap length default)
role_short role (inr path) = path.few

pub short : (p : Path) → IsClientPath p → length p ≤ most_parts
short p client =
    omega (arith, ap length client.joined, length-append client.role (codes "." ∷ client.framework ∷ []), role_short client.role client.right_role)

-- no node is below a client
pub none_below : (p node : Path) (name : Text) → IsClientPath p → IsNodePath node → node ≡ p ++ name ∷ [] → ◌≡◌ {A = Bool} true false
none_below p node name client right longer =
    let q : Path = right.path in
    let rest : Path = right.begins.0 in
    let whole : q ≡ p ++ name ∷ rest =
    sym right.begins.1 ∙ ap (λ (n : Path). n ++ rest) longer ∙ append_assoc p (name ∷ []) rest in
    let differ : q ≢ p = λ e. absurd (omega (arith, ap length whole, ap length e, length-append p (name ∷ rest))) in
    let begins : begins_with q p ≡ true = (starts_is bytes_decides q p (begins_with q p) refl).1 (name ∷ rest) whole in
    sym begins ∙ client_paths-apart q p right.right_path client differ

-- a node that is not a client has fewer parts than `most_parts`
pub node_short : (node : Path) → IsNodePath node → (IsClientPath node → ◌≡◌ {A = Bool} true false) → length node < most_parts
node_short node right other = by right.begins.0 right.begins.1
  where
    by : (rest : Path) → node ++ rest ≡ right.path → length node < most_parts
    by [] whole =
        let same : right.path ≡ node = sym whole ∙ append-nil node in
        absurd (true≢false (other (subst IsClientPath same right.right_path)))
    by (part ∷ rest) whole =
        omega (arith, ap length whole, length-append node (part ∷ rest), short right.path right.right_path)

-- if not none of the active clients is below a node, one is
pub any_below : (node : Path) (cs : List Ranked)
    → list_any (λ p. begins_with p node) (paths_in (active_in cs))
    ≡ nat_lt 0 (length (active_in (filter (λ c. begins_with c.path node) cs)))
any_below node [] = refl
any_below node (c ∷ cs) = elim (cases_Bool (begins_with c.path node)) [
  | inl under ↦ elim (cases_Bool c.active) [
    | inl active ↦
        rw (under, active, under)
        (sym (lt-ltb 0 (length (c ∷ active_in (filter (λ c. begins_with c.path node) cs))) (omega arith)))
    | inr idle ↦ rw (under, idle) (any_below node cs)
  ]
  | inr past ↦ elim (cases_Bool c.active) [
    | inl active ↦ rw (past, active, past) (any_below node cs)
    | inr idle ↦ rw (past, idle) (any_below node cs)
  ]
]
