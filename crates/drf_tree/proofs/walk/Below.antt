-- The part of a walk below one node: it is empty without clients, one client if the node is a client, and has only paths that begin with
-- the node's.
use Rattle.std.specs.List.{AllByRecursion, list_all, list_any}
use Rattle.std.proofs.Common.{◌≢◌, refl, sym, ap, subst, ◌∙◌, inl, inr, append_assoc, ◌≡◌, ℕ, zero, suc, Bool, true, false, ◌||◌, List, [], ◌∷◌, ◌++◌, flat_map, append-nil}
use Rattle.std.proofs.lemmas.Bool.{true≢false, false≢true, and_from, cases_Bool, false_from_ne_true, or_cases, or_left, or_right}
use Rattle.std.proofs.lemmas.List.Folds.{list_all-append}
use Rattle.drf_tree.proofs.Names.{Text, Path, IsClientPath, begins_with, same_path, client_paths-apart, path_decides, IsChild, own, walk}
use Rattle.drf_tree.proofs.walk.Clients.{each_any}
use Rattle.drf_tree.proofs.shape.Path.{begins_above, begins_itself}
use Rattle.drf_tree.proofs.walk.Members.{found_in}

-- a client below a child is below the node
any_above : (node : Path) (name : Text) (ps : List Path) → list_any (λ p. begins_with p (node ++ name ∷ [])) ps ≡ true
    → list_any (λ p. begins_with p node) ps ≡ true
any_above node name [] some = some
any_above node name (p ∷ ps) some =
    elim (or_cases (begins_with p (node ++ name ∷ [])) (list_any (λ p. begins_with p (node ++ name ∷ [])) ps) some) [
      | inl here ↦ or_left (begins_with p node) (list_any (λ p. begins_with p node) ps) (begins_above p node name here)
      | inr past ↦ or_right (begins_with p node) (list_any (λ p. begins_with p node) ps) (any_above node name ps past)
    ]

-- the path is not a client's
pub own_none : (clients : List Path) (path : Path) → list_any (same_path path) clients ≡ false → own clients path ≡ []
own_none clients path none = rw none refl

pub own_no_client : (clients : List Path) (path : Path) → AllByRecursion IsClientPath clients
    → (IsClientPath path → ◌≡◌ {A = Bool} true false) → own clients path ≡ []
own_no_client clients path all other =
    own_none clients path (false_from_ne_true (list_any (same_path path) clients)
    (λ some. true≢false (other (each_any IsClientPath path clients all some))))

own_passes : (clients : List Path) (t : Path → Bool) (node : Path) → t node ≡ true → list_all t (own clients node) ≡ true
own_passes clients t node h = elim (cases_Bool (list_any (same_path node) clients)) [
  | inl one ↦ rw one (and_from (t node) true h refl)
  | inr none ↦ rw none refl
]

pub all_join : (t : Path → Bool) (xs ys : List Path) → list_all t xs ≡ true → list_all t ys ≡ true → list_all t (xs ++ ys) ≡ true
all_join t xs ys one two = list_all-append t xs ys ∙ and_from (list_all t xs) (list_all t ys) one two

-- a path at or below a client's path is that client's
itself_below : (path : Path) (ps : List Path) → IsClientPath path → AllByRecursion IsClientPath ps
    → list_any (λ p. begins_with p path) ps ≡ true → list_any (same_path path) ps ≡ true
itself_below path [] client all some = some
itself_below path (p ∷ ps) client all some = elim (cases_Bool (same_path path p)) [
  | inl same ↦ or_left (same_path path p) (list_any (same_path path) ps) same
  | inr other ↦
      let differ : p ≢ path = λ e. false≢true (sym other ∙ (path_decides path p).1 (sym e)) in
      let apart : begins_with p path ≡ false = client_paths-apart p path all.0 client differ in
      let later : list_any (λ p. begins_with p path) ps ≡ true =
      subst (λ (b : Bool). (b || list_any (λ p. begins_with p path) ps) ≡ true) apart some in
      or_right (same_path path p) (list_any (same_path path) ps) (itself_below path ps client all.1 later)
]

pub own_client : (clients : List Path) (path : Path) → IsClientPath path → AllByRecursion IsClientPath clients
    → list_any (λ p. begins_with p path) clients ≡ true → own clients path ≡ path ∷ []
own_client clients path client all some = rw (itself_below path clients client all some) refl

module _ {X : Type 0} (IsNode : X → Type 0) (path : X → Path) (name : X → Text) (family : X → List X)
    (clients : List Path) (children : (x : X) → IsNode x → AllByRecursion (IsChild IsNode path name x) (family x)) where
  abbrev Walked : ℕ → X → List Path
  Walked n x = walk clients path family n x

  abbrev has_below : X → Bool
  has_below x = list_any (λ p. begins_with p (path x)) clients

  own_of_none : (x : X) → has_below x ≡ false → own clients (path x) ≡ []
  own_of_none x none =
      own_none clients (path x) (false_from_ne_true (list_any (same_path (path x)) clients)
      (λ some. true≢false (sym (found_in (λ p. begins_with p (path x)) (path x) clients some (begins_itself (path x))) ∙ none)))

  none_at_child : (x c : X) → IsChild IsNode path name x c → has_below x ≡ false → has_below c ≡ false
  none_at_child x c child none =
      false_from_ne_true (has_below c)
      (λ some. true≢false
      (sym (any_above (path x) (name c) clients
      (subst (λ (n : Path). list_any (λ p. begins_with p n) clients ≡ true) child.1 some)) ∙ none))

  none_over : (n : ℕ) (x : X) (cs : List X) → AllByRecursion (IsChild IsNode path name x) cs → has_below x ≡ false
      → ((c : X) → IsNode c → has_below c ≡ false → Walked n c ≡ []) → flat_map (Walked n) cs ≡ []
  none_over n x [] all none each = refl
  none_over n x (c ∷ cs) all none each =
      λ i. each c all.0.0 (none_at_child x c all.0 none) i ++ none_over n x cs all.1 none each i

  -- the walk below a node without clients is empty
  pub walk_none : (n : ℕ) (x : X) → IsNode x → list_any (λ p. begins_with p (path x)) clients ≡ false
      → walk clients path family n x ≡ []
  walk_none zero x node none = own_of_none x none
  walk_none (suc n) x node none =
      λ i. own_of_none x none i ++ none_over n x (family x) (children x node) none (walk_none n) i

  -- a test that holds of all paths below a node
  pub beneath_children : (t : Path → Bool) (n : ℕ) (x : X) (cs : List X) → AllByRecursion (IsChild IsNode path name x) cs
      → ((below : Path) → t (path x ++ below) ≡ true)
      → ((c : X) → IsNode c → ((below : Path) → t (path c ++ below) ≡ true) → list_all t (Walked n c) ≡ true)
      → list_all t (flat_map (Walked n) cs) ≡ true
  beneath_children t n x [] all h each = refl
  beneath_children t n x (c ∷ cs) all h each =
      all_join t (Walked n c) (flat_map (Walked n) cs)
      (each c all.0.0 (λ below.
      ap t (ap (λ (p : Path). p ++ below) all.0.1 ∙ append_assoc (path x) (name c ∷ []) below) ∙ h (name c ∷ below)))
      (beneath_children t n x cs all.1 h each)

  pub beneath : (t : Path → Bool) (n : ℕ) (x : X) → IsNode x → ((below : Path) → t (path x ++ below) ≡ true)
      → list_all t (walk clients path family n x) ≡ true
  beneath t zero x node h = own_passes clients t (path x) (subst (λ (p : Path). t p ≡ true) (append-nil (path x)) (h []))
  beneath t (suc n) x node h =
      all_join t (own clients (path x)) (flat_map (Walked n) (family x))
      (own_passes clients t (path x) (subst (λ (p : Path). t p ≡ true) (append-nil (path x)) (h [])))
      (beneath_children t n x (family x) (children x node) h (beneath t n))

-- a client has no children
pub walk_client : {X : Type 0} (clients : List Path) (path : X → Path) (family : X → List X) (n : ℕ) (x : X)
    → own clients (path x) ≡ path x ∷ [] → family x ≡ [] → walk clients path family n x ≡ path x ∷ []
walk_client clients path family zero x one leaf = one
walk_client clients path family (suc n) x one leaf = λ i. one i ++ flat_map (walk clients path family n) (leaf i)
