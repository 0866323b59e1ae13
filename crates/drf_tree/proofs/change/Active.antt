-- Activating or suppressing a client.
use Rattle.std.specs.List.{AllByRecursion, IsDistinct}
use Rattle.std.proofs.Common.{refl, sym, ap, subst, ◌∙◌, inl, inr, arith, ◌≡◌, ◌≤◌, ◌+◌, ◌-◌, ℕ, Bool, true, false, cond, List, [], ◌∷◌, Some, map, slice_get, sum_by}
use Rattle.std.proofs.lemmas.Bool.{true≢false, cases_Bool}
use Rattle.std.proofs.lemmas.List.Sums.{sum_by-cons}
use Rattle.std.proofs.lemmas.Map.Keys.{IsDistinct-head, IsDistinct-tail}
use Rattle.drf_tree.proofs.Names.{Path, IsClientPath, begins_with, same_path, client_paths-apart, path_decides, same_path-swap, same_path-true, each_from, Content, Ranked, activated, clients_under, has_client, with_change, Sum, Tree, client_at, is_live, path_at, IsTreeOf}
use Rattle.drf_tree.proofs.change.Changed.{changed_kept}
use Rattle.drf_tree.proofs.change.Climb.{IsClimbing, climb_end}
use Rattle.drf_tree.proofs.sums.Content.{below, sum_below}
use Rattle.drf_tree.proofs.sums.Move.{Amounts, IsChange, IsMoved, active_is, is_served, total_under}
use Rattle.drf_tree.proofs.shape.Path.{begins_itself}

-- a client's path has at most that client at or below it
module _ (f : Ranked → ℕ) (path : Path) (right : IsClientPath path) where
  none_below : (cs : List Ranked) → AllByRecursion IsClientPath (map (λ (c : Ranked). c.path) cs)
      → AllByRecursion (λ p. same_path path p ≡ false) (map (λ (c : Ranked). c.path) cs) → sum_by (below path f) cs ≡ 0
  none_below [] all far = refl
  none_below (c ∷ cs) all far =
      let differ : c.path ≡ path → ⊥ =
      λ same. true≢false (sym ((path_decides path c.path).1 (sym same)) ∙ far.0) in
      let here : below path f c ≡ 0 = ap (λ (b : Bool). cond b (f c) 0) (client_paths-apart c.path path all.0 right differ) in
      omega (arith, sum_by-cons (below path f) c cs, none_below cs all.1 far.1, here)

  pub only_at : (cs : List Ranked) → AllByRecursion IsClientPath (map (λ (c : Ranked). c.path) cs)
      → IsDistinct same_path (map (λ (c : Ranked). c.path) cs)
      → AllByRecursion (λ c. same_path c.path path ≡ true → f c ≡ sum_by (below path f) cs) cs
  only_at [] all distinct = tt
  only_at (c ∷ cs) all distinct = elim (cases_Bool (same_path c.path path)) [
    | inl here ↦
        let same : c.path ≡ path = same_path-true c.path path here in
        let far : AllByRecursion (λ p. same_path path p ≡ false) (map (λ (c : Ranked). c.path) cs) =
        subst (λ (q : Path). AllByRecursion (λ p. same_path q p ≡ false) (map (λ (c : Ranked). c.path) cs)) same
        (IsDistinct-head same_path c.path (map (λ (c : Ranked). c.path) cs) distinct) in
        let at : below path f c ≡ f c =
        ap (λ (b : Bool). cond b (f c) 0) (ap (λ (p : Path). begins_with p path) same ∙ begins_itself path) in
        let whole : sum_by (below path f) (c ∷ cs) ≡ f c =
        omega (arith, sum_by-cons (below path f) c cs, none_below cs all.1 far, at) in
        (λ is. sym whole, others_far cs far (sum_by (below path f) (c ∷ cs)))
    | inr past ↦
        let differ : c.path ≡ path → ⊥ = λ same. true≢false (sym ((path_decides c.path path).1 same) ∙ past) in
        let nothing : below path f c ≡ 0 =
        ap (λ (b : Bool). cond b (f c) 0) (client_paths-apart c.path path all.0 right differ) in
        let whole : sum_by (below path f) cs ≡ sum_by (below path f) (c ∷ cs) =
        omega (arith, sum_by-cons (below path f) c cs, nothing) in (
          λ is. absurd (true≢false (sym is ∙ past)),
          each_from (λ (d : Ranked). same_path d.path path ≡ true → f d ≡ sum_by (below path f) cs)
              (λ (d : Ranked). same_path d.path path ≡ true → f d ≡ sum_by (below path f) (c ∷ cs)) cs
              (λ d so is. so is ∙ whole) (only_at cs all.1 (IsDistinct-tail same_path c.path (map (λ (c : Ranked). c.path) cs) distinct)),
        )
  ]
    where
      others_far : (ds : List Ranked) → AllByRecursion (λ p. same_path path p ≡ false) (map (λ (c : Ranked). c.path) ds) → (n : ℕ)
          → AllByRecursion (λ c. same_path c.path path ≡ true → f c ≡ n) ds
      others_far [] far n = tt
      others_far (d ∷ ds) far n =
          (λ is. absurd (true≢false (sym is ∙ same_path-swap d.path path ∙ far.0)), others_far ds far.1 n)

abbrev pub of_active : ℕ → Amounts
of_active n = record { held = λ label. 0; count = 0; clients = 0; active = n }

pub is_activated : (before now : ℕ) (s : Sum) → before ≤ s.active
    → IsMoved (of_active before) (of_active now) s (record s { active = s.active - before + now })
is_activated before now s within =
    record { held = λ label. refl; count = refl; clients = refl; active = omega (arith, within); weight = refl }

pub activated_tree : (content : Content) (path : Path) (active : Bool) (now before : ℕ) (old new : Tree) (leaf node : ℕ) (sum : Sum)
    → IsTreeOf content old → is_live old.places.items leaf ≡ true → client_at old.places.items leaf ≡ Some path
    → has_client content path ≡ true
    → slice_get old.sums.items leaf ≡ Some sum → before ≡ sum.active → now ≡ cond active 1 0
    → IsClimbing old new leaf node (λ i. IsMoved (of_active before) (of_active now)) → new.marks ≡ old.marks → node ≡ 0
    → IsTreeOf (with_change content path (activated active)) new
activated_tree content path active now before old new leaf node sum tree live at has there before_is now_is so marks root =
    changed_kept content path (activated active) (λ c. refl) old new leaf (of_active before) (of_active now) tree at has refl
    (each_from (λ (c : Ranked). same_path c.path path ≡ true → is_served c ≡ sum_by (below path is_served) content.clients)
    (λ (c : Ranked). same_path c.path path ≡ true → IsChange (of_active before) (of_active now) c (activated active c))
    content.clients here (only_at is_served path is.1 content.clients tree.paths tree.distinct))
    so.places so.families marks (λ label. refl) refl
    (climb_end old new tree.shape leaf node (λ i. IsMoved (of_active before) (of_active now)) so root)
  where
    is : (path_at old.places.items leaf ≡ path) × IsClientPath path
    is = tree.shape.others leaf path at

    all : before ≡ sum_by (below path is_served) content.clients
    all =
        before_is ∙ (tree.sums leaf sum live there).active
        ∙ active_is (clients_under content (path_at old.places.items leaf))
        ∙ ap (λ p. total_under is_served content p) is.0
        ∙ sum_below path is_served content.clients

    here : (c : Ranked) → (same_path c.path path ≡ true → is_served c ≡ sum_by (below path is_served) content.clients)
        → same_path c.path path ≡ true → IsChange (of_active before) (of_active now) c (activated active c)
    here c only same =
        record { held = λ label. refl; count = refl; active = omega (arith, only same, all, now_is) }
