-- The sum of a node is the sum over the other clients, plus that of the client that is removed.
use Rattle.std.specs.List.{AllByRecursion}
use Rattle.std.proofs.Common.{refl, sym, ap, subst, ◌∙◌, inl, inr, arith, ◌≡◌, ◌≢◌, ◌+◌, ℕ, Bool, true, false, not, cond, List, [], ◌∷◌, filter, map, sum_by}
use Rattle.std.proofs.lemmas.Bool.{false≢true, cases_Bool}
use Rattle.std.proofs.lemmas.List.Sums.{sum_by-cons}
use Rattle.drf_tree.proofs.Names.{Path, IsClientPath, begins_with, same_path, client_paths-apart, path_decides, same_path-true, Ranked}
use Rattle.drf_tree.proofs.sums.Content.{below}
use Rattle.drf_tree.proofs.shape.Path.{begins_itself}

abbrev pub stays : Path → Ranked → Bool
stays path c = not (same_path c.path path)

parted_at : (f : Ranked → ℕ) (path node : Path) → IsClientPath path → begins_with path node ≡ true → (c : Ranked)
    → IsClientPath c.path
    → cond (stays path c) (below node f c) 0 + below path f c ≡ below node f c
parted_at f path node client begins c right = elim (cases_Bool (same_path c.path path)) [
  | inl here ↦
      let same : c.path ≡ path = same_path-true c.path path here in
      let above : begins_with c.path node ≡ true = subst (λ (p : Path). begins_with p node ≡ true) (sym same) begins in
      let itself : begins_with c.path path ≡ true =
      subst (λ (p : Path). begins_with p path ≡ true) (sym same) (begins_itself path) in
      let none : cond (stays path c) (below node f c) 0 ≡ 0 = ap (λ (b : Bool). cond (not b) (below node f c) 0) here in
      let one : below path f c ≡ f c = ap (λ (b : Bool). cond b (f c) 0) itself in
      let all : below node f c ≡ f c = ap (λ (b : Bool). cond b (f c) 0) above in
      omega (arith, none, one, all)
  | inr past ↦
      let differ : c.path ≢ path = λ e. false≢true (sym past ∙ (path_decides c.path path).1 e) in
      let kept : cond (stays path c) (below node f c) 0 ≡ below node f c =
      ap (λ (b : Bool). cond (not b) (below node f c) 0) past in
      let none : below path f c ≡ 0 =
      ap (λ (b : Bool). cond b (f c) 0) (client_paths-apart c.path path right client differ) in
      omega (arith, kept, none)
]

pub sum_parted : (f : Ranked → ℕ) (path node : Path) → IsClientPath path → begins_with path node ≡ true
    → (cs : List Ranked) → AllByRecursion IsClientPath (map (λ c. c.path) cs)
    → sum_by (below node f) (filter (stays path) cs) + sum_by (below path f) cs ≡ sum_by (below node f) cs
sum_parted f path node client begins [] all = refl
sum_parted f path node client begins (c ∷ cs) all =
    let rest = sum_parted f path node client begins cs all.1 in
    let here = parted_at f path node client begins c all.0 in
    let left : sum_by (below node f) (filter (stays path) (c ∷ cs))
    ≡ cond (stays path c) (below node f c) 0 + sum_by (below node f) (filter (stays path) cs) = by (stays path c) in
    omega (arith, rest, here, left, sum_by-cons (below path f) c cs, sum_by-cons (below node f) c cs)
  where
    by : (b : Bool) → sum_by (below node f) (cond b (c ∷ filter (stays path) cs) (filter (stays path) cs))
        ≡ cond b (below node f c) 0 + sum_by (below node f) (filter (stays path) cs)
    by true = sum_by-cons (below node f) c (filter (stays path) cs)
    by false = omega arith
