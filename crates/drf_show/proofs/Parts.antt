-- The parts that are stored for frameworks: after one more, and after a list of them.
use Rattle.std.specs.Prelude.{◌≡◌, ℕ, ◌+◌, ◌<◌, ◌≤◌, Bool, true, false, List, [], ◌∷◌, ◌++◌, Option, cond, map, drop, get_or, length}
use Rattle.std.specs.Borrow.{Bor}
use Rattle.std.specs.Global.{Vec}
use Rattle.std.specs.Map.{lookup}
use Rattle.std.specs.Option.{option_map_or}
use Rattle.std.proofs.Common.{refl, sym, ap, ◌∙◌, append_assoc}
use Rattle.std.proofs.lemmas.List.{append-nil, at_drop_more, drop_all}
use Rattle.drf_bundle.specs.declared.resource.Resource.{Resource}
use Rattle.drf_role.specs.Path.{Path}
use Rattle.drf_role.specs.Text.{Text, same_text}
use Rattle.drf_role.specs.TextLaws.{same_from_test}
use Rattle.drf_rows.specs.Holdings.{Holding}
use Rattle.drf_show.specs.Had.{Part, parts_for, parts_of}

abbrev pub Borrowed : Type 0
Borrowed = Vec (Bor Path × Bor (List Resource))

abbrev pub parts_or : Option Borrowed → List Part
parts_or o = option_map_or (λ v. parts_of v.items) o []

abbrev pub parts_at : List (Text × Borrowed) → Text → List Part
parts_at es q = parts_or (lookup (same_text q) es)

-- one more part is stored for a framework
pub added_at : (old new : List (Text × Borrowed)) (framework : Text) (w : Option Borrowed) (part : Part)
    → ((q : Text) → lookup (same_text q) new ≡ cond (same_text framework q) w (lookup (same_text q) old))
    → parts_or w ≡ parts_at old framework ++ part ∷ []
    → (q : Text) → parts_at new q ≡ parts_at old q ++ cond (same_text framework q) (part ∷ []) []
added_at old new framework w part written is q = ap parts_or (written q) ∙ by (same_text framework q) (λ same. same_from_test framework q same)
  where
    by : (b : Bool) → (b ≡ true → framework ≡ q)
        → parts_or (cond b w (lookup (same_text q) old)) ≡ parts_at old q ++ cond b (part ∷ []) []
    by true same = is ∙ ap (λ (t : Text). parts_at old t ++ part ∷ []) (same refl)
    by false same = sym (append-nil (parts_at old q))

one_more : (framework : Text) (h : Holding) (hs : List Holding) (old : List Part)
    → (old ++ cond (same_text h.client.framework framework) ((h.client.role, h.bundle) ∷ []) []) ++ parts_for framework hs ≡ old ++ parts_for framework (h ∷ hs)
one_more framework h hs old = by (same_text h.client.framework framework) refl
  where
    by : (b : Bool) → same_text h.client.framework framework ≡ b
        → (old ++ cond (same_text h.client.framework framework) ((h.client.role, h.bundle) ∷ []) []) ++ parts_for framework hs ≡ old ++ parts_for framework (h ∷ hs)
    by true test = rw test (append_assoc old ((h.client.role, h.bundle) ∷ []) (parts_for framework hs))
    by false test = rw test (append_assoc old [] (parts_for framework hs))

module _ {X : Type 0} (of : X → Holding) (framework : Text) (xs : List X) (whole : List Part) where
  -- after one more element, the stored parts and those of the remaining elements are still all parts
  pub had_more : (old new : List Part) (i : ℕ) (x : X) → i < length xs → x ≡ get_or xs i x
      → old ++ parts_for framework (map of (drop i xs)) ≡ whole
      → new ≡ old ++ cond (same_text (of x).client.framework framework) (((of x).client.role, (of x).bundle) ∷ []) []
      → new ++ parts_for framework (map of (drop (i + 1) xs)) ≡ whole
  had_more old new i x inside is so_far added =
      let left = drop (i + 1) xs in
      ap (λ (ps : List Part). ps ++ parts_for framework (map of left)) added
      ∙ one_more framework (of x) (map of left) old
      ∙ ap (λ y. old ++ parts_for framework (map of (y ∷ left))) is
      ∙ sym (at_drop_more (λ ys. old ++ parts_for framework (map of ys)) xs i x inside)
      ∙ so_far

  -- and at the end all parts are stored
  pub had_all : (old : List Part) (i : ℕ) → length xs ≤ i
      → old ++ parts_for framework (map of (drop i xs)) ≡ whole → old ≡ whole
  had_all old i past so_far =
      sym (append-nil old) ∙ sym (ap (λ ys. old ++ parts_for framework (map of ys)) (drop_all i xs past)) ∙ so_far
