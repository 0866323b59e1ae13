-- The bundles that are held on agents: after one more, after a list of them, and after all of them.
use Rattle.std.specs.Prelude.{◌≡◌, ℕ, ◌+◌, ◌<◌, ◌≤◌, Bool, true, false, List, [], ◌∷◌, ◌++◌, Option, cond, map, filter, drop, get_or, length}
use Rattle.std.specs.Borrow.{Bor}
use Rattle.std.specs.Global.{Vec}
use Rattle.std.specs.Map.{lookup}
use Rattle.std.specs.Option.{option_map_or}
use Rattle.std.proofs.Common.{refl, sym, ap, ◌∙◌, append_assoc}
use Rattle.std.proofs.lemmas.List.{append-nil, at_drop_more, drop_all, map-append}
use Rattle.std.proofs.lemmas.List.Elements.{filter-append}
use Rattle.drf_bundle.specs.declared.resource.Resource.{Resource}
use Rattle.drf_role.specs.Text.{Text, same_text}
use Rattle.drf_role.specs.TextLaws.{same_from_test}
use Rattle.drf_rows.specs.Holdings.{Holding, is_on, parts_on}
use Rattle.drf_audit.specs.Held.{parts_of}

abbrev pub Borrowed : Type 0
Borrowed = Vec (Bor (List Resource))

abbrev pub bundles_or : Option Borrowed → List (List Resource)
bundles_or o = option_map_or (λ v. parts_of v.items) o []

abbrev pub parts_at : List (Text × Borrowed) → Text → List (List Resource)
parts_at es q = bundles_or (lookup (same_text q) es)

-- one more bundle is stored for an agent
pub added_at : (old new : List (Text × Borrowed)) (agent : Text) (w : Option Borrowed) (bundle : List Resource)
    → ((q : Text) → lookup (same_text q) new ≡ cond (same_text agent q) w (lookup (same_text q) old))
    → bundles_or w ≡ parts_at old agent ++ bundle ∷ []
    → (q : Text) → parts_at new q ≡ parts_at old q ++ cond (same_text agent q) (bundle ∷ []) []
added_at old new agent w bundle written is q = ap bundles_or (written q) ∙ by (same_text agent q) (λ same. same_from_test agent q same)
  where
    by : (b : Bool) → (b ≡ true → agent ≡ q)
        → bundles_or (cond b w (lookup (same_text q) old)) ≡ parts_at old q ++ cond b (bundle ∷ []) []
    by true same = is ∙ ap (λ (t : Text). parts_at old t ++ bundle ∷ []) (same refl)
    by false same = sym (append-nil (parts_at old q))

one_more : (agent : Text) (h : Holding) (hs : List Holding) (old : List (List Resource))
    → (old ++ cond (same_text h.agent agent) (h.bundle ∷ []) []) ++ parts_on agent hs ≡ old ++ parts_on agent (h ∷ hs)
one_more agent h hs old = by (same_text h.agent agent) refl
  where
    by : (b : Bool) → same_text h.agent agent ≡ b
        → (old ++ cond (same_text h.agent agent) (h.bundle ∷ []) []) ++ parts_on agent hs ≡ old ++ parts_on agent (h ∷ hs)
    by true test = rw test (append_assoc old (h.bundle ∷ []) (parts_on agent hs))
    by false test = rw test (append_assoc old [] (parts_on agent hs))

module _ {X : Type 0} (of : X → Holding) (agent : Text) (xs : List X) (whole : List (List Resource)) where
  -- after one more element, the stored bundles and those of the remaining elements are still all bundles
  pub held_more : (old new : List (List Resource)) (i : ℕ) (x : X) → i < length xs → x ≡ get_or xs i x
      → old ++ parts_on agent (map of (drop i xs)) ≡ whole
      → new ≡ old ++ cond (same_text (of x).agent agent) ((of x).bundle ∷ []) []
      → new ++ parts_on agent (map of (drop (i + 1) xs)) ≡ whole
  held_more old new i x inside is so_far added =
      let left = drop (i + 1) xs in
      ap (λ (ps : List (List Resource)). ps ++ parts_on agent (map of left)) added
      ∙ one_more agent (of x) (map of left) old
      ∙ ap (λ y. old ++ parts_on agent (map of (y ∷ left))) is
      ∙ sym (at_drop_more (λ ys. old ++ parts_on agent (map of ys)) xs i x inside)
      ∙ so_far

  -- and at the end all bundles are stored
  pub held_all : (old : List (List Resource)) (i : ℕ) → length xs ≤ i
      → old ++ parts_on agent (map of (drop i xs)) ≡ whole → old ≡ whole
  held_all old i past so_far =
      sym (append-nil old) ∙ sym (ap (λ ys. old ++ parts_on agent (map of ys)) (drop_all i xs past)) ∙ so_far

-- the bundles of two lists
pub parts_on-append : (agent : Text) (xs ys : List Holding) → parts_on agent (xs ++ ys) ≡ parts_on agent xs ++ parts_on agent ys
parts_on-append agent xs ys =
    ap (map (λ h. h.bundle)) (filter-append (is_on agent) xs ys)
    ∙ map-append (λ h. h.bundle) (filter (is_on agent) xs) (filter (is_on agent) ys)
