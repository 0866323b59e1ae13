-- The stored clients and grants are those of the findings of a turn.
use Rattle.std.specs.Prelude.{◌≡◌, ℕ, ◌+◌, ◌<◌, ◌≤◌, Bool, true, false, List, [], ◌∷◌, ◌++◌, length, filter, flat_map, take, drop, Option, Some, None, IfSome, if◌then◌else◌, nat_lt, slice_index}
use Rattle.std.specs.List.{position, position_from, position_or_len}
use Rattle.std.specs.Borrow.{Bor}
use Rattle.std.proofs.Common.{refl, sym, ap, ◌∙◌, cond, arith, get_or, below_more}
use Rattle.std.proofs.lemmas.Bool.{ltb-true}
use Rattle.std.proofs.lemmas.List.{drop_more, get_or_append_left, get_or_default, get_or_push, length-append, length-map, take-append-drop, take_all, take_at, take-map}
use Rattle.std.proofs.lemmas.List.Elements.{filter-append, filter_more}
use Rattle.std.proofs.lemmas.List.Folds.{flat_map-map}
use Rattle.drf_role.specs.Path.{Path}
use Rattle.drf_bundle.specs.declared.resource.Resource.{Resource}
use Rattle.drf_explain.specs.declared.finding.Finding.{Finding}
use Rattle.drf_explain.specs.declared.finding.Finding.TheVariants.{Suppressed, Inactive, NothingFree, Tried, Left}
use Rattle.drf_explain.specs.declared.finding.Outcome.TheVariants.{Grant, HeldBack, OverLimit, BelowThreshold, NothingLeft, ReservedForOthers}
use Rattle.drf_why.specs.Passers.{begins_with_grant, passers_by, taker_in}
use Rattle.drf_why.specs.Pick.{is_grant, is_of_client}
use Rattle.drf_why.specs.Places.{AreGrantsIn, ArePlacesIn, findings_of, place_in}
use Rattle.drf_why.specs.declared.grants.Grants.{Grants}
use Rattle.drf_why.specs.declared.places.Places.{Places}

-- ---- indexes

-- the index after one finding more; findings are read from the last to the first
pub place_more : (test : Finding → Bool) (findings : List Finding) (i j : ℕ) (finding : Finding) → i ≡ j + 1 → j < length findings
    → finding ≡ get_or findings j finding
    → cond (test finding) (Some j) (position_from test i (drop i findings)) ≡ position_from test j (drop j findings)
place_more test findings i j finding next inside is =
    (λ k. cond (test (is k)) (Some j) (position_from test (next k) (drop (next k) findings)))
    ∙ sym (ap (position_from test j) (drop_more findings j finding inside))

position-within : (test : Finding → Bool) (findings : List Finding) (place : ℕ) → position test findings ≡ Some place → place < length findings
position-within test findings place = by (nat_lt (position_or_len test findings) (length findings)) refl
  where
    by : (inside : Bool) → nat_lt (position_or_len test findings) (length findings) ≡ inside
        → cond inside (Some (position_or_len test findings)) None ≡ Some place → place < length findings
    by true is found =
        let same : position_or_len test findings ≡ place = cc in
        omega (arith, same, ltb-true (position_or_len test findings) (length findings) is)
    by false is found = absurd cc

-- a stored index is less than the number of findings
pub place-within : (findings : List Finding) (places : Places) (path : Path) (place : Option ℕ) → ArePlacesIn findings places
    → place ≡ place_in places path → IfSome place (λ p. p < length findings)
place-within findings places path None are is = tt
place-within findings places path (Some place) are is = position-within (is_of_client path) findings place (sym (is ∙ are path))

pub place-inside : (findings : List Finding) (places : Places) (path : Path) (found : Option ℕ) (place : ℕ) → ArePlacesIn findings places
    → found ≡ place_in places path → found ≡ Some place → place < length findings
place-inside findings places path found place are is some = position-within (is_of_client path) findings place (sym (are path) ∙ sym is ∙ some)

-- ---- grants

-- the grants before an index are a prefix of all grants
pub prefix-kept : {X : Type 0} (test : X → Bool) (xs : List X) (n : ℕ) → take (length (filter test (take n xs))) (filter test xs) ≡ filter test (take n xs)
prefix-kept test xs n =
    ap (take (length (filter test (take n xs)))) (ap (filter test) (sym (take-append-drop n xs)) ∙ filter-append test (take n xs) (drop n xs))
    ∙ take_at (filter test (take n xs)) (filter test (drop n xs)) (length (filter test (take n xs))) refl

-- and their number is at most that of all grants
pub prefix-few : {X : Type 0} (test : X → Bool) (xs : List X) (n : ℕ) → length (filter test (take n xs)) ≤ length (filter test xs)
prefix-few test xs n =
    let whole : length (filter test xs) ≡ length (filter test (take n xs)) + length (filter test (drop n xs)) =
    ap length (ap (filter test) (sym (take-append-drop n xs)) ∙ filter-append test (take n xs) (drop n xs))
    ∙ length-append (filter test (take n xs)) (filter test (drop n xs)) in
    omega (arith, whole)

-- the grants after one finding more
pub grant_more : (findings : List Finding) (i : ℕ) (finding : Finding) (old new : List Finding) → i < length findings → finding ≡ get_or findings i finding
    → old ≡ filter is_grant (take i findings) → new ≡ old ++ (if is_grant finding then finding ∷ [] else [])
    → new ≡ filter is_grant (take (i + 1) findings)
grant_more findings i finding old new inside is so_far added =
    added
    ∙ (λ k. so_far k ++ (if is_grant (is k) then is k ∷ [] else []))
    ∙ sym (filter_more is_grant findings i finding inside)

-- the grants are those of the first findings, and `before` is right for each of these
pub record AreGrantsTo (findings : List Finding) (i : ℕ) (grants : Grants) : Type 0 where
  pub all : findings_of grants.all.items ≡ filter is_grant (take i findings)
  pub long : length grants.before.items ≡ i
  pub before : (place : ℕ) → place < i → slice_index grants.before.items place ≡ length (filter is_grant (take place findings))

-- one finding more
pub one_granted : (findings : List Finding) (i : ℕ) (finding : Finding) (old new : Grants) → AreGrantsTo findings i old → i < length findings
    → finding ≡ get_or findings i finding
    → findings_of new.all.items ≡ findings_of old.all.items ++ (if is_grant finding then finding ∷ [] else [])
    → new.before.items ≡ old.before.items ++ length old.all.items ∷ []
    → AreGrantsTo findings (i + 1) new
one_granted findings i finding old new so_far inside is added counted =
    let many : length old.all.items ≡ length (filter is_grant (take i findings)) =
    sym (length-map old.all.items (λ (f : Bor Finding). f.now)) ∙ ap length so_far.all in
    record {
      all = grant_more findings i finding (findings_of old.all.items) (findings_of new.all.items) inside is so_far.all added;
      long =
          let longer = ap length counted ∙ length-append old.before.items (length old.all.items ∷ []) in
          omega (arith, longer, so_far.long);
      before =
          below_more (λ place. slice_index new.before.items place ≡ length (filter is_grant (take place findings))) i
          (λ place earlier.
          ap (λ (ns : List ℕ). slice_index ns place) counted
          ∙ get_or_append_left old.before.items (length old.all.items ∷ []) 0 place (omega (arith, earlier, so_far.long))
          ∙ so_far.before place earlier)
          (ap (λ (ns : List ℕ). slice_index ns i) counted ∙ get_or_push old.before.items (length old.all.items) 0 i so_far.long ∙ many);
    }

-- all findings
pub all_granted : (findings : List Finding) (i : ℕ) (grants : Grants) → AreGrantsTo findings i grants → i ≡ length findings
    → AreGrantsIn findings grants
all_granted findings i grants so_far all = record {
  all = so_far.all ∙ ap (filter is_grant) (take_all i findings (omega (arith, all)));
  long = so_far.long ∙ all;
  before = λ place inside. so_far.before place (omega (arith, all, inside));
}

module _ (findings : List Finding) (grants : Grants) (place before : ℕ) (are : AreGrantsIn findings grants) (inside : place < length findings)
    (read : before ≡ get_or grants.before.items place before) where
  before-known : before ≡ length (filter is_grant (take place findings))
  before-known = read ∙ get_or_default grants.before.items place before 0 (omega (arith, inside, are.long)) ∙ are.before place inside

  -- the slice of all grants that come before an index
  pub grants_prefix : findings_of (take before grants.all.items) ≡ filter is_grant (take place findings)
  grants_prefix =
      sym (take-map (λ (f : Bor Finding). f.now) before grants.all.items)
      ∙ (λ k. take (before-known k) (are.all k))
      ∙ prefix-kept is_grant findings place

  pub grants_few : before ≤ length grants.all.items
  grants_few =
      let many : length grants.all.items ≡ length (filter is_grant findings) =
      sym (length-map grants.all.items (λ (f : Bor Finding). f.now)) ∙ ap length are.all in
      omega (arith, before-known, prefix-few is_grant findings place, many)

-- only grants take anything from a bundle
pub granted-takers : (bundle : List Resource) (findings : List Finding)
    → flat_map (taker_in bundle) (filter is_grant findings) ≡ flat_map (taker_in bundle) findings
granted-takers bundle [] = refl
granted-takers bundle (Suppressed client ∷ findings) = granted-takers bundle findings
granted-takers bundle (Inactive agent ∷ findings) = granted-takers bundle findings
granted-takers bundle (NothingFree agent ∷ findings) = granted-takers bundle findings
granted-takers bundle (Left agent left clients ∷ findings) = granted-takers bundle findings
granted-takers bundle (Tried agent client (Grant taken) ∷ findings) =
    ap (λ paths. taker_in bundle (Tried agent client (Grant taken)) ++ paths) (granted-takers bundle findings)
granted-takers bundle (Tried agent client (HeldBack until) ∷ findings) = granted-takers bundle findings
granted-takers bundle (Tried agent client (OverLimit role) ∷ findings) = granted-takers bundle findings
granted-takers bundle (Tried agent client BelowThreshold ∷ findings) = granted-takers bundle findings
granted-takers bundle (Tried agent client NothingLeft ∷ findings) = granted-takers bundle findings
granted-takers bundle (Tried agent client ReservedForOthers ∷ findings) = granted-takers bundle findings

pub granted-passers : (own earlier : List Finding) (bundle : List Resource) → passers_by own (filter is_grant earlier) bundle ≡ passers_by own earlier bundle
granted-passers own earlier bundle = ap (λ (paths : List Path). if begins_with_grant own then [] else paths) (granted-takers bundle earlier)

-- ---- borrowed findings

pub borrowed-takers : (bundle : List Resource) (findings : List (Bor Finding))
    → flat_map (taker_in bundle) (findings_of findings) ≡ flat_map (λ f. taker_in bundle f.now) findings
borrowed-takers bundle findings = flat_map-map (taker_in bundle) (λ (f : Bor Finding). f.now) findings
