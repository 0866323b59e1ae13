-- Lemmas about `specs/QuotaLaws.antt`.
use Rattle.std.specs.Prelude.{◌≡◌, ℕ, zero, suc, ◌+◌, ◌≤◌, min, Bool, true, false, not, ◌&&◌, ◌||◌, List, [], ◌∷◌, ◌++◌, map, fold, filter, flat_map, sum_by, slice_get, Option, Some, IsTrue, All}
use Rattle.std.specs.List.{list_any, count_by, reduce, AllByRecursion}
use Rattle.std.specs.Option.{option_map_or}
use Rattle.std.proofs.Common.{refl, sym, ap, ◌∙◌, inl, inr, cond, arith}
use Rattle.std.proofs.lemmas.Bool.{cases_Bool, and_parts, and_from, or_cases, false≢true}
use Rattle.std.proofs.lemmas.List.Elements.{All-head, All-tail}
use Rattle.std.proofs.lemmas.List.Sums.{sum_by-cons, sum_by-append}
use Rattle.drf_role.specs.Text.{Text, same_text}
use Rattle.drf_role.specs.TextLaws.{same_from_test}
use Rattle.drf_role.specs.Path.{Path}
use Rattle.drf_role.specs.PathLaws.{same_path-true}
use Rattle.drf_role.specs.Parts.{parts_of, text_of}
use Rattle.drf_role.specs.Role.{IsComponent, IsRole, IsRolePath, default_role}
use Rattle.drf_bundle.specs.Value.{Thousandths, units_in}
use Rattle.drf_bundle.specs.Quantities.{amount_of, is_named, names_of, with_amount}
use Rattle.drf_bundle.proofs.theorems.QuantitiesLaws.{amount-with, named-with}
use Rattle.drf_bundle.specs.Bundle.{Key, IsResource, IsBundle, is_default, is_unreserved, reservation, key_of, is_in_order, same_key, units, stock, part_for, clip, clipped, cut, moved_to, relabel}
use Rattle.drf_bundle.specs.laws.KeyLaws.{stands_first, unit_of, where-cons, unit-here, unit-none, units_first, same_key_true}
use Rattle.drf_bundle.proofs.theorems.PartLaws.{bundle-part_for, keeps-clipped, cut-falls}
use Rattle.drf_bundle.proofs.theorems.RestLaws.{where-changed-cons, where-changed-le}
use Rattle.drf_bundle.specs.laws.SumLaws.{of_name}
use Rattle.drf_bundle.proofs.theorems.SumLaws.{amount-quantities_of}
use Rattle.drf_bundle.specs.declared.quantities.Entry.{Entry}
use Rattle.drf_bundle.specs.declared.resource.Resource.{Resource}
use Rattle.drf_bundle.specs.declared.value.Value.{Value}
use Rattle.drf_bundle.specs.declared.value.Value.TheVariants.{Scalar, Ranges, Items}
use Rattle.drf_rows.specs.Client.{Client}
use Rattle.drf_rows.specs.Holdings.{Holding, holding_of_offer, holding_of_task, holdings_of, is_on}
use Rattle.drf_row_laws.proofs.HoldingsLaws.{holdings_of-with_offer}
use Rattle.drf_rows.specs.Cycle.{free_of, new_offer, with_offer, turn_order, at_timestamp, cycle}
use Rattle.drf_row_laws.proofs.FrameLaws.{Any, turns_keep}
use Rattle.drf_row_laws.proofs.CycleLaws.{bundle-free_of}
use Rattle.drf_rows.specs.Consistent.{IsAgent, IsHeld, IsCovered}
use Rattle.drf_bundle.proofs.ListLaws.{sum_by-map, sum_by-plus, sum_by_each_le, sum_by-groups, list_any-map, cond_le, each_from, each_filter, each_true}
use Rattle.drf_row_laws.proofs.TotalLaws.{one_agent}
use Rattle.drf_row_laws.proofs.MemberLaws.{amount_on, amount-cluster_total}
use Rattle.drf_rows.specs.Quota.{Consumed, unreserved_in, reserves, reserved_in, consumption_where, consumption, is_within, binds, room_under, headroom_under, headroom_at, limited_names, headroom, entitlement}
use Rattle.drf_rows.specs.declared.rows.AgentRow.{AgentRow}
use Rattle.drf_rows.specs.declared.rows.LimitRow.{LimitRow}
use Rattle.drf_rows.specs.declared.rows.OfferRow.{OfferRow}
use Rattle.drf_rows.specs.declared.rows.Rows.{Rows}
use Rattle.drf_row_laws.specs.QuotaLaws.{SpentLimitLeavesNothing, GrantKeepsLimits, CycleKeepsLimits, ConsumptionIsPartOfTotal, KeepsLimit}

-- what is relabelled for a role is reserved for it and the roles above it, as much as was unreserved
abbrev pub MovedIsReserved : Type 0
MovedIsReserved =
    (test : Path → Bool) (role : Path) (bundle : List Resource) (label : Text)
    → IsRole role
    → parts_of (text_of role) ≡ role
    → is_default role ≡ false
    → IsTrue (is_unreserved bundle)
    → reserved_in test label (relabel role bundle) ≡ cond (test role) (unreserved_in label bundle) 0

-- relabelled back, it is the same bundle as before
abbrev pub MovedBackIsAsBefore : Type 0
MovedBackIsAsBefore =
    (role : Path) (bundle : List Resource) → IsTrue (is_unreserved bundle) → relabel default_role (relabel role bundle) ≡ bundle

-- ---- the least headroom

fold_le : (n : ℕ) (ns : List ℕ) → fold min n ns ≤ n
fold_le n [] = omega arith
fold_le n (m ∷ ns) = omega (arith, fold_le (min n m) ns)

module _ (consumed : Consumed) (role : Path) (label : Text) where
  abbrev pub rooms : List LimitRow → List ℕ
  rooms ls = map (room_under consumed label) (filter (binds role label) ls)

  pub rooms-here : (l : LimitRow) (ls : List LimitRow) → binds role label l ≡ true → rooms (l ∷ ls) ≡ room_under consumed label l ∷ rooms ls
  rooms-here l ls here =
      ap (λ (b : Bool). map (room_under consumed label) (cond b (l ∷ filter (binds role label) ls) (filter (binds role label) ls))) here

  pub rooms-past : (l : LimitRow) (ls : List LimitRow) → binds role label l ≡ false → rooms (l ∷ ls) ≡ rooms ls
  rooms-past l ls past =
      ap (λ (b : Bool). map (room_under consumed label) (cond b (l ∷ filter (binds role label) ls) (filter (binds role label) ls))) past

  least_among : (n : ℕ) (ls : List LimitRow) (place : ℕ) (l : LimitRow) → slice_get ls place ≡ Some l → binds role label l ≡ true
      → fold min n (rooms ls) ≤ room_under consumed label l
  least_among n [] place l at here = cc
  least_among n (x ∷ xs) zero l at here =
      let same : x ≡ l = cc in
      let first : rooms (x ∷ xs) ≡ room_under consumed label x ∷ rooms xs = rooms-here x xs (ap (binds role label) same ∙ here) in
      omega (
        arith,
        ap (fold min n) first,
        fold_le (min n (room_under consumed label x)) (rooms xs),
        ap (room_under consumed label) same,
      )
  least_among n (x ∷ xs) (suc place) l at here = elim (cases_Bool (binds role label x)) [
    | inl binding ↦ omega (arith, ap (fold min n) (rooms-here x xs binding), least_among (min n (room_under consumed label x)) xs place l at here)
    | inr past ↦ omega (arith, ap (fold min n) (rooms-past x xs past), least_among n xs place l at here)
  ]

  -- the headroom is at most what each limit that restricts the role leaves
  pub headroom_le : (ls : List LimitRow) (place : ℕ) (l : LimitRow) → slice_get ls place ≡ Some l → binds role label l ≡ true
      → (n : ℕ) × (headroom_under ls consumed role label ≡ Some n) × (n ≤ room_under consumed label l)
  headroom_le [] place l at here = cc
  headroom_le (x ∷ xs) zero l at here =
      let same : x ≡ l = cc in
      let first : rooms (x ∷ xs) ≡ room_under consumed label x ∷ rooms xs = rooms-here x xs (ap (binds role label) same ∙ here) in (
        fold min (room_under consumed label x) (rooms xs),
        ap (reduce min) first,
        omega (arith, fold_le (room_under consumed label x) (rooms xs), ap (room_under consumed label) same),
      )
  headroom_le (x ∷ xs) (suc place) l at here = elim (cases_Bool (binds role label x)) [
    | inl binding ↦ (
      fold min (room_under consumed label x) (rooms xs),
      ap (reduce min) (rooms-here x xs binding),
      least_among (room_under consumed label x) xs place l at here,
    )
    | inr past ↦
        let more = headroom_le xs place l at here in
        (more.0, ap (reduce min) (rooms-past x xs past) ∙ more.1, more.2)
  ]

pub spent_limit_leaves_nothing : SpentLimitLeavesNothing
spent_limit_leaves_nothing rows role label place l at here spent =
    let least = headroom_le (consumption rows) role label rows.limits place l at here in
    let none : least.0 ≡ 0 = omega (arith, least.2, spent) in
    least.1 ∙ ap (λ n. Some n) none

-- ---- the headroom of a name

module _ (v : Text → ℕ) (label : Text) where
  abbrev pub put : List Entry → Text → List Entry
  put room n = with_amount room n (v n)

  -- the label is named, with its value
  abbrev pub IsPut : List Entry → Type 0
  IsPut room = (is_named room label ≡ true) × (amount_of room label ≡ v label)

  put_here : (room : List Entry) (n : Text) → same_text n label ≡ true → IsPut (put room n)
  put_here room n same = (
    named-with room n (v n) label ∙ ap (λ b. b || is_named room label) same,
    amount-with room n (v n) label ∙ ap (λ b. cond b (v n) (amount_of room label)) same ∙ ap v (same_from_test n label same),
  )

  put_more : (room : List Entry) (n : Text) → IsPut room → IsPut (put room n)
  put_more room n is = elim (cases_Bool (same_text n label)) [
    | inl same ↦ put_here room n same
    | inr other ↦ (
      named-with room n (v n) label ∙ ap (λ b. b || is_named room label) other ∙ is.0,
      amount-with room n (v n) label ∙ ap (λ b. cond b (v n) (amount_of room label)) other ∙ is.1,
    )
  ]

  all_put : (room : List Entry) (ns : List Text) → IsPut room → IsPut (fold put room ns)
  all_put room [] is = is
  all_put room (n ∷ ns) is = all_put (put room n) ns (put_more room n is)

  pub named_put : (room : List Entry) (ns : List Text) → list_any (λ n. same_text n label) ns ≡ true → IsPut (fold put room ns)
  named_put room [] among = absurd (false≢true among)
  named_put room (n ∷ ns) among = elim (or_cases (same_text n label) (list_any (λ n. same_text n label) ns) among) [
    | inl here ↦ all_put (put room n) ns (put_here room n here)
    | inr later ↦ named_put (put room n) ns later
  ]

pub any_append : (p : Text → Bool) (xs ys : List Text) → list_any p (xs ++ ys) ≡ (list_any p xs || list_any p ys)
any_append p [] ys = refl
any_append p (x ∷ xs) ys = elim (cases_Bool (p x)) [ inl here ↦ rw here refl | inr past ↦ rw past (any_append p xs ys) ]

-- the names in a limit that restricts the role are among the limited ones
limited : (role : Path) (label : Text) (ls : List LimitRow) (place : ℕ) (l : LimitRow)
    → slice_get ls place ≡ Some l → is_within l.role role ≡ true → is_named l.limit label ≡ true
    → list_any (λ n. same_text n label) (limited_names ls role) ≡ true
limited role label [] place l at within named = cc
limited role label (x ∷ xs) zero l at within named =
    let same : x ≡ l = cc in
    let here : is_within x.role role ≡ true = ap (λ (m : LimitRow). is_within m.role role) same ∙ within in
    let its : list_any (λ n. same_text n label) (names_of x.limit) ≡ true =
    list_any-map (λ n. same_text n label) (λ (e : Entry). e.label) x.limit ∙ ap (λ (m : LimitRow). is_named m.limit label) same ∙ named in
    more_names x xs here ∙ ap (λ b. b || list_any (λ n. same_text n label) (limited_names xs role)) its
  where
    more_names : (x : LimitRow) (xs : List LimitRow) → is_within x.role role ≡ true
        → list_any (λ n. same_text n label) (limited_names (x ∷ xs) role)
        ≡ (list_any (λ n. same_text n label) (names_of x.limit) || list_any (λ n. same_text n label) (limited_names xs role))
    more_names x xs here =
        ap (λ (b : Bool). list_any (λ n. same_text n label) (flat_map (λ (m : LimitRow). names_of m.limit)
        (cond b (x ∷ filter (λ m. is_within m.role role) xs) (filter (λ m. is_within m.role role) xs)))) here
        ∙ any_append (λ n. same_text n label) (names_of x.limit) (limited_names xs role)
limited role label (x ∷ xs) (suc place) l at within named =
    by (is_within x.role role) (limited role label xs place l at within named)
  where
    by : (b : Bool) → list_any (λ n. same_text n label) (limited_names xs role) ≡ true
        → list_any (λ n. same_text n label) (flat_map (λ (m : LimitRow). names_of m.limit)
        (cond b (x ∷ filter (λ m. is_within m.role role) xs) (filter (λ m. is_within m.role role) xs))) ≡ true
    by true more =
        any_append (λ n. same_text n label) (names_of x.limit) (limited_names xs role)
        ∙ ap (λ b. list_any (λ n. same_text n label) (names_of x.limit) || b) more ∙ or_true (list_any (λ n. same_text n label) (names_of x.limit))
      where
        or_true : (b : Bool) → (b || true) ≡ true
        or_true true = refl
        or_true false = refl
    by false more = more

-- ---- what cutting leaves

pub no_text : (role : Path) → IsRole role → is_default role ≡ false → same_text (text_of role) [] ≡ false
no_text role (inl default) other = absurd (false≢true (sym other ∙ ap is_default default))
no_text role (inr path) other = by role path
  where
    by : (role : Path) → IsRolePath role → same_text (text_of role) [] ≡ false
    by [] path = absurd (let some = path.some in omega arith)
    by ([] ∷ parts) path = absurd ((All-head IsComponent [] parts path.each).not_empty refl)
    by ((b ∷ bs) ∷ []) path = refl
    by ((b ∷ bs) ∷ p ∷ ps) path = refl

-- a resource without a reservation has the role `*`
pub for_everyone : (role : Path) → IsRole role → reservation role ≡ [] → is_default role ≡ true
for_everyone role right none = elim (cases_Bool (is_default role)) [
  | inl default ↦ default
  | inr other ↦
      let text : text_of role ≡ [] = ap (λ b. cond b [] (text_of role)) (sym other) ∙ none in
      absurd (false≢true (sym (no_text role right other) ∙ ap (λ (t : Text). same_text t []) text))
]

cut_le : (limited : Bool) (limit : ℕ) (v : Value) → limited ≡ true → units_in (cut limited limit v) Thousandths ≤ limit
cut_le false limit v named = absurd (false≢true named)
cut_le true limit (Scalar t) named = omega arith
cut_le true limit (Ranges a) named = omega arith
cut_le true limit (Items a) named = omega arith

unreserved-clip : (limits : List Entry) (label : Text) (rs : List Resource) → IsTrue (is_in_order rs) → All IsResource rs
    → is_named limits label ≡ true → unreserved_in label (clip limits rs) ≤ amount_of limits label
unreserved-clip limits label [] ordered each named = omega arith
unreserved-clip limits label (r ∷ rs) ordered each named =
    let key : Key = (label, []) in
    let f : Resource → Resource = clipped limits in
    let parts = and_parts (stands_first (key_of r) rs) (is_in_order rs) ordered in
    let whole = where-changed-cons f (keeps-clipped limits) (same_key key) Thousandths r rs in
    elim (cases_Bool (same_key key (key_of r))) [
      | inl here ↦
          let same : key ≡ key_of r = same_key_true key (key_of r) here in
          let name : r.label ≡ label = sym (ap (λ (k : Key). k.0) same) in
          let one = All-head IsResource r rs each in
          let default : is_default r.role ≡ true = for_everyone r.role one.role (sym (ap (λ (k : Key). k.1) same)) in
          let cut_here : (is_default r.role && is_named limits r.label) ≡ true =
          and_from (is_default r.role) (is_named limits r.label) default (ap (is_named limits) name ∙ named) in
          let here_le = cut_le (is_default r.role && is_named limits r.label) (amount_of limits r.label) r.value cut_here in
          let first : unit_of (same_key key) Thousandths (f r) ≡ units_in (f r).value Thousandths = unit-here (same_key key) Thousandths (f r) here in
          let none : units rs key Thousandths ≡ 0 =
          ap (λ (k : Key). units rs k Thousandths) same ∙ units_first (key_of r) rs Thousandths parts.0 in
          let rest = where-changed-le f (keeps-clipped limits)
          (λ s p. cut-falls (is_default s.role && is_named limits s.label) (amount_of limits s.label) s.value p) (same_key key) Thousandths rs in
          omega (arith, whole, first, here_le, none, rest, ap (amount_of limits) name)
      | inr past ↦
          omega (
            arith,
            whole,
            unit-none (same_key key) Thousandths (f r) past,
            unreserved-clip limits label rs parts.1 (All-tail IsResource r rs each) named,
          )
    ]

-- ---- one more offer

-- an offer adds what it has unreserved to the consumption of its client's roles
pub consumption-with_offer : (test : Path → Bool) (rows : Rows) (offer : OfferRow) (label : Text)
    → consumption_where test (with_offer rows offer) label
    ≡ consumption_where test rows label + cond (test offer.role) (unreserved_in label offer.bundle) 0
unfolding with_offer
consumption-with_offer test rows offer label =
    let f : Holding → ℕ = λ h. cond (test h.client.role) (unreserved_in label h.bundle) 0 in
    let before : List Holding = map holding_of_offer rows.offers in
    let after : List Holding = map holding_of_task rows.tasks in
    let held = ap (sum_by f) (holdings_of-with_offer rows offer) in
    omega (
      arith,
      held,
      sum_by-append f before (holding_of_offer offer ∷ after),
      sum_by-cons f (holding_of_offer offer) after,
      sum_by-append f before after,
    )

pub grant_keeps_limits : GrantKeepsLimits
grant_keeps_limits rows agent free client label place l right at binding =
    let role : Path = client.role in
    let test = and_parts (is_within l.role role) (is_named l.limit label) binding in
    let least = headroom_le (consumption rows) role label rows.limits place l at binding in
    let value : Text → ℕ = λ n. option_map_or (λ m. m) (headroom_at rows role n) 0 in
    let names : list_any (λ n. same_text n label) (limited_names rows.limits role) ≡ true = limited role label rows.limits place l at test.0 test.1 in
    let its = named_put value label [] (limited_names rows.limits role) names in
    let room : amount_of (headroom rows role) label ≡ least.0 = its.1 ∙ ap (λ (o : Option ℕ). option_map_or (λ m. m) o 0) least.1 in
    let part : List Resource = part_for role free in
    let is = bundle-part_for role free right in
    let cut_to = unreserved-clip (headroom rows role) label part is.in_order is.each its.0 in
    let bundle : List Resource = entitlement rows free client in
    omega (
      arith,
      consumption-with_offer (is_within l.role) rows (new_offer rows agent client bundle) label,
      cond_le (is_within l.role role) (unreserved_in label bundle),
      cut_to,
      room,
      least.2,
    )

module _ (start : Rows) (label : Text) (place : ℕ) (l : LimitRow) (at : slice_get start.limits place ≡ Some l)
    (named : IsTrue (is_named l.limit label)) where
  abbrev Keeps : Rows → Type 0
  Keeps rows = KeepsLimit start rows label l

  -- one more offer of the entitlement
  keeps-offer : (rows : Rows) (agent : AgentRow) (client : Client) → IsBundle agent.total → Keeps rows
      → Keeps (with_offer rows (new_offer rows agent client (entitlement rows (free_of rows agent) client)))
  unfolding with_offer
  keeps-offer rows agent client right keeps =
      let bundle : List Resource = entitlement rows (free_of rows agent) client in
      let here : slice_get rows.limits place ≡ Some l = ap (λ (ls : List LimitRow). slice_get ls place) keeps.limits ∙ at in
      record {
        limits = keeps.limits;
        consumed = elim (cases_Bool (is_within l.role client.role)) [
          | inl within ↦
              omega (
                arith,
                keeps.consumed,
                grant_keeps_limits rows agent (free_of rows agent) client label place l (bundle-free_of rows agent right) here
                    (and_from (is_within l.role client.role) (is_named l.limit label) within named),
              )
          | inr outside ↦
              omega (
                arith,
                keeps.consumed,
                consumption-with_offer (is_within l.role) rows (new_offer rows agent client bundle) label,
                ap (λ (b : Bool). cond b (unreserved_in label bundle) 0) outside,
              )
        ];
      }

pub cycle_keeps_limits : CycleKeepsLimits
unfolding cycle
cycle_keeps_limits rows at label place l consistent here named =
    let totals = each_from IsAgent (λ a. IsBundle a.total) rows.agents (λ a right. right.total) consistent.agents.each in
    let start : Rows = at_timestamp rows at in
    (turns_keep (λ after. KeepsLimit start after label l) (λ a. IsBundle a.total) Any (λ r kept. each_true (turn_order r))
    (λ r agent client right known is kept. keeps-offer start label place l here named r agent client right kept)
    start (filter (λ a. a.active) rows.agents)
    (each_filter (λ a. IsBundle a.total) (λ a. a.active) rows.agents totals)
    (record { limits = refl; consumed = omega arith })).consumed

-- ---- relabelling for a role

module _ (test : Path → Bool) (role : Path) (label : Text) (read : parts_of (text_of role) ≡ role)
    (other : is_default role ≡ false) (some : same_text (text_of role) [] ≡ false) where
  both : (a t : Bool) (u : ℕ) → cond (a && (true && t)) u 0 ≡ cond t (cond (a && true) u 0) 0
  both true true u = refl
  both true false u = refl
  both false true u = refl
  both false false u = refl

  moved_one : (r : Resource) → is_default r.role ≡ true
      → unit_of (reserves test label) Thousandths (moved_to role r) ≡ cond (test role) (unit_of (same_key (label, [])) Thousandths r) 0
  moved_one r default =
      let u : ℕ = units_in r.value Thousandths in
      let its : reservation role ≡ text_of role = ap (λ b. cond b [] (text_of role)) other in
      let none : reservation r.role ≡ [] = ap (λ b. cond b [] (text_of r.role)) default in
      ap (λ (t : Text). cond (same_text label r.label && (not (same_text t []) && test (parts_of t))) u 0) its
      ∙ (λ i. cond (same_text label r.label && (not (some i) && test (read i))) u 0)
      ∙ both (same_text label r.label) (test role) u
      ∙ ap (λ (t : Text). cond (test role) (cond (same_text label r.label && same_text [] t) u 0) 0) (sym none)

  cond-plus : (b : Bool) (m n : ℕ) → cond b (m + n) 0 ≡ cond b m 0 + cond b n 0
  cond-plus true m n = refl
  cond-plus false m n = refl

  all_moved : (rs : List Resource) → IsTrue (is_unreserved rs)
      → reserved_in test label (relabel role rs) ≡ cond (test role) (unreserved_in label rs) 0
  all_moved [] free = sym (nothing (test role))
    where
      nothing : (b : Bool) → ◌≡◌ {A = ℕ} (cond b 0 0) 0
      nothing true = refl
      nothing false = refl
  all_moved (r ∷ rs) free =
      let parts = and_parts (is_default r.role) (is_unreserved rs) free in
      omega (
        arith,
        where-cons (reserves test label) Thousandths (moved_to role r) (relabel role rs),
        moved_one r parts.0,
        all_moved rs parts.1,
        ap (λ n. cond (test role) n 0) (where-cons (same_key (label, [])) Thousandths r rs),
        cond-plus (test role) (unit_of (same_key (label, [])) Thousandths r) (unreserved_in label rs),
      )

pub moved_is_reserved : MovedIsReserved
moved_is_reserved test role bundle label right read other free =
    all_moved test role label read other (no_text role right other) bundle free

pub moved_back : MovedBackIsAsBefore
moved_back role [] free = refl
moved_back role (r ∷ rs) free =
    let parts = and_parts (is_default r.role) (is_unreserved rs) free in
    let default : default_role ≡ r.role = sym (same_path-true r.role default_role parts.0) in
    λ i. record { label = r.label; role = default i; value = r.value } ∷ moved_back role rs parts.1 i

-- ---- no more than the total

-- what is unreserved and what is reserved for some roles is at most everything with this name
apart : (a t : Bool) (k : Text) (u : ℕ) → cond (a && same_text [] k) u 0 + cond (a && (not (same_text k []) && t)) u 0 ≤ cond a u 0
apart false t k u = omega arith
apart true t [] u = omega arith
apart true true (b ∷ bs) u = omega arith
apart true false (b ∷ bs) u = omega arith

pub parts_le : (test : Path → Bool) (label : Text) (rs : List Resource)
    → unreserved_in label rs + reserved_in test label rs ≤ stock rs label Thousandths
parts_le test label [] = omega arith
parts_le test label (r ∷ rs) =
    omega (
      arith,
      where-cons (same_key (label, [])) Thousandths r rs,
      where-cons (reserves test label) Thousandths r rs,
      where-cons (of_name label) Thousandths r rs,
      apart (same_text label r.label) (test (parts_of (reservation r.role))) (reservation r.role) (units_in r.value Thousandths),
      parts_le test label rs,
    )

pub consumption_is_part_of_total : ConsumptionIsPartOfTotal
consumption_is_part_of_total test rows label consistent =
    let hs : List Holding = holdings_of rows in
    let free : Holding → ℕ = λ h. unreserved_in label h.bundle in
    let on : AgentRow → ℕ = λ a. sum_by free (filter (is_on a.name) hs) in
    let some = sum_by_each_le (λ h. cond (test h.client.role) (free h) 0) free hs
    (each_made_le hs) in
    let by_agent = sum_by-groups free (λ (h : Holding) (a : AgentRow). is_on a.name h) rows.agents hs
    (each_from (IsHeld rows.agents rows.frameworks) (λ h. count_by (λ a. is_on a.name h) rows.agents ≡ 1) hs
    (λ h held. one_agent rows h consistent held) consistent.holdings) in
    let there : AgentRow → ℕ = λ a. unreserved_in label a.total in
    let covered = each_from (IsCovered hs) (λ a. on a ≤ there a) rows.agents
    (λ a covers. omega (arith, covers (label, []) Thousandths, sum_by-map (λ part. units part (label, []) Thousandths) (λ (h : Holding). h.bundle) (filter (is_on a.name) hs)))
    consistent.covered in
    let both : AgentRow → ℕ = λ a. unreserved_in label a.total + reserved_in test label a.total in
    let each = each_parts_le rows.agents in
    omega (
      arith,
      some,
      by_agent,
      sum_by_each_le on there rows.agents covered,
      sum_by-plus there (λ a. reserved_in test label a.total) rows.agents,
      sum_by_each_le both (amount_on label) rows.agents each,
      amount-cluster_total rows.agents label consistent.agents.each,
    )
  where
    each_made_le : (hs : List Holding)
        → AllByRecursion (λ h. cond (test h.client.role) (unreserved_in label h.bundle) 0 ≤ unreserved_in label h.bundle) hs
    each_made_le [] = tt
    each_made_le (h ∷ hs) = (cond_le (test h.client.role) (unreserved_in label h.bundle), each_made_le hs)

    each_parts_le : (agents : List AgentRow)
        → AllByRecursion (λ a. unreserved_in label a.total + reserved_in test label a.total ≤ amount_on label a) agents
    each_parts_le [] = tt
    each_parts_le (a ∷ agents) =
        (omega (arith, parts_le test label a.total, amount-quantities_of a.total label), each_parts_le agents)
