-- Rows that can be saved can be read back from their lines.
use Rattle.std.proofs.Common.{◌≡◌, ℕ, ◌/◌, ◌%◌, ◌^◌, ◌<◌, true, List, [], ◌∷◌, map, All, refl, arith}
use Rattle.std.specs.Prelude.{⊤, ◌&&◌, nat_le, nat_lt, slice_index, sum_by}
use Rattle.std.specs.List.{AllByRecursion, list_all}
use Rattle.std.specs.Str.{IsAscii}
use Rattle.std.proofs.lemmas.Bool.{and_parts, leb-true, ltb-true}
use Rattle.std.proofs.lemmas.List.Elements.{All-nil, All-cons, All-weaker}
use Rattle.std.proofs.lemmas.List.Sums.{AllPass-from_list_all, sum_by-cons}
use Rattle.std.proofs.lemmas.Str.{IsUtf8-from_ascii}
use Rattle.std.proofs.lemmas.Str.Ascii.{IsAscii-from_all}
use Rattle.hex.specs.Hex.{encode_lower, encode_with, lower_digits}
use Rattle.sha2.specs.Sha256.{sha256}
use Rattle.drf_role.specs.Name.{IsName}
use Rattle.drf_role.specs.Parts.{text_of}
use Rattle.drf_role.specs.Role.{IsRole}
use Rattle.drf_role.proofs.RoleLaws.{parts_of_role}
use Rattle.drf_role.specs.Text.{Text}
use Rattle.drf_bundle.specs.Bundle.{IsBundle}
use Rattle.drf_bundle.specs.declared.resource.Resource.{Resource}
use Rattle.drf_text.specs.RoundTrip.{BundleIsRead, QuantitiesAreRead, WeightIsRead}
use Rattle.drf_text.specs.Written.{amount_text, bundle_text, quantities_text}
use Rattle.drf_rows.specs.Consistent.{IsFilter, are_rising, offers_counted}
use Rattle.drf_rows.specs.Filters.{in_force, is_in_force}
use Rattle.drf_rows.specs.LimitNumbers.{LimitNumbers, IsWithinCeilings}
use Rattle.drf_rows.specs.Weights.{are_weights, is_weight}
use Rattle.drf_bundle.proofs.ListLaws.{each_append, each_filter, each_from, each_made, each_map}
use Rattle.drf_rows.specs.declared.rows.ClientRow.{ClientRow}
use Rattle.drf_rows.specs.declared.rows.FrameworkRow.{FrameworkRow}
use Rattle.drf_rows.specs.declared.rows.OfferRow.{OfferRow}
use Rattle.drf_rows.specs.declared.rows.Rows.{Rows}
use Rattle.drf_rows.specs.declared.rows.WeightRow.{WeightRow}
use Rattle.drf_saved.specs.Saved.{head_of, saved_rows}
use Rattle.drf_saved.specs.declared.saved.SavedRow.{SavedRow}
use Rattle.drf_saved.specs.declared.saved.SavedRow.TheVariants.{Agent, Framework, Weight, Limit, Offer, Task, Filter}
use Rattle.drf_saved_laws.specs.SavedLaws.{IsSaveable}
use Rattle.drf_lines.specs.FrameworkRows.{IsClientRead}
use Rattle.drf_lines.specs.Written.{IsText}
use Rattle.drf_lines.proofs.Rows.{IsBundleReported, IsNameReported, IsRoleReported, agent_read, end_read, filter_read, framework_read, head_read, limit_read, offer_read, task_read, weight_read}
use Rattle.drf_lines.proofs.Texts.{bundle_said, name_read, quantities_said, role_read, weight_said}
use Rattle.drf_state.specs.Read.{AreRead, IsRead, IsReadBack}
use Rattle.drf_state.specs.State.{body_text, lines_before}
use Rattle.drf_state.specs.Valid.{AreValid, IsValidRow}
use Rattle.drf_state.proofs.Plain.{IsPlain, behind, nothing, plain_amount, plain_bundle, plain_name, plain_quantities, plain_role}

-- ---- texts

is_text : (text : List ℕ) → IsPlain text → IsText text
unfolding IsText
is_text text plain = IsUtf8-from_ascii text (IsAscii-from_all text plain)

name_reported : (name : Text) → IsName name → IsNameReported name
name_reported name is = (name_read name is, is_text name (plain_name name is))

role_reported : (role : List Text) → IsRole role → IsRoleReported role
role_reported role is = (role_read role is (parts_of_role role is), is_text (text_of role) (plain_role role is))

bundle_reported : BundleIsRead → (bundle : List Resource) → IsBundle bundle → IsBundleReported bundle
bundle_reported law bundle is = (bundle_said bundle law is, is_text (bundle_text bundle) (plain_bundle bundle is))

-- the digits of a digest are ASCII
digits_are : IsAscii lower_digits
digits_are =
    IsAscii-from_all lower_digits
    (All-weaker (λ b. nat_lt b 128 ≡ true) (λ b. b < 128) (λ b low. ltb-true b 128 low) lower_digits (AllPass-from_list_all (λ b. nat_lt b 128) lower_digits refl))

digest_plain : (bytes : List ℕ) → IsPlain (encode_lower bytes)
unfolding encode_with
digest_plain [] = nothing
digest_plain (b ∷ bytes) =
    behind (slice_index lower_digits (b / 16)) (slice_index lower_digits (b % 16) ∷ encode_lower bytes) (digits_are (b / 16))
    (behind (slice_index lower_digits (b % 16)) (encode_lower bytes) (digits_are (b % 16)) (digest_plain bytes))

-- ---- a row whose numbers are below 2^64

abbrev HasSmallNumbers : SavedRow → Type 0
HasSmallNumbers (Agent a) = ⊤
HasSmallNumbers (Framework f) = AllByRecursion (λ c. c.count < 2 ^ 64) f.clients
HasSmallNumbers (Weight w) = w.weight < 2 ^ 64
HasSmallNumbers (Limit l) = ⊤
HasSmallNumbers (Offer o) = o.number < 2 ^ 64
HasSmallNumbers (Task t) = ⊤
HasSmallNumbers (Filter f) = f.until < 2 ^ 64

-- written values can be read
pub record TextsAreRead : Type 0 where
  pub bundle : BundleIsRead
  pub quantities : QuantitiesAreRead
  pub weight : WeightIsRead

clients_reported : (clients : List ClientRow) → AllByRecursion IsRole (map (λ c. c.role) clients) → AllByRecursion (λ c. c.count < 2 ^ 64) clients → All IsClientRead clients
clients_reported [] roles small = All-nil IsClientRead
clients_reported (c ∷ clients) roles small =
    let reported = role_reported c.role roles.0 in
    All-cons IsClientRead c clients (record { role = reported.0; text = reported.1; small = small.0 }) (clients_reported clients roles.1 small.1)

row_read : TextsAreRead → (row : SavedRow) → IsValidRow row → HasSmallNumbers row → IsRead row
row_read law (Agent a) valid small = agent_read a (name_reported a.name valid.0) (bundle_reported law.bundle a.total valid.1)
row_read law (Framework f) valid small = framework_read f (clients_reported f.clients valid.roles small) (name_reported f.name valid.name)
row_read law (Weight w) valid small =
    weight_read w (role_reported w.role valid) (weight_said w.weight law.weight small) (is_text (amount_text w.weight) (plain_amount w.weight small))
row_read law (Limit l) valid small =
    limit_read l (role_reported l.role valid.0) (quantities_said l.limit (law.quantities l.limit valid.1.in_order valid.1.each))
    (is_text (quantities_text l.limit) (plain_quantities l.limit valid.1.each))
row_read law (Offer o) valid small =
    offer_read o (name_reported o.agent valid.0) (name_reported o.framework valid.1) (role_reported o.role valid.2) (bundle_reported law.bundle o.bundle valid.3) small
row_read law (Task t) valid small =
    task_read t (name_reported t.agent valid.1) (name_reported t.framework valid.2) (role_reported t.role valid.3) (bundle_reported law.bundle t.bundle valid.4) (name_reported t.name valid.0)
row_read law (Filter f) valid small =
    filter_read f (name_reported f.agent valid.0) (name_reported f.framework valid.1) (role_reported f.role valid.2) (bundle_reported law.bundle f.bundle valid.3) small

rows_read : TextsAreRead → (rows : List SavedRow) → AllByRecursion IsValidRow rows → AllByRecursion HasSmallNumbers rows → AreRead rows
rows_read law [] valid small = tt
rows_read law (row ∷ rows) valid small = (row_read law row valid.0 small.0, rows_read law rows valid.1 small.1)

-- ---- the numbers of rows that can be saved are below 2^64

clients_small : (clients : List ClientRow) → sum_by (λ c. c.count) clients < 2 ^ 64 → AllByRecursion (λ c. c.count < 2 ^ 64) clients
clients_small [] small = tt
clients_small (c ∷ clients) small =
    let sum = sum_by-cons {X = ClientRow} (λ d. d.count) c clients in
    (omega arith, clients_small clients (omega arith))

frameworks_small : (frameworks : List FrameworkRow) → offers_counted frameworks < 2 ^ 64
    → AllByRecursion (λ f. AllByRecursion (λ c. c.count < 2 ^ 64) f.clients) frameworks
frameworks_small [] small = tt
frameworks_small (f ∷ frameworks) small =
    let sum = sum_by-cons {X = FrameworkRow} (λ g. sum_by (λ c. c.count) g.clients) f frameworks in
    (clients_small f.clients (omega arith), frameworks_small frameworks (omega arith))

weights_small : (weights : List WeightRow) → are_weights weights ≡ true → AllByRecursion (λ w. w.weight < 2 ^ 64) weights
weights_small [] are = tt
weights_small (w ∷ weights) are =
    let parts = and_parts (is_weight w.weight) (are_weights weights) are in
    let most = leb-true w.weight 1000000 (and_parts (nat_le 1 w.weight) (nat_le w.weight 1000000) parts.0).1 in
    (omega (arith, most), weights_small weights parts.1)

offers_small : (offers : List OfferRow) (next : ℕ) → are_rising (map (λ o. o.number) offers) next ≡ true → next < 2 ^ 64 → AllByRecursion (λ o. o.number < 2 ^ 64) offers
offers_small [] next rising small = tt
offers_small (o ∷ offers) next rising small =
    let parts = and_parts (nat_lt o.number next && list_all (nat_lt o.number) (map (λ o. o.number) offers)) (are_rising (map (λ o. o.number) offers) next) rising in
    let first = ltb-true o.number next (and_parts (nat_lt o.number next) (list_all (nat_lt o.number) (map (λ o. o.number) offers)) parts.0).0 in
    (omega (arith, first, small), offers_small offers next parts.1 small)

numbers_small : (limits : LimitNumbers) (rows : Rows) → IsWithinCeilings limits → IsSaveable limits rows → rows.next_offer < 2 ^ 63
numbers_small limits rows ceilings can = let a = ceilings.events.1 in let b = can.within.events in let c = can.numbered in omega arith

all_small : (limits : LimitNumbers) (rows : Rows) → IsWithinCeilings limits → IsSaveable limits rows → AllByRecursion HasSmallNumbers (saved_rows rows)
all_small limits rows ceilings can =
    let is = can.consistent in
    let next = numbers_small limits rows ceilings can in
    each_append HasSmallNumbers (map Agent rows.agents) _ (each_made HasSmallNumbers Agent rows.agents (λ a. tt))
    (each_append HasSmallNumbers (map Framework rows.frameworks) _
    (each_map HasSmallNumbers Framework rows.frameworks (frameworks_small rows.frameworks (omega (arith, is.counted, next))))
    (each_append HasSmallNumbers (map Weight rows.weights) _ (each_map HasSmallNumbers Weight rows.weights (weights_small rows.weights is.weights.each))
    (each_append HasSmallNumbers (map Limit rows.limits) _ (each_made HasSmallNumbers Limit rows.limits (λ l. tt))
    (each_append HasSmallNumbers (map Offer rows.offers) _
    (each_map HasSmallNumbers Offer rows.offers (offers_small rows.offers rows.next_offer is.numbered (omega (arith, next))))
    (each_append HasSmallNumbers (map Task rows.tasks) _ (each_made HasSmallNumbers Task rows.tasks (λ t. tt))
    (each_map HasSmallNumbers Filter (in_force rows.clock rows.filters)
    (each_filter (λ f. f.until < 2 ^ 64) (is_in_force rows.clock) rows.filters (each_from (IsFilter rows.agents rows.frameworks) (λ f. f.until < 2 ^ 64) rows.filters (λ f held. omega (arith, held.until)) is.filters))))))))

-- the text of rows that can be saved can be read
pub read_back : TextsAreRead → (limits : LimitNumbers) (rows : Rows) → IsWithinCeilings limits → IsSaveable limits rows → AreValid rows → lines_before rows < 2 ^ 64
    → IsReadBack rows
read_back law limits rows ceilings can valid few = record {
  head =
      let a = ceilings.events.1 in let b = can.within.events in let next = numbers_small limits rows ceilings can in
      head_read (head_of rows) (omega (arith, can.consistent.early)) (omega arith) (omega arith);
  each = rows_read law (saved_rows rows) valid (all_small limits rows ceilings can);
  end = end_read (lines_before rows) (encode_lower (sha256 (body_text rows))) few (is_text _ (digest_plain (sha256 (body_text rows))));
}
