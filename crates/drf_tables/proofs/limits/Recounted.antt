-- Consumption stays right through each change of the rows.
use Rattle.std.specs.List.{AllByRecursion}
use Rattle.std.specs.Map.{remove_entry}
use Rattle.std.specs.Option.{option_map_or}
use Rattle.std.proofs.Common.{refl, sym, ap, ◌∙◌, cond, inl, inr, arith, ◌≡◌, ℕ, ◌+◌, ◌<◌, ◌≤◌, ◌^◌, Bool, true, false, List, [], ◌∷◌, ◌++◌, map, Option, Some, None, IfSome, length}
use Rattle.std.proofs.lemmas.Bool.{cases_Bool}
use Rattle.std.proofs.lemmas.List.Sums.{sum_by-append, sum_by-cons}
use Rattle.drf_tables.proofs.tables.Names.{Text, same_text, Path, same_path, Key, IsBundle, quantities_of, rest, units, units_where, amount_of, Resource, IsConsistent, same_text-swap, Holding, holdings_of, holding_of_offer, holding_of_task, CanStart, offer_at, task_of, consumption_where, held_unreserved, reserved_for, reserved_in, reserves, unreserved_in, CanExchange, agent_at, exchanged, with_total, AgentRow, OfferRow, Rows, IsConsumptionOf, Usage, used_by, used_where, agent_row, Amounts, CountsAll, IsRaisedIf, reserved_at, Agent}
use Rattle.drf_role.specs.PathLaws.{same_path_itself}
use Rattle.drf_bundle.specs.laws.FitLaws.{join_some}
use Rattle.drf_bundle.specs.laws.JoinLaws.{where-merged}
use Rattle.drf_bundle.proofs.theorems.RestLaws.{bundle-rest}
use Rattle.drf_bundle.proofs.theorems.SumLaws.{amount-quantities_of}
use Rattle.drf_bundle.specs.Taken.{rest_of_all, units_of_all}
use Rattle.drf_bundle.proofs.theorems.TakenLaws.{units-rest_of_all}
use Rattle.drf_bundle.proofs.theorems.UnitProofs.{covers_by_units, rest_and_part}
use Rattle.drf_bundle.specs.Value.{Point, Thousandths}
use Rattle.drf_row_laws.proofs.ReleaseLaws.{IsOneLess, accepted_in, offer_held, offer_out, started_by, sum_by-out, tasks_last}
use Rattle.drf_row_laws.proofs.QuotaLaws.{consumption_is_part_of_total, parts_le}
use Rattle.drf_row_laws.proofs.RegistrationLaws.{agent_added, new_agent}
use Rattle.drf_rows.proofs.TaskLaws.{units-covers_all}
use Rattle.drf_rows.specs.Tasks.{Start, uses}
use Rattle.drf_row_laws.proofs.TotalsLaws.{agents_after, agents_before, agents_stand, stock-exchanged, where-exchanged, with_total-place}
use Rattle.drf_rows.specs.declared.limits.TheConstants.{LARGEST_AMOUNT}
use Rattle.drf_rows.specs.declared.rows.FilterRow.{FilterRow}
use Rattle.drf_tables.proofs.tables.Fields.{sums_fit}

-- what holdings of roles that pass a test have unreserved, and what agents have reserved for these roles
abbrev held_by : (Path → Bool) → Text → Holding → ℕ
held_by test label h = cond (test h.client.role) (unreserved_in label h.bundle) 0

abbrev reserved_by : (Path → Bool) → Text → AgentRow → ℕ
reserved_by test label a = reserved_in test label a.total

-- ---- known consumption

-- what holds for the consumption of the rows holds for the stored one
pub counted_so : (rows : Rows) (before : Option (List Usage)) → CountsAll rows before → (P : List Usage → Type 0)
    → ((used : List Usage) → IsConsumptionOf rows used → P used) → IfSome before P
counted_so rows None counted P so = tt
counted_so rows (Some used) counted P so = so used counted.each

-- an amount was added, and then another one subtracted
pub counts-moved : (old : Rows) (before : Option (List Usage)) → CountsAll old before → (new : Rows) (mid after : Option (List Usage)) (more less : Amounts)
    → IsRaisedIf before mid more → IsRaisedIf after mid less
    → ((test : Path → Bool) (label : Text)
    → consumption_where test new label + less test label ≡ consumption_where test old label + more test label)
    → CountsAll new after
counts-moved old before counted new mid None more less raised released moved = record { each = tt }
counts-moved old before counted new None (Some a) more less raised released moved = absurd released
counts-moved old None counted new (Some m) (Some a) more less raised released moved = absurd raised
counts-moved old (Some b) counted new (Some m) (Some a) more less raised released moved =
    record { each = λ test label. omega (arith, counted.each test label, raised test label, released test label, moved test label) }

-- an amount was subtracted, and then another one added, unless memory ran out
pub counts-replaced : (old : Rows) (before : Option (List Usage)) → CountsAll old before → (new : Rows) (mid after : Option (List Usage)) (less more : Amounts)
    → IsRaisedIf mid before less → IfSome after (λ used. IsRaisedIf mid (Some used) more)
    → ((test : Path → Bool) (label : Text)
    → consumption_where test new label + less test label ≡ consumption_where test old label + more test label)
    → CountsAll new after
counts-replaced old before counted new mid None less more released raised moved = record { each = tt }
counts-replaced old before counted new None (Some a) less more released raised moved = absurd raised
counts-replaced old None counted new (Some m) (Some a) less more released raised moved = absurd released
counts-replaced old (Some b) counted new (Some m) (Some a) less more released raised moved =
    record { each = λ test label. omega (arith, counted.each test label, released test label, raised test label, moved test label) }

-- nothing was added
pub raised_nothing : (consumption : Option (List Usage)) → IsRaisedIf consumption consumption (λ test label. 0)
raised_nothing None = tt
raised_nothing (Some used) = λ test label. omega arith

module _ (old : Rows) (before : Option (List Usage)) (counted : CountsAll old before) where
  -- roles consume less, and as much was subtracted
  pub counts-released : (new : Rows) (after : Option (List Usage)) (less : Amounts) → IsRaisedIf after before less
      → ((test : Path → Bool) (label : Text) → consumption_where test old label ≡ consumption_where test new label + less test label)
      → CountsAll new after
  counts-released new after less raised fewer =
      counts-moved old before counted new before after (λ test label. 0) less (raised_nothing before) raised
      (λ test label. omega (arith, fewer test label))

  -- roles consume more, and as much was added
  pub counts-consumed : (new : Rows) (after : Option (List Usage)) (more : Amounts) → IsRaisedIf before after more
      → ((test : Path → Bool) (label : Text) → consumption_where test new label ≡ consumption_where test old label + more test label)
      → CountsAll new after
  counts-consumed new after more raised more_is =
      by after raised
    where
      by : (a : Option (List Usage)) → IsRaisedIf before a more → CountsAll new a
      by None raised' = record { each = tt }
      by (Some a) raised' =
          counts-replaced old before counted new before (Some a) (λ test label. 0) more (raised_nothing before) raised'
          (λ test label. omega (arith, more_is test label))

  -- roles consume as much as before
  pub counts-still : (after : Option (List Usage)) → IsRaisedIf before after (λ test label. 0) → CountsAll old after
  counts-still after same = counts-consumed old after (λ test label. 0) same (λ test label. omega arith)

  -- an amount was added and subtracted again
  pub counts-back : (mid after : Option (List Usage)) (more : Amounts) → IsRaisedIf before mid more → IsRaisedIf after mid more → CountsAll old after
  counts-back mid after more raised released =
      counts-moved old before counted old mid after more more raised released (λ test label. refl)

  -- after an amount is subtracted, another can be added without overflow
  pub replaces_fit : (new : Rows) (mid : Option (List Usage)) (less more : Amounts) → IsRaisedIf mid before less
      → ((test : Path → Bool) (label : Text)
      → consumption_where test new label + less test label ≡ consumption_where test old label + more test label)
      → ((test : Path → Bool) (label : Text) → consumption_where test new label < 2 ^ 64)
      → IfSome mid (λ used. (test : Path → Bool) (label : Text) → used_where test used label + more test label < 2 ^ 64)
  replaces_fit new mid less more released moved fits = by before counted mid released
    where
      by : (b : Option (List Usage)) → CountsAll old b → (m : Option (List Usage)) → IsRaisedIf m b less
          → IfSome m (λ used. (test : Path → Bool) (label : Text) → used_where test used label + more test label < 2 ^ 64)
      by b counted' None released' = tt
      by None counted' (Some m) released' = absurd released'
      by (Some b) counted' (Some m) released' =
          λ test label. omega (arith, counted'.each test label, released' test label, moved test label, fits test label)

  -- an amount can be added without overflow
  pub adds_counted : (more : Amounts) → IsConsistent old → length old.agents ≤ 4096
      → ((test : Path → Bool) (label : Text) → more test label ≤ LARGEST_AMOUNT)
      → IfSome before (λ used. (test : Path → Bool) (label : Text) → used_where test used label + more test label < 2 ^ 64)
  adds_counted more consistent few small =
      counted_so old before counted (λ used. (test : Path → Bool) (label : Text) → used_where test used label + more test label < 2 ^ 64)
      (λ used its test label.
      omega (
        arith,
        its test label,
        consumption_is_part_of_total test old label consistent,
        sums_fit old.agents label (more test label) consistent.agents.each few (small test label),
      ))

-- what was added can be subtracted
pub raised_fits : (before mid : Option (List Usage)) (more : Amounts) → IsRaisedIf before mid more
    → IfSome mid (λ used. (role : Path) (label : Text) → more (same_path role) label ≤ used_by used role label)
raised_fits before None more raised = tt
raised_fits None (Some m) more raised = absurd raised
raised_fits (Some b) (Some m) more raised = λ role label. omega (arith, raised (same_path role) label)

-- ---- an offer or a task ends

pub consumption-one_less : (old new : Rows) (h : Holding) → IsOneLess (holdings_of old) (holdings_of new) h → old.agents ≡ new.agents
    → (test : Path → Bool) (label : Text)
    → consumption_where test old label ≡ consumption_where test new label + cond (test h.client.role) (unreserved_in label h.bundle) 0
consumption-one_less old new h less same test label =
    let of : List Holding → ℕ = λ hs. held_unreserved test hs label in
    omega (
      arith,
      ap of less.has,
      sum_by-out (held_by test label) less.before less.after h,
      ap of less.lacks,
      ap (λ (agents : List AgentRow). reserved_for test agents label) same,
    )

module _ (old new : Rows) (before : Option (List Usage)) (h : Holding) (counted : CountsAll old before)
    (less : IsOneLess (holdings_of old) (holdings_of new) h) (same : old.agents ≡ new.agents) where
  pub release_fits : IfSome before (λ used. (label : Text) → unreserved_in label h.bundle ≤ used_by used h.client.role label)
  release_fits =
      let role = h.client.role in
      counted_so old before counted (λ used. (label : Text) → unreserved_in label h.bundle ≤ used_by used role label) (λ used its label.
      omega (
        arith,
        its (same_path role) label,
        consumption-one_less old new h less same (same_path role) label,
        ap (λ b. cond b (unreserved_in label h.bundle) 0) (same_path_itself role),
      ))

  pub counts-ended : (after : Option (List Usage)) → IsRaisedIf after before (λ test label. cond (test h.client.role) (unreserved_in label h.bundle) 0)
      → CountsAll new after
  counts-ended after raised =
      counts-released old before counted new after (λ test label. cond (test h.client.role) (unreserved_in label h.bundle) 0) raised
      (consumption-one_less old new h less same)

-- ---- an offer is replaced by tasks

module _ (rows : Rows) (number : ℕ) (o : OfferRow) (starts : List Start) (filters : List FilterRow)
    (consistent : IsConsistent rows) (found : offer_at rows number ≡ Some o)
    (bundles : AllByRecursion IsBundle (uses starts)) (can : CanStart rows o starts)
    (test : Path → Bool) (label : Text) where
  held_started : (ss : List Start) → held_unreserved test (started_by o ss) label ≡ cond (test o.role) (units_of_all (uses ss) (label, []) Thousandths) 0
  held_started [] = sym (nothing (test o.role))
    where
      nothing : (b : Bool) → ◌≡◌ {A = ℕ} (cond b 0 0) 0
      nothing true = refl
      nothing false = refl
  held_started (s ∷ ss) =
      let part : List Resource → ℕ = λ part. units part (label, []) Thousandths in
      sum_by-cons (held_by test label) (holding_of_task (task_of o s)) (started_by o ss)
      ∙ ap (λ n. cond (test o.role) (unreserved_in label s.1) 0 + n) (held_started ss)
      ∙ plus (test o.role) (unreserved_in label s.1) (units_of_all (uses ss) (label, []) Thousandths)
      ∙ ap (λ n. cond (test o.role) n 0) (sym (sum_by-cons part s.1 (uses ss)))
    where
      plus : (b : Bool) (n m : ℕ) → cond b n 0 + cond b m 0 ≡ cond b (n + m) 0
      plus true n m = refl
      plus false n m = refl

  split_offer : unreserved_in label o.bundle ≡ units_of_all (uses starts) (label, []) Thousandths + unreserved_in label (rest_of_all o.bundle (uses starts))
  split_offer =
      let held = offer_held rows number o starts filters consistent found in
      let has = units-covers_all o.bundle (uses starts) held.bundle bundles can.covered in
      omega (arith, has (label, []) Thousandths, units-rest_of_all o.bundle (uses starts) (label, []) Thousandths held.bundle bundles)

  pub consumption-accepted : consumption_where test rows label
      ≡ consumption_where test (accepted_in rows o starts filters) label
      + cond (test o.role) (unreserved_in label (rest_of_all o.bundle (uses starts))) 0
  consumption-accepted =
      let of : List Holding → ℕ = λ hs. held_unreserved test hs label in
      let out = offer_out rows number o starts filters consistent found in
      omega (
        arith,
        ap of out.has,
        sum_by-out (held_by test label) out.before out.after (holding_of_offer o),
        ap of (tasks_last rows number o starts filters consistent found ∙ ap (λ hs. hs ++ started_by o starts) out.lacks),
        sum_by-append (held_by test label) (out.before ++ out.after) (started_by o starts),
        held_started starts,
        ap (λ n. cond (test o.role) n 0) split_offer,
        plus (test o.role) (units_of_all (uses starts) (label, []) Thousandths) (unreserved_in label (rest_of_all o.bundle (uses starts))),
      )
    where
      plus : (b : Bool) (n m : ℕ) → cond b (n + m) 0 ≡ cond b n 0 + cond b m 0
      plus true n m = refl
      plus false n m = refl

-- the rest of the offer is subtracted
module _ (rows : Rows) (before : Option (List Usage)) (counted : CountsAll rows before)
    (number : ℕ) (o x : OfferRow) (starts : List Start) (left : List Resource)
    (consistent : IsConsistent rows) (found : offer_at rows number ≡ Some o)
    (bundles : AllByRecursion IsBundle (uses starts)) (can : CanStart rows o starts)
    (same : x ≡ o) (rest_is : left ≡ rest_of_all o.bundle (uses starts)) where
  abbrev less_held : Amounts
  less_held test label = cond (test x.role) (unreserved_in label left) 0

  reported_as : (test : Path → Bool) (label : Text)
      → less_held test label ≡ cond (test o.role) (unreserved_in label (rest_of_all o.bundle (uses starts))) 0
  reported_as test label = λ i. cond (test (same i).role) (unreserved_in label (rest_is i)) 0

  pub accept_fits : IfSome before (λ used. (label : Text) → unreserved_in label left ≤ used_by used x.role label)
  accept_fits =
      let test : Path → Bool = same_path x.role in
      counted_so rows before counted (λ used. (label : Text) → unreserved_in label left ≤ used_by used x.role label) (λ used its label.
      omega (
        arith,
        its test label,
        consumption-accepted rows number o starts [] consistent found bundles can test label,
        reported_as test label,
        ap (λ b. cond b (unreserved_in label left) 0) (same_path_itself x.role),
      ))

  pub counts-accepted : (filters : List FilterRow) (after : Option (List Usage)) → IsRaisedIf after before less_held
      → CountsAll (accepted_in rows o starts filters) after
  counts-accepted filters after raised =
      counts-released rows before counted (accepted_in rows o starts filters) after less_held raised
      (λ test label. omega (arith, consumption-accepted rows number o starts filters consistent found bundles can test label, reported_as test label))

-- ---- agents are added and removed

pub consumption-agent_added : (rows : Rows) (name : Text) (total : List Resource) (test : Path → Bool) (label : Text)
    → consumption_where test (agent_added rows name total) label ≡ consumption_where test rows label + reserved_in test label total
consumption-agent_added rows name total test label =
    omega (
      arith,
      sum_by-append (reserved_by test label) rows.agents (new_agent name total ∷ []),
      sum_by-cons (reserved_by test label) (new_agent name total) [],
    )

-- what all agents have reserved is what one has reserved plus what the others have
pub reserved-without : (name : Text) (entries : List (Text × Agent)) (test : Path → Bool) (label : Text)
    → reserved_for test (map agent_row entries) label
    ≡ reserved_for test (map agent_row (remove_entry (same_text name) entries)) label + reserved_at (map agent_row entries) name test label
reserved-without name [] test label = refl
reserved-without name (e ∷ es) test label = elim (cases_Bool (same_text name e.0)) [
  | inl here ↦
      rw (same_text-swap e.0 name ∙ here, here)
      (omega (arith, sum_by-cons (reserved_by test label) (agent_row e) (map agent_row es)))
  | inr past ↦
      rw (same_text-swap e.0 name ∙ past, past)
      (omega (
        arith,
        sum_by-cons (reserved_by test label) (agent_row e) (map agent_row es),
        sum_by-cons (reserved_by test label) (agent_row e) (map agent_row (remove_entry (same_text name) es)),
        reserved-without name es test label,
      ))
]

-- ---- the total of one agent changes

module _ (rows : Rows) (name : Text) (a : AgentRow) (consistent : IsConsistent rows) (found : agent_at rows name ≡ Some a)
    (test : Path → Bool) (label : Text) where
  pub at_found : reserved_at rows.agents name test label ≡ reserved_in test label a.total
  at_found = ap (λ (o : Option AgentRow). option_map_or (λ (b : AgentRow). reserved_in test label b.total) o 0) found

  pub reserved-is_part : reserved_in test label a.total ≤ consumption_where test rows label
  reserved-is_part =
      omega (
        arith,
        ap (λ (agents : List AgentRow). reserved_for test agents label) (agents_stand rows name a consistent found),
        sum_by-out (reserved_by test label) (agents_before rows name a consistent found) (agents_after rows name a consistent found) a,
      )

  pub consumption-with_total : (made : List Resource → List Resource)
      → consumption_where test (record rows { agents = with_total rows name made }) label + reserved_in test label a.total
      ≡ consumption_where test rows label + reserved_in test label (made a.total)
  consumption-with_total made =
      let before = agents_before rows name a consistent found in
      let after = agents_after rows name a consistent found in
      let of : List AgentRow → ℕ = λ agents. reserved_for test agents label in
      omega (
        arith,
        ap of (agents_stand rows name a consistent found),
        sum_by-out (reserved_by test label) before after a,
        ap of (with_total-place rows name a consistent found made),
        sum_by-out (reserved_by test label) before after (record a { total = made a.total }),
      )

-- ---- a part of an agent's total is replaced

-- the replaced part has at most what the whole has
pub part_le : (whole old new : List Resource) → CanExchange whole old new → (test : Key → Bool) (p : Point)
    → units_where test p old ≤ units_where test p whole
part_le whole old new can test p =
    let joined = join_some (rest whole old) old whole (bundle-rest whole old can.is_whole) can.is_old
    (rest_and_part whole old can.is_whole can.is_old ((covers_by_units whole old can.is_whole can.is_old).1 can.covered)) in
    omega (arith, where-merged test p (rest whole old) old joined.joins, ap (units_where test p) joined.is_merged)

module _ (whole old new : List Resource) (can : CanExchange whole old new) (test : Path → Bool) (label : Text) where
  pub reserved-exchanged : reserved_in test label (exchanged old new whole) + reserved_in test label old
      ≡ reserved_in test label whole + reserved_in test label new
  reserved-exchanged = where-exchanged whole old new can (reserves test label) Thousandths

  pub reserved-part_le : reserved_in test label old ≤ reserved_in test label whole
  reserved-part_le = part_le whole old new can (reserves test label) Thousandths

  -- the new part has at most what the whole has of the scalar
  pub reserved-small : (most : ℕ) → amount_of (quantities_of whole) label ≤ most → reserved_in test label new ≤ most
  reserved-small most small =
      omega (
        arith,
        reserved-exchanged,
        reserved-part_le,
        parts_le test label (exchanged old new whole),
        stock-exchanged whole old new can label Thousandths,
        amount-quantities_of whole label,
        small,
      )

-- what is reserved of a bundle is at most what it has of the scalar
pub reserved_le : (total : List Resource) (test : Path → Bool) (label : Text) (most : ℕ) → amount_of (quantities_of total) label ≤ most
    → reserved_in test label total ≤ most
reserved_le total test label most small = omega (arith, parts_le test label total, amount-quantities_of total label, small)
