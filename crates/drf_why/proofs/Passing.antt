-- The clients that are reported to pass over a client are those that are granted a part of what it would be granted if it were tried first.
use Rattle.std.specs.Prelude.{◌≡◌, zero, suc, ◌<◌, Bool, true, false, not, ◌||◌, List, [], ◌∷◌, ◌++◌, length, map, Option, Some, None, Contains, if◌then◌else◌, slice_get}
use Rattle.std.specs.List.{flat_map, list_any}
use Rattle.std.proofs.Common.{refl, sym, ap, subst, ◌∙◌, inl, inr, cond, arith}
use Rattle.std.proofs.lemmas.List.{map-append}
use Rattle.std.proofs.lemmas.Bool.{cases_Bool, false≢true}
use Rattle.std.proofs.lemmas.List.Concat.{flat_map-append}
use Rattle.std.proofs.lemmas.List.Elements.{Contains-append_cases, Contains-append_left, Contains-append_right}
use Rattle.drf_role.specs.Path.{Path, same_path}
use Rattle.drf_role.specs.PathLaws.{same_path-true, same_path_itself}
use Rattle.drf_bundle.specs.declared.resource.Resource.{Resource}
use Rattle.drf_explain.specs.Each.{reported_here, reported_of_each, turn_on, untouched_on, untouched_on_active}
use Rattle.drf_explain.specs.EachLaws.{IsOpen}
use Rattle.drf_explain.proofs.EachLaws.{each_on-open}
use Rattle.drf_explain.specs.Explained.{outcome}
use Rattle.drf_explain.specs.ReasonLaws.{GrantIsGranted}
use Rattle.drf_explain.specs.declared.finding.Finding.{Finding}
use Rattle.drf_explain.specs.declared.finding.Finding.TheVariants.{Inactive, NothingFree}
use Rattle.drf_explain.specs.declared.finding.Outcome.{Outcome}
use Rattle.drf_explain.specs.declared.finding.Outcome.TheVariants.{Grant, HeldBack, OverLimit, BelowThreshold, NothingLeft, ReservedForOthers}
use Rattle.drf_rows.specs.Client.{Client, path_of}
use Rattle.drf_rows.specs.Cycle.{all_tried, free_of, grant, tried, turn_order}
use Rattle.drf_rows.specs.Offers.{is_empty}
use Rattle.drf_rows.specs.declared.rows.AgentRow.{AgentRow}
use Rattle.drf_rows.specs.declared.rows.Rows.{Rows}
use Rattle.drf_why.proofs.Firsts.{earlier-behind, earlier-none, own-behind}
use Rattle.drf_why.proofs.Passed.{takes-nothing}
use Rattle.drf_why.specs.PassLaws.{EachIsPassedBySomebody, EachPasserPasses, IsPassed, IsPassedBy, is_at}
use Rattle.drf_why.specs.Passers.{begins_with_grant, bundle_in, bundle_of, is_passed, passers_by, passers_on, taker_in, takes_of}
use Rattle.drf_why.specs.Pick.{earlier_on, is_granted, is_of_client, own_on}
use Rattle.drf_why.specs.SumLaws.{EachIsPassedRightly}

-- ---- the findings of a turn

module _ (agent : AgentRow) where
  each-append : (rows : Rows) (earlier later : List Client)
      → reported_of_each rows agent (earlier ++ later) ≡ reported_of_each rows agent earlier ++ reported_of_each (all_tried rows agent earlier) agent later
  each-append rows [] later = refl
  each-append rows (client ∷ earlier) later = ap (λ fs. reported_here rows agent client ∷ fs) (each-append (tried rows agent client) earlier later)

  module _ (path : Path) where
    any-reported : (rows : Rows) (clients : List Client)
        → list_any (is_of_client path) (reported_of_each rows agent clients) ≡ list_any (is_at path) clients
    any-reported rows [] = refl
    any-reported rows (client ∷ clients) = ap (λ b. is_at path client || b) (any-reported (tried rows agent client) clients)

    any-first : (rows : Rows) (clients : List Client)
        → list_any (is_of_client path) (map (reported_here rows agent) clients) ≡ list_any (is_at path) clients
    any-first rows [] = refl
    any-first rows (client ∷ clients) = ap (λ b. is_at path client || b) (any-first rows clients)

-- the first of some clients with this path
record Split (path : Path) (clients : List Client) : Type 0 where
  prefix : List Client
  client : Client
  back : List Client
  whole : clients ≡ prefix ++ client ∷ back
  its : is_at path client ≡ true
  first : list_any (is_at path) prefix ≡ false

split : (path : Path) (clients : List Client) → list_any (is_at path) clients ≡ true → Split path clients
split path [] some = absurd (false≢true some)
split path (c ∷ cs) some = elim (cases_Bool (is_at path c)) [
  | inl here ↦ record { prefix = []; client = c; back = cs; whole = refl; its = here; first = refl }
  | inr other ↦
      let later = split path cs (sym (ap (λ b. b || list_any (is_at path) cs) other) ∙ some) in record {
        prefix = c ∷ later.prefix;
        client = later.client;
        back = later.back;
        whole = ap (λ (xs : List Client). c ∷ xs) later.whole;
        its = later.its;
        first = λ i. other i || later.first i;
      }
]

-- ---- which clients take a part of a bundle

-- one of some clients is granted a part of a bundle when it is tried
record HasTaker (rows : Rows) (agent : AgentRow) (bundle : List Resource) (passer : Path) (clients : List Client) : Type 0 where
  prefix : List Client
  taker : Client
  back : List Client
  whole : clients ≡ prefix ++ taker ∷ back
  its : path_of taker ≡ passer
  takes : takes_of (bundle_of (outcome (all_tried rows agent prefix) agent taker)) bundle ≡ true

only : (x p : Path) → Contains (x ∷ []) p → x ≡ p
only x p (zero, inside, is) = is
only x p (suc k, inside, is) = absurd (omega (arith, inside))

module _ (agent : AgentRow) (bundle : List Resource) (passer : Path) where
  abbrev takers : Rows → List Client → List Path
  takers rows clients = flat_map (taker_in bundle) (reported_of_each rows agent clients)

  has_taker : (rows : Rows) (clients : List Client) → Contains (takers rows clients) passer → HasTaker rows agent bundle passer clients
  has_taker rows [] (k, inside, is) = absurd (omega (arith, inside))
  has_taker rows (c ∷ cs) has =
      elim (Contains-append_cases (taker_in bundle (reported_here rows agent c)) (takers (tried rows agent c) cs) passer has) [
        | inl here ↦ by (takes_of (bundle_of (outcome rows agent c)) bundle) refl here
        | inr behind ↦
            let later = has_taker (tried rows agent c) cs behind in record {
              prefix = c ∷ later.prefix;
              taker = later.taker;
              back = later.back;
              whole = ap (λ (xs : List Client). c ∷ xs) later.whole;
              its = later.its;
              takes = later.takes;
            }
      ]
    where
      by : (takes : Bool) → takes_of (bundle_of (outcome rows agent c)) bundle ≡ takes → Contains (if takes then path_of c ∷ [] else []) passer
          → HasTaker rows agent bundle passer (c ∷ cs)
      by true is here = record { prefix = []; taker = c; back = cs; whole = refl; its = only (path_of c) passer here; takes = is }
      by false is (k, inside, at) = absurd (omega (arith, inside))

  taker_among : (rows : Rows) (clients : List Client) → HasTaker rows agent bundle passer clients → Contains (takers rows clients) passer
  taker_among rows clients t =
      let start : Rows = all_tried rows agent t.prefix in
      let prefix : List Path = takers rows t.prefix in
      let back : List Path = takers (tried start agent t.taker) t.back in
      let one : List Path = path_of t.taker ∷ [] in
      let inside : 0 < length one = omega arith in
      let parts : takers rows clients ≡ prefix ++ (one ++ back) =
      ap (takers rows) t.whole
      ∙ ap (flat_map (taker_in bundle)) (each-append agent rows t.prefix (t.taker ∷ t.back))
      ∙ flat_map-append (taker_in bundle) (reported_of_each rows agent t.prefix) (reported_of_each start agent (t.taker ∷ t.back))
      ∙ ap (λ (takes : Bool). prefix ++ ((if takes then one else []) ++ back)) t.takes in
      let its : Contains (prefix ++ (one ++ back)) (path_of t.taker) =
      Contains-append_right prefix (one ++ back) (path_of t.taker) (Contains-append_left one back (path_of t.taker) (0, inside, refl)) in
      subst (λ (ps : List Path). Contains ps passer) (sym parts) (subst (Contains (prefix ++ (one ++ back))) t.its its)

-- ---- the reported outcome is what the cycle grants

module _ (says : GrantIsGranted) (rows : Rows) (agent : AgentRow) (client : Client) where
  -- an outcome that takes a part of a bundle is a grant
  taking-grant : (bundle : List Resource) → takes_of (bundle_of (outcome rows agent client)) bundle ≡ true
      → grant rows agent client ≡ Some (bundle_of (outcome rows agent client))
  taking-grant bundle takes = by (outcome rows agent client) refl takes
    where
      by : (o : Outcome) → outcome rows agent client ≡ o → takes_of (bundle_of o) bundle ≡ true → grant rows agent client ≡ Some (bundle_of o)
      by (Grant taken) is takes = (says rows agent client taken).0 is
      by (HeldBack until) is takes = absurd (false≢true takes)
      by (OverLimit role) is takes = absurd (false≢true takes)
      by BelowThreshold is takes = absurd (false≢true takes)
      by NothingLeft is takes = absurd (false≢true takes)
      by ReservedForOthers is takes = absurd (false≢true takes)

  -- an outcome from which a part is taken is a grant
  due-grant : (taken : List Resource) → takes_of taken (bundle_of (outcome rows agent client)) ≡ true
      → grant rows agent client ≡ Some (bundle_of (outcome rows agent client))
  due-grant taken takes = by (outcome rows agent client) refl takes
    where
      by : (o : Outcome) → outcome rows agent client ≡ o → takes_of taken (bundle_of o) ≡ true → grant rows agent client ≡ Some (bundle_of o)
      by (Grant bundle) is takes = (says rows agent client bundle).0 is
      by (HeldBack until) is takes = absurd (false≢true (sym (takes-nothing taken) ∙ takes))
      by (OverLimit role) is takes = absurd (false≢true (sym (takes-nothing taken) ∙ takes))
      by BelowThreshold is takes = absurd (false≢true (sym (takes-nothing taken) ∙ takes))
      by NothingLeft is takes = absurd (false≢true (sym (takes-nothing taken) ∙ takes))
      by ReservedForOthers is takes = absurd (false≢true (sym (takes-nothing taken) ∙ takes))

  -- if no grant is reported, there is none
  none-granted : is_granted (outcome rows agent client) ≡ false → grant rows agent client ≡ None
  none-granted nothing = by (grant rows agent client) refl
    where
      by : (granted : Option (List Resource)) → grant rows agent client ≡ granted → granted ≡ None
      by None is = refl
      by (Some bundle) is = absurd (false≢true (sym nothing ∙ ap is_granted ((says rows agent client bundle).1 is)))

  none-reported : grant rows agent client ≡ None → is_granted (outcome rows agent client) ≡ false
  none-reported nothing = by (outcome rows agent client) refl
    where
      by : (o : Outcome) → outcome rows agent client ≡ o → is_granted o ≡ false
      by (Grant bundle) is =
          let both : None ≡ Some bundle = sym nothing ∙ (says rows agent client bundle).0 is in
          absurd cc
      by (HeldBack until) is = refl
      by (OverLimit role) is = refl
      by BelowThreshold is = refl
      by NothingLeft is = refl
      by ReservedForOthers is = refl

-- ---- a turn

module _ (rows : Rows) (agent : AgentRow) (path : Path) where
  abbrev reported : List Client → List Finding
  reported clients = reported_of_each rows agent clients

  abbrev first : List Client → List Finding
  first clients = map (reported_here rows agent) clients

  -- the clients before this one that take a part of what it would be granted, if it is granted nothing
  abbrev passers_at : List Client → Client → List Path
  passers_at prefix client =
      passers_by (reported_here (all_tried rows agent prefix) agent client ∷ []) (reported prefix) (bundle_of (outcome rows agent client))

  passers-split : (clients : List Client) (s : Split path clients) → passers_on path (reported clients, first clients) ≡ passers_at s.prefix s.client
  passers-split clients s =
      let start : Rows = all_tried rows agent s.prefix in
      let mine : Finding = reported_here start agent s.client in
      let behind : List Finding = reported_of_each (tried start agent s.client) agent s.back in
      let all : reported clients ≡ reported s.prefix ++ mine ∷ behind = ap reported s.whole ∙ each-append agent rows s.prefix (s.client ∷ s.back) in
      let others : list_any (is_of_client path) (reported s.prefix) ≡ false = any-reported agent path rows s.prefix ∙ s.first in
      let firsts : first clients ≡ first s.prefix ++ reported_here rows agent s.client ∷ first s.back =
      ap first s.whole ∙ map-append (reported_here rows agent) s.prefix (s.client ∷ s.back) in
      let own : own_on path (reported clients) ≡ mine ∷ [] = ap (own_on path) all ∙ own-behind path (reported s.prefix) mine behind others s.its in
      let earlier : earlier_on path (reported clients) ≡ reported s.prefix = ap (earlier_on path) all ∙ earlier-behind path (reported s.prefix) mine behind others s.its in
      let due : own_on path (first clients) ≡ reported_here rows agent s.client ∷ [] =
      ap (own_on path) firsts
      ∙ own-behind path (first s.prefix) (reported_here rows agent s.client) (first s.back) (any-first agent path rows s.prefix ∙ s.first) s.its in
      λ i. passers_by (own i) (earlier i) (bundle_in (due i))

  -- a client that is not tried is not passed over
  passers-none : (clients : List Client) → list_any (is_at path) clients ≡ false → passers_on path (reported clients, first clients) ≡ []
  passers-none clients none =
      ap (λ earlier. passers_by (own_on path (reported clients)) earlier (bundle_in (own_on path (first clients))))
      (earlier-none path (reported clients) (any-reported agent path rows clients ∙ none))
      ∙ by (begins_with_grant (own_on path (reported clients)))
    where
      by : (gets : Bool) → cond {A = List Path} gets [] [] ≡ []
      by true = refl
      by false = refl

  module _ (opened : IsOpen rows agent) where
    first-open : untouched_on rows agent ≡ first (turn_order rows)
    first-open =
        (λ i. if opened.active i then untouched_on_active rows agent else [])
        ∙ (λ i. if opened.some i then [] else first (turn_order rows))

    passers-open : passers_on path (turn_on rows agent) ≡ passers_on path (reported (turn_order rows), first (turn_order rows))
    passers-open = λ i. passers_on path (each_on-open rows agent opened i, first-open i)

module _ (says : GrantIsGranted) (rows : Rows) (agent : AgentRow) (path passer : Path) where
  abbrev order : List Client
  order = turn_order rows

  passed_at : IsOpen rows agent → (s : Split path order) → Contains (passers_at rows agent path s.prefix s.client) passer
      → IsPassedBy rows agent path passer
  passed_at opened s has = by (is_granted (outcome (all_tried rows agent s.prefix) agent s.client)) refl has
    where
      due : List Resource
      due = bundle_of (outcome rows agent s.client)

      by : (gets : Bool) → is_granted (outcome (all_tried rows agent s.prefix) agent s.client) ≡ gets
          → Contains (cond gets [] (takers agent due passer rows s.prefix)) passer → IsPassedBy rows agent path passer
      by true is (k, inside, at) = absurd (omega (arith, inside))
      by false is has =
          let t = has_taker agent due passer rows s.prefix has in record {
            opened = opened;
            before = t.prefix;
            taker = t.taker;
            between = t.back;
            client = s.client;
            later = s.back;
            order = s.whole ∙ ap (λ (prefix : List Client). prefix ++ s.client ∷ s.back) t.whole;
            its = same_path-true (path_of s.client) path s.its;
            first = sym (ap (list_any (is_at path)) t.whole) ∙ s.first;
            another = t.its;
            taken = bundle_of (outcome (all_tried rows agent t.prefix) agent t.taker);
            takes = taking-grant says (all_tried rows agent t.prefix) agent t.taker due t.takes;
            bundle = due;
            due = due-grant says rows agent s.client (bundle_of (outcome (all_tried rows agent t.prefix) agent t.taker)) t.takes;
            of_it = t.takes;
            nothing =
                sym (ap (λ (prefix : List Client). grant (all_tried rows agent prefix) agent s.client) t.whole)
                ∙ none-granted says (all_tried rows agent s.prefix) agent s.client is;
          }

  passed_open : IsOpen rows agent → Contains (passers_on path (reported rows agent path order, first rows agent path order)) passer
      → IsPassedBy rows agent path passer
  passed_open opened has = elim (cases_Bool (list_any (is_at path) order)) [
    | inl some ↦
        let s = split path order some in
        passed_at opened s (subst (λ (ps : List Path). Contains ps passer) (passers-split rows agent path order s) has)
    | inr none ↦
        let empty : Contains [] passer = subst (λ (ps : List Path). Contains ps passer) (passers-none rows agent path order none) has in
        absurd (omega (arith, empty.1))
  ]

  passed : Contains (passers_on path (turn_on rows agent)) passer → IsPassedBy rows agent path passer
  passed = by agent.active (is_empty (free_of rows agent)) refl refl
    where
      by : (active none : Bool) → agent.active ≡ active → is_empty (free_of rows agent) ≡ none
          → Contains (passers_on path (
            cond active (cond none (NothingFree agent.name ∷ []) (reported_of_each rows agent order)) (Inactive agent.name ∷ []),
            cond active (cond none [] (map (reported_here rows agent) order)) [],
          )) passer
          → IsPassedBy rows agent path passer
      by true true is none (k, inside, at) = absurd (omega (arith, inside))
      by true false is some has = passed_open (record { active = is; some = some }) has
      by false none is some (k, inside, at) = absurd (omega (arith, inside))

  passes : IsPassedBy rows agent path passer → Contains (passers_on path (turn_on rows agent)) passer
  passes p =
      let prefix : List Client = p.before ++ p.taker ∷ p.between in
      let s : Split path order = record {
        prefix = prefix;
        client = p.client;
        back = p.later;
        whole = p.order;
        its = ap (λ q. same_path q path) p.its ∙ same_path_itself path;
        first = p.first;
      } in
      let due : List Resource = bundle_of (outcome rows agent p.client) in
      let took = (says (all_tried rows agent p.before) agent p.taker p.taken).1 p.takes in
      let owed = (says rows agent p.client p.bundle).1 p.due in
      let takes : takes_of (bundle_of (outcome (all_tried rows agent p.before) agent p.taker)) due ≡ true =
      (λ i. takes_of (bundle_of (took i)) (bundle_of (owed i))) ∙ p.of_it in
      let among : Contains (takers agent due passer rows prefix) passer =
      taker_among agent due passer rows prefix
      (record { prefix = p.before; taker = p.taker; back = p.between; whole = refl; its = p.another; takes = takes }) in
      let nothing = none-reported says (all_tried rows agent prefix) agent p.client p.nothing in
      let there : Contains (passers_at rows agent path prefix p.client) passer =
      subst (λ (gets : Bool). Contains (cond gets [] (takers agent due passer rows prefix)) passer) (sym nothing) among in
      subst (λ (ps : List Path). Contains ps passer) (sym (passers-open rows agent path p.opened ∙ passers-split rows agent path order s)) there

pub each_passer_passes : GrantIsGranted → EachPasserPasses
each_passer_passes says rows agent path passer = (passed says rows agent path passer, passes says rows agent path passer)

-- ---- some client passes over it

record HasOne (ps : List Path) : Type 0 where
  one : Path
  among : Contains ps one

has_one : (ps : List Path) → not (is_empty ps) ≡ true → HasOne ps
has_one [] some = absurd (false≢true some)
has_one (p ∷ ps) some =
    let inside : 0 < length (p ∷ ps) = omega arith in
    record { one = p; among = (0, inside, refl) }

not_empty : (ps : List Path) (p : Path) → Contains ps p → not (is_empty ps) ≡ true
not_empty [] p (k, inside, is) = absurd (omega (arith, inside))
not_empty (q ∷ ps) p has = refl

module _ (says : GrantIsGranted) where
  somebody_passes : (rows : Rows) (agent : AgentRow) (path : Path) → is_passed path (turn_on rows agent) ≡ true → IsPassed rows agent path
  somebody_passes rows agent path some =
      let one = has_one (passers_on path (turn_on rows agent)) some in
      record { passer = one.one; passes = passed says rows agent path one.one one.among }

  pub each_is_passed_by_somebody : EachIsPassedBySomebody
  each_is_passed_by_somebody rows agent path =
      (somebody_passes rows agent path, λ p. not_empty (passers_on path (turn_on rows agent)) p.passer (passes says rows agent path p.passer p.passes))

  at-behind : (prefix : List Client) (client : Client) (back : List Client) → slice_get (prefix ++ client ∷ back) (length prefix) ≡ Some client
  at-behind [] client back = refl
  at-behind (c ∷ prefix) client back = at-behind prefix client back

  pub each_is_passed_rightly : EachIsPassedRightly
  each_is_passed_rightly rows agent path some =
      let p = (somebody_passes rows agent path some).passes in
      let prefix : List Client = p.before ++ p.taker ∷ p.between in record {
        place = length prefix;
        client = p.client;
        stands = ap (λ (clients : List Client). slice_get clients (length prefix)) p.order ∙ at-behind prefix p.client p.later;
        its = p.its;
        bundle = p.bundle;
        granted = p.due;
      }
