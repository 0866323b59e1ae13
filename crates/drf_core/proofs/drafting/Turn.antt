-- The turn of an agent, from its first client to its last.
use Rattle.std.proofs.Common.{◌≡◌, ℕ, ◌+◌, ◌<◌, ◌≤◌, ◌^◌, zero, suc, Bool, true, false, ◌&&◌, List, [], ◌∷◌, ◌++◌, Option, Some, None, length, map, drop, refl, sym, ap, subst, ◌∙◌, cond, arith}
use Rattle.std.specs.Prelude.{slice_get, slice_set, is_some, not}
use Rattle.std.specs.List.{list_all, AllByRecursion}
use Rattle.std.specs.Option.{option_map, option_map_or}
use Rattle.std.proofs.lemmas.Bool.{and_parts, not-true}
use Rattle.std.proofs.lemmas.Option.{slice_get-map}
use Rattle.std.proofs.lemmas.Grind.{fold-append}
use Rattle.drf_role.specs.Text.{Text, same_text}
use Rattle.drf_role.specs.Path.{Path, IsClientPath}
use Rattle.drf_bundle.specs.declared.resource.Resource.{Resource}
use Rattle.drf_rows.specs.Client.{Client, path_of}
use Rattle.drf_rows.specs.Cycle.{free_of, is_allocatable, tried, all_tried, turn, turn_order}
use Rattle.drf_row_laws.proofs.CycleLaws.{all_tried_none}
use Rattle.drf_bundle.proofs.ListLaws.{each_from}
use Rattle.drf_rows.specs.Consistent.{are_distinct}
use Rattle.drf_rows.specs.Held.{is_registered}
use Rattle.drf_row_laws.proofs.ConsistentLaws.{same_text-swap}
use Rattle.drf_rows.specs.declared.rows.AgentRow.{AgentRow}
use Rattle.drf_rows.specs.declared.rows.OfferRow.{OfferRow}
use Rattle.drf_rows.specs.declared.rows.Rows.{Rows}
use Rattle.drf_tables.specs.cycle.Drafts.{with_offers, frees_of, frees_after}
use Rattle.drf_tables.specs.Stored.{Stored}
use Rattle.drf_tables.specs.declared.tables.Left.{Left}
use Rattle.drf_core.specs.declared.cycle.Drafts.{Drafts}
use Rattle.drf_core.specs.declared.cycle.free.Free.{Free}
use Rattle.drf_core.specs.cycle.Drafting.{IsCycleAt, IsDrafting, IsFreeAt, IsRegisteredPath, IsTried, IsTurn, HasLeft, is_open_at, turn_at}
use Rattle.drf_sorter.specs.Content.{Content, IsSound, IsOrderOf}
use Rattle.drf_sorter.proofs.theorems.SameLaws.{IsOrderOf-same, IsSame-sym, IsSound-same}
use Rattle.drf_tables.proofs.DraftLaws.{agents-with_offers, next-with_offers}
use Rattle.drf_core.proofs.drafting.Drafts.{is_registered-with_offers}
use Rattle.drf_content.specs.Content.{content_of}
use Rattle.drf_content.proofs.theorems.Sound.{IsSound-content_of}
use Rattle.drf_content.proofs.theorems.Order.{IsOrderOf-turn_order}
use Rattle.drf_laws.proofs.theorems.Turns.{turn_order-registered, free_of-all_tried_other}

-- ---- lists

-- no element has that name
abbrev has_no : {X : Type 0} → (X → Text) → Text → List X → Bool
has_no name n xs = list_all (λ t. not (same_text n t)) (map name xs)

has_no_at : {X : Type 0} (name : X → Text) (n : Text) (xs : List X) (i : ℕ) (a : X) → has_no name n xs ≡ true → slice_get xs i ≡ Some a → same_text n (name a) ≡ false
has_no_at name n [] i a none at = cc
has_no_at name n (x ∷ xs) zero a none at =
    let parts = and_parts (not (same_text n (name x))) (has_no name n xs) none in
    let same : x ≡ a = cc in
    ap (λ y. same_text n (name y)) (sym same) ∙ not-true (same_text n (name x)) parts.0
has_no_at name n (x ∷ xs) (suc i) a none at = has_no_at name n xs i a (and_parts (not (same_text n (name x))) (has_no name n xs) none).1 at

map_none : {X Y : Type 0} (name : X → Text) (f g : X → Y) (n : Text) (xs : List X) → has_no name n xs ≡ true → ((x : X) → same_text n (name x) ≡ false → f x ≡ g x) → map f xs ≡ map g xs
map_none name f g n [] none agree = refl
map_none name f g n (x ∷ xs) none agree =
    let parts = and_parts (not (same_text n (name x))) (has_no name n xs) none in
    let head = agree x (not-true (same_text n (name x)) parts.0) in
    let tail = map_none name f g n xs parts.1 agree in
    λ i. head i ∷ tail i

-- two functions that differ only at one name give lists that differ only at one place
slice_set-map : {X Y : Type 0} (name : X → Text) (f g : X → Y) (xs : List X) (i : ℕ) (a : X) → are_distinct (map name xs) ≡ true → slice_get xs i ≡ Some a
    → ((x : X) → same_text (name a) (name x) ≡ false → f x ≡ g x) → slice_set (map f xs) i (g a) ≡ map g xs
slice_set-map name f g [] i a apart at agree = cc
slice_set-map {X} name f g (x ∷ xs) zero a apart at agree =
    let parts = and_parts (has_no name (name x) xs) (are_distinct (map name xs)) apart in
    let same : x ≡ a = cc in
    let none : has_no name (name a) xs ≡ true = subst (λ (y : X). has_no name (name y) xs ≡ true) same parts.0 in
    let tail = map_none name f g (name a) xs none agree in
    λ j. g (sym same j) ∷ tail j
slice_set-map name f g (x ∷ xs) (suc i) a apart at agree =
    let parts = and_parts (has_no name (name x) xs) (are_distinct (map name xs)) apart in
    let head = agree x (same_text-swap (name a) (name x) ∙ has_no_at name (name x) xs i a parts.0 at) in
    let tail = slice_set-map name f g xs i a parts.1 at agree in
    λ j. head j ∷ tail j

-- ---- free resources that remain

slice_get-set_other : {X : Type 0} (xs : List X) (i j : ℕ) (x : X) → i < j → slice_get (slice_set xs i x) j ≡ slice_get xs j
slice_get-set_other [] i j x below = refl
slice_get-set_other (y ∷ ys) zero zero x below = absurd (omega arith)
slice_get-set_other (y ∷ ys) zero (suc j) x below = refl
slice_get-set_other (y ∷ ys) (suc i) zero x below = absurd (omega arith)
slice_get-set_other (y ∷ ys) (suc i) (suc j) x below = slice_get-set_other ys i j x (omega arith)

slice_set-again : {X : Type 0} (xs : List X) (i : ℕ) (x y : X) → slice_set (slice_set xs i x) i y ≡ slice_set xs i y
slice_set-again [] i x y = refl
slice_set-again (z ∷ xs) zero x y = refl
slice_set-again (z ∷ xs) (suc i) x y = ap (λ ys. z ∷ ys) (slice_set-again xs i x y)

slice_set-itself : {X : Type 0} (xs : List X) (i : ℕ) (x : X) → slice_get xs i ≡ Some x → slice_set xs i x ≡ xs
slice_set-itself [] i x at = refl
slice_set-itself (y ∷ xs) zero x at = let same : x ≡ y = cc in ap (λ z. z ∷ xs) same
slice_set-itself (y ∷ xs) (suc i) x at = ap (λ ys. y ∷ ys) (slice_set-itself xs i x at)

frees_after-later : (frees : List (List Resource)) (lefts : List Left) (place : ℕ) → AllByRecursion (λ l. l.agent < place) lefts
    → slice_get (frees_after frees lefts) place ≡ slice_get frees place
frees_after-later frees [] place past = refl
frees_after-later frees (l ∷ lefts) place past =
    frees_after-later (slice_set frees l.agent l.free) lefts place past.1 ∙ slice_get-set_other frees l.agent place l.free past.0

-- the free resources of an agent do not change before its turn
pub free-before : (rows : Rows) (offers : List OfferRow) (lefts : List Left) (place : ℕ) (agent : AgentRow) → HasLeft rows offers lefts place
    → slice_get rows.agents place ≡ Some agent → free_of (with_offers rows offers) agent ≡ free_of rows agent
free-before rows offers lefts place agent left at =
    let before : slice_get (frees_of rows) place ≡ Some (free_of rows agent) =
    slice_get-map (free_of rows) rows.agents place ∙ ap (option_map (free_of rows)) at in
    let after : slice_get (frees_of (with_offers rows offers)) place ≡ Some (free_of (with_offers rows offers) agent) =
    slice_get-map (free_of (with_offers rows offers)) (with_offers rows offers).agents place
    ∙ ap (λ (as' : List AgentRow). option_map (free_of (with_offers rows offers)) (slice_get as' place)) (agents-with_offers rows offers)
    ∙ ap (option_map (free_of (with_offers rows offers))) at in
    let same : Some (free_of (with_offers rows offers) agent) ≡ Some (free_of rows agent) =
    sym after ∙ ap (λ fs. slice_get fs place) (sym left.frees) ∙ frees_after-later (frees_of rows) lefts place left.past ∙ before in
    cc

pub free_here : (rows : Rows) (offers : List OfferRow) (place : ℕ) (free : List Resource) (agent : AgentRow) → IsFreeAt (with_offers rows offers) place free
    → slice_get rows.agents place ≡ Some agent → free ≡ free_of (with_offers rows offers) agent
free_here rows offers place free agent is at =
    let there : Some is.agent ≡ Some agent = sym is.at ∙ ap (λ (as' : List AgentRow). slice_get as' place) (agents-with_offers rows offers) ∙ at in
    let same : is.agent ≡ agent = cc in
    is.free ∙ ap (free_of (with_offers rows offers)) same

past-more : (lefts : List Left) (place : ℕ) → AllByRecursion (λ l. l.agent < place) lefts → AllByRecursion (λ l. l.agent < place + 1) lefts
past-more [] place past = tt
past-more (l ∷ lefts) place past = (omega (arith, past.0), past-more lefts place past.1)

past-push : (lefts : List Left) (place : ℕ) (left : Left) → AllByRecursion (λ l. l.agent < place) lefts → left.agent ≡ place
    → AllByRecursion (λ l. l.agent < place + 1) (lefts ++ left ∷ [])
past-push [] place left past here = (omega (arith, here), tt)
past-push (l ∷ lefts) place left past here = (omega (arith, past.0), past-push lefts place left past.1 here)

past-other : (lefts : List Left) (place : ℕ) (old new : Left) → new.agent ≡ old.agent → AllByRecursion (λ l. l.agent < place) (lefts ++ old ∷ [])
    → AllByRecursion (λ l. l.agent < place) (lefts ++ new ∷ [])
past-other [] place old new same past = (omega (arith, past.0, same), tt)
past-other (l ∷ lefts) place old new same past = (past.0, past-other lefts place old new same past.1)

pub cycle-on : (content after : Content) (tables : Stored) (drafts : Drafts) (place : ℕ) → IsCycleAt content tables drafts place → after ≡ content
    → IsCycleAt after tables drafts place
cycle-on content after tables drafts place at same = subst (λ (k : Content). IsCycleAt k tables drafts place) (sym same) at

pub cycle-closed : (content : Content) (tables : Stored) (drafts : Drafts) (place : ℕ) → IsCycleAt content tables drafts place → IsCycleAt content tables drafts (place + 1)
cycle-closed content tables drafts place at =
    record {
      drafting = at.drafting;
      settled = at.settled;
      left = record { frees = at.left.frees; past = past-more drafts.lefts.items place at.left.past };
      quota = at.quota;
    }

-- at the beginning of its turn, the free resources of an agent are recorded
pub left-begins : (rows : Rows) (offers : List OfferRow) (lefts : List Left) (place : ℕ) (agent : AgentRow) (free : List Resource) → HasLeft rows offers lefts place
    → slice_get rows.agents place ≡ Some agent → free ≡ free_of rows agent → HasLeft rows offers (lefts ++ record { agent = place; free = free } ∷ []) (place + 1)
left-begins rows offers lefts place agent free left at is_free =
    let there : slice_get (frees_after (frees_of rows) lefts) place ≡ Some free =
    frees_after-later (frees_of rows) lefts place left.past
    ∙ slice_get-map (free_of rows) rows.agents place ∙ ap (option_map (free_of rows)) at ∙ ap Some (sym is_free) in
    record {
      frees = fold-append (λ frees l. slice_set frees l.agent l.free) (frees_of rows) lefts (record { agent = place; free = free } ∷ [])
          ∙ slice_set-itself (frees_after (frees_of rows) lefts) place free there ∙ left.frees;
      past = past-push lefts place (record { agent = place; free = free }) left.past refl;
    }

-- the recorded free resources after a client was tried
pub left-tried : (rows : Rows) (offers drafts : List OfferRow) (lefts : List Left) (place : ℕ) (agent : AgentRow) (client : Client) (old new : List Resource)
    → are_distinct (map (λ a. a.name) rows.agents) ≡ true
    → HasLeft rows offers (lefts ++ record { agent = place; free = old } ∷ []) (place + 1)
    → slice_get rows.agents place ≡ Some agent
    → with_offers rows drafts ≡ tried (with_offers rows offers) agent client
    → IsFreeAt (with_offers rows drafts) place new
    → HasLeft rows drafts (lefts ++ record { agent = place; free = new } ∷ []) (place + 1)
left-tried rows offers drafts lefts place agent client old new apart left at tried_is is_free =
    let others : (b : AgentRow) → same_text agent.name b.name ≡ false → free_of (with_offers rows offers) b ≡ free_of (with_offers rows drafts) b =
    λ b other. sym (free_of-all_tried_other (with_offers rows offers) agent (client ∷ []) b other) ∙ ap (λ (r : Rows). free_of r b) (sym tried_is) in
    let set = slice_set-map (λ (a : AgentRow). a.name) (free_of (with_offers rows offers)) (free_of (with_offers rows drafts)) rows.agents place agent apart at others in
    let ended = fold-append (λ (frees : List (List Resource)) (l : Left). slice_set frees l.agent l.free) (frees_of rows) lefts in
    record {
      frees =
          ended (record { agent = place; free = new } ∷ [])
          ∙ sym (slice_set-again (frees_after (frees_of rows) lefts) place old new)
          ∙ ap (λ frees. slice_set frees place new) (sym (ended (record { agent = place; free = old } ∷ [])) ∙ left.frees)
          ∙ (λ i. slice_set (map (free_of (with_offers rows offers)) (agents-with_offers rows offers i)) place (free_here rows drafts place new agent is_free at i))
          ∙ set
          ∙ (λ i. map (free_of (with_offers rows drafts)) (sym (agents-with_offers rows drafts) i));
      past = past-other lefts (place + 1) (record { agent = place; free = old }) (record { agent = place; free = new }) refl left.past;
    }

-- ---- the turn

-- the turn of an agent that is inactive, or has too little free, changes nothing
pub turn_at-closed : (rows : Rows) (place : ℕ) → is_open_at rows place ≡ false → rows ≡ turn_at rows place
unfolding turn
turn_at-closed rows place closed = by (slice_get rows.agents place) closed
  where
    choose : (a : AgentRow) (active : Bool) → (active && is_allocatable (free_of rows a)) ≡ false → rows ≡ cond active (all_tried rows a (turn_order rows)) rows
    choose a false closed = refl
    choose a true closed = sym (all_tried_none rows a (turn_order rows) closed)

    by : (o : Option AgentRow) → option_map_or (λ a. a.active && is_allocatable (free_of rows a)) o false ≡ false
        → rows ≡ option_map_or (λ a. cond a.active (turn rows a) rows) o rows
    by None closed = refl
    by (Some a) closed = choose a a.active closed

-- in the turn of any other agent, all clients are tried
pub turn_at-open : (rows : Rows) (place : ℕ) (agent : AgentRow) → slice_get rows.agents place ≡ Some agent → is_open_at rows place ≡ true
    → all_tried rows agent (turn_order rows) ≡ turn_at rows place
unfolding turn
turn_at-open rows place agent at is_open =
    let here : (agent.active && is_allocatable (free_of rows agent)) ≡ true =
    ap (λ o. option_map_or (λ a. a.active && is_allocatable (free_of rows a)) o false) (sym at) ∙ is_open in
    let active = (and_parts agent.active (is_allocatable (free_of rows agent)) here).0 in
    sym (ap (λ o. option_map_or (λ a. cond a.active (all_tried rows a (turn_order rows)) rows) o rows) at
    ∙ ap (λ b. cond b (all_tried rows agent (turn_order rows)) rows) active)

-- until its turn, the tables without the drafts decide whether an agent is open
pub is_open_at-before : (rows : Rows) (offers : List OfferRow) (lefts : List Left) (place : ℕ) → HasLeft rows offers lefts place
    → is_open_at (with_offers rows offers) place ≡ is_open_at rows place
is_open_at-before rows offers lefts place left =
    ap (λ (as' : List AgentRow). option_map_or (λ a. a.active && is_allocatable (free_of (with_offers rows offers) a)) (slice_get as' place) false) (agents-with_offers rows offers)
    ∙ by (slice_get rows.agents place) refl
  where
    by : (o : Option AgentRow) → slice_get rows.agents place ≡ o
        → option_map_or (λ a. a.active && is_allocatable (free_of (with_offers rows offers) a)) o false
        ≡ option_map_or (λ a. a.active && is_allocatable (free_of rows a)) o false
    by None at = refl
    by (Some a) at = ap (λ f. a.active && is_allocatable f) (free-before rows offers lefts place a left at)

-- ---- the order of a turn

-- a list has an element at each place below its length
pub element_at : {X : Type 0} (xs : List X) (i : ℕ) → i < length xs → (x : X) × (slice_get xs i ≡ Some x)
element_at [] i below = absurd (omega arith)
element_at (x ∷ xs) zero below = (x, refl)
element_at (x ∷ xs) (suc i) below = element_at xs i (omega arith)

-- the paths are those of the clients of the turn, and each client is registered
pub record IsOrdered (rows : Rows) (offers : List OfferRow) (paths : List Path) : Type 0 where
  pub same : paths ≡ map path_of (turn_order (with_offers rows offers))
  pub known : AllByRecursion (λ c. is_registered rows.frameworks c ≡ true) (turn_order (with_offers rows offers))

module _ (content : Content) (rows : Rows) (offers : List OfferRow) (drafting : IsDrafting content rows offers) where
  pub sound_now : length offers < 2 ^ 63 → IsSound content
  sound_now few =
      IsSound-same (content_of (with_offers rows offers)) content (IsSame-sym content (content_of (with_offers rows offers)) drafting.sorted)
      (IsSound-content_of (with_offers rows offers) drafting.consistent
      (rw (agents-with_offers rows offers) drafting.few_agents)
      (let low_number : rows.next_offer ≤ 2 ^ 57 = drafting.low_number in omega (arith, next-with_offers rows offers)))

  pub ordered_from : (paths : List Path) → IsOrderOf content paths → IsOrdered rows offers paths
  ordered_from paths order =
      let same = IsOrderOf-turn_order (with_offers rows offers) paths drafting.consistent
      (IsOrderOf-same content (content_of (with_offers rows offers)) drafting.sorted paths order) in
      record {
        same = same;
        known = each_from (λ c. is_registered (with_offers rows offers).frameworks c ≡ true) (λ c. is_registered rows.frameworks c ≡ true) (turn_order (with_offers rows offers))
            (λ c known. sym (is_registered-with_offers rows offers c) ∙ known) (turn_order-registered (with_offers rows offers));
      }

pub registered_all : (rows : Rows) (clients : List Client) (paths : List Path) → paths ≡ map path_of clients
    → AllByRecursion (λ c. is_registered rows.frameworks c ≡ true) clients → AllByRecursion IsClientPath paths → AllByRecursion (IsRegisteredPath rows) paths
registered_all rows clients [] are known right = tt
registered_all rows [] (p ∷ paths) are known right = absurd cc
registered_all rows (c ∷ cs) (p ∷ paths) are known right =
    let joined : p ≡ path_of c = cc in
    let others : paths ≡ map path_of cs = cc in
    (record { client = c; joined = joined; registered = known.0; right = right.0 }, registered_all rows cs paths others known.1 right.1)

-- ---- clients in the queue

-- trying the clients in the queue from here gives the same rows as trying all clients from the start
pub record AreWaiting (rows : Rows) (place : ℕ) (start now : Rows) (queue : List Path) : Type 0 where
  pub clients : List Client
  pub queued : queue ≡ map path_of clients
  pub same : (agent : AgentRow) → slice_get rows.agents place ≡ Some agent → all_tried now agent clients ≡ all_tried start agent (turn_order start)

module _ (rows : Rows) (place : ℕ) (start now : Rows) (queue : List Path) (waiting : AreWaiting rows place start now queue) where
  -- after the next client was tried, the others are in the queue
  pub waiting-passed : (after : Rows) (left : List Path) (path : Path) → now.agents ≡ rows.agents → slice_get queue 0 ≡ Some path
      → IsTried now after place path → left ≡ drop 1 queue → AreWaiting rows place start after left
  waiting-passed after left path agents first tried left_is = by waiting.clients waiting.queued waiting.same
    where
      by : (clients : List Client) → queue ≡ map path_of clients
          → ((agent : AgentRow) → slice_get rows.agents place ≡ Some agent → all_tried now agent clients ≡ all_tried start agent (turn_order start))
          → AreWaiting rows place start after left
      by [] queued same = let nothing : Some path ≡ None = sym first ∙ ap (λ ps. slice_get ps 0) queued in absurd cc
      by (c ∷ cs) queued same =
          let here : Some path ≡ Some (path_of c) = sym first ∙ ap (λ ps. slice_get ps 0) queued in
          let joined : path ≡ path_of c = cc in
          record {
            clients = cs;
            queued = left_is ∙ ap (λ ps. drop 1 ps) queued;
            same = λ agent at.
                ap (λ (r : Rows). all_tried r agent cs) (tried agent c (ap (λ as'. slice_get as' place) agents ∙ at) joined) ∙ same agent at;
          }

  -- if the queue is empty, or too little is left to grant, all clients were tried
  pub waiting-over : (free : List Resource) → (is_some (slice_get queue 0) && is_allocatable free) ≡ false
      → (agent : AgentRow) → slice_get rows.agents place ≡ Some agent → free ≡ free_of now agent → now ≡ all_tried start agent (turn_order start)
  waiting-over free over agent at is_free = by waiting.clients waiting.queued (waiting.same agent at)
    where
      by : (clients : List Client) → queue ≡ map path_of clients → all_tried now agent clients ≡ all_tried start agent (turn_order start) → now ≡ all_tried start agent (turn_order start)
      by [] queued same = same
      by (c ∷ cs) queued same =
          let little : is_allocatable (free_of now agent) ≡ false =
          ap is_allocatable (sym is_free) ∙ sym (ap (λ ps. is_some (slice_get ps 0) && is_allocatable free) queued) ∙ over in
          sym (all_tried_none now agent (c ∷ cs) little) ∙ same

-- the queue is not empty
pub first_of_queue : (queue : List Path) (worth : Bool) → (is_some (slice_get queue 0) && worth) ≡ true → (path : Path) × (slice_get queue 0 ≡ Some path)
first_of_queue [] worth some = cc
first_of_queue (path ∷ queue) worth some = (path, refl)

pub queue_begins : (queue : List Path) (path : Path) → slice_get queue 0 ≡ Some path → queue ≡ path ∷ drop 1 queue
queue_begins [] path first = absurd cc
queue_begins (p ∷ queue) path first = let same : p ≡ path = cc in ap (λ p'. p' ∷ queue) same

-- the turn continues with another queue
pub turn-on : (content after : Content) (tables : Stored) (drafts : Drafts) (place : ℕ) (free : Free) (queue left : List Path) → IsTurn content tables drafts place free queue
    → after ≡ content → AllByRecursion (IsRegisteredPath tables.rows) left → IsTurn after tables drafts place free left
turn-on content after tables drafts place free queue left turn same clients = record {
  drafting = subst (λ (k : Content). IsDrafting k tables.rows drafts.offers.items) (sym same) turn.drafting;
  settled = turn.settled;
  left = turn.left;
  quota = turn.quota;
  inside = turn.inside;
  is_free = turn.is_free;
  known = turn.known;
  clients = clients;
}

pub all_dropped : {X : Type 0} (P : X → Type 0) (xs : List X) → AllByRecursion P xs → AllByRecursion P (drop 1 xs)
all_dropped P [] all = tt
all_dropped P (x ∷ xs) all = all.1
