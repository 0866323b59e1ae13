-- Adding a node without clients leaves a tree of the same clients.
use Rattle.std.specs.Cmp.{nat_cmp_total}
use Rattle.std.specs.List.{AllByRecursion, list_any}
use Rattle.std.specs.Option.{is_some, option_map_or}
use Rattle.std.specs.Ordering.{nat_cmp}
use Rattle.std.specs.declared.cmp.Ordering.TheVariants.{Equal}
use Rattle.std.proofs.Common.{refl, sym, ap, subst, ◌∙◌, inl, inr, arith, length-set, get_or-set_same, get_or-set_other, ◌≡◌, ◌≢◌, ◌<◌, ◌-◌, ◌*◌, ◌==◌, ℕ, Bool, true, false, ◌||◌, cond, nat_lt, List, [], ◌∷◌, ◌++◌, Option, None, Some, IfSome, filter, length, map, slice_get, slice_index_or, slice_set, sum_by}
use Rattle.std.proofs.lemmas.Bool.{true≢false, cases_Bool, cases_eq, or_right}
use Rattle.std.proofs.lemmas.Cmp.{tied_itself}
use Rattle.std.proofs.lemmas.Option.{get_or_from_slice_get, same_Some}
use Rattle.drf_tree.proofs.Names.{Entry, Text, same_text, Path, IsClientPath, IsNodePath, begins_with, same_path, each_from, Fraction, greatest, is_less, weighted_share_of, Key, key_by, key_of, Child, Family, Place, Sum, Tree, IsKeyOfNothing, IsOneLonger, IsShapeOf, IsSameKey, IsWith, child_name, children_at, is_live, is_node, last_part, path_at, place_at, IsMarkedOrRight, IsSumOf, IsTreeOf}
use Rattle.drf_rows.specs.Held.{weight_of}
use Rattle.drf_sorter.specs.Content.{Content, Ranked, clients_under, has_node, standing_in}
use Rattle.drf_sorter.specs.Fractions.{fraction_cmp, held_fractions}
use Rattle.drf_tree.proofs.growth.Bare.{none_under}
use Rattle.drf_tree.proofs.shape.Node.{last_is, node_within}
use Rattle.drf_tree.proofs.growth.Shape.{IsShapeIn, shape_from, shape_in, sprouted}
use Rattle.drf_tree.proofs.shape.Slice.{get_set_other, get_set_same}
use Rattle.drf_tree.proofs.growth.Vacant.{shape_same, tree_seen}
use Rattle.drf_tree.proofs.growth.With.{any_with, each_with, set_family_other, set_family_same}

pub none_pass : {X : Type 0} (p : X → Bool) (xs : List X) → list_any p xs ≡ false → filter p xs ≡ []
none_pass p [] none = refl
none_pass {X} p (x ∷ xs) none = elim (cases_Bool (p x)) [
  | inl here ↦ absurd (true≢false (sym (ap (λ (b : Bool). b || list_any p xs) here) ∙ none))
  | inr past ↦
      ap (λ (b : Bool). cond b (x ∷ filter p xs) (filter p xs)) past
      ∙ none_pass p xs (sym (ap (λ (b : Bool). b || list_any p xs) past) ∙ none)
]

-- ---- the share of nothing is 0

greater_of_nothing : (b : Bool) (f g : Fraction) → f.part ≡ 0 → g.part ≡ 0 → (cond b g f).part ≡ 0
greater_of_nothing true f g p q = q
greater_of_nothing false f g p q = p

pub share_of_nothing : (held : Text → ℕ) (total : List Entry) → ((label : Text) → held label ≡ 0)
    → (greatest (held_fractions held total)).part ≡ 0
share_of_nothing held [] none = refl
share_of_nothing held (e ∷ es) none = elim (cases_Bool (nat_lt 0 e.amount)) [
  | inl some ↦
      rw some
      (greater_of_nothing (is_less (record { part = held e.label; whole = e.amount }) (greatest (held_fractions held es)))
      (record { part = held e.label; whole = e.amount }) (greatest (held_fractions held es))
      (none e.label) (share_of_nothing held es none))
  | inr past ↦ rw past (share_of_nothing held es none)
]

-- fractions whose numerators are 0 are equal
pub same_nothing : (f g : Fraction) → f.part ≡ 0 → g.part ≡ 0 → fraction_cmp f g ≡ Equal
same_nothing f g p q =
    let left : f.part * g.whole ≡ 0 = ap (λ (n : ℕ). n * g.whole) p ∙ omega arith in
    let right : g.part * f.whole ≡ 0 = ap (λ (n : ℕ). n * f.whole) q ∙ omega arith in
    (λ i. nat_cmp (left i) (right i)) ∙ tied_itself nat_cmp_total 0

-- the key of nothing is right for a node without clients
pub key_of_nothing : (content : Content) (parent : Path) (name : Text) (key : Key)
    → clients_under content (parent ++ name ∷ []) ≡ [] → 0 < key.share.whole → key.share.part ≡ 0 → key.count ≡ 0
    → key.name ≡ name → IsSameKey key (key_of (standing_in content) parent name)
unfolding standing_in
key_of_nothing content parent name key none whole part count named = record {
  some = whole;
  share =
      let nothing = share_of_nothing (λ label. sum_by (λ c. c.held label) (clients_under content (parent ++ name ∷ [])))
      content.total (λ label. ap (sum_by (λ (c : Ranked). c.held label)) none) in
      same_nothing key.share (weighted_share_of (standing_in content) (parent ++ name ∷ [])) part
      (ap (λ (n : ℕ). n * 1000) nothing);
  count = count ∙ sym (ap (sum_by (λ (c : Ranked). c.count)) none);
  name = named;
}

pub sum_of_nothing : (content : Content) (path : Path) (weight : ℕ) → clients_under content path ≡ []
    → weight ≡ weight_of content.weights path
    → IsSumOf content path (record { held = []; count = 0; clients = 0; active = 0; weight = weight })
unfolding standing_in
sum_of_nothing content path weight none weighs = record {
  held = λ label. sym (ap (sum_by (λ (c : Ranked). c.held label)) none);
  count = sym (ap (sum_by (λ (c : Ranked). c.count)) none);
  clients = sym (ap length none);
  active = sym (ap (λ (cs : List Ranked). length (filter (λ c. c.active) cs)) none);
  weight = weighs;
}

-- the last part of the path is the name
pub last_named : (above path : Path) (longer : IsOneLonger above path) (name : Text)
    → slice_get path (length path - 1) ≡ Some name → name ≡ longer.part
last_named above path longer name at =
    sym (get_or_from_slice_get path (length path - 1) name [] at) ∙ ap last_part longer.joined ∙ last_is above longer.part

-- a node can be added here: its parent is a node, and no other node has its path
pub record IsReady (places : List (Option Place)) (parent : ℕ) (path : Path) : Type 0 where
  pub there : is_node places parent ≡ true
  pub longer : IsOneLonger (path_at places parent) path
  pub missing : (i : ℕ) → is_live places i ≡ true → path_at places i ≢ path

pub ready_seen : (old new : List (Option Place)) (parent : ℕ) (path : Path) → ((i : ℕ) → place_at new i ≡ place_at old i)
    → IsReady old parent path → IsReady new parent path
ready_seen old new parent path same ready = record {
  there = ap (λ (o : Option Place). (parent == 0) || is_some o) (same parent) ∙ ready.there;
  longer =
      subst (λ (p : Path). IsOneLonger p path) (sym (ap (λ (o : Option Place). option_map_or (λ p. p.path) o []) (same parent)))
      ready.longer;
  missing = λ i live at.
      ready.missing i (ap (λ (o : Option Place). is_some o) (sym (same i)) ∙ live)
      (sym (ap (λ (o : Option Place). option_map_or (λ p. p.path) o []) (same i)) ∙ at);
}

-- the tree stays right if only the number of computed keys changes
module _ (old new : Tree) (places : new.places ≡ old.places) (sums : new.sums ≡ old.sums) (families : new.families ≡ old.families)
    (stale : new.marks.stale ≡ old.marks.stale) (shape : IsShapeOf old) where
  at_same : (i : ℕ) → place_at new.places.items i ≡ place_at old.places.items i
  at_same i = ap (λ ps. place_at ps.items i) places

  kids_same : (i : ℕ) → children_at new.families.items i ≡ children_at old.families.items i
  kids_same i = ap (λ fs. children_at fs.items i) families

  flags_same : (i : ℕ) → slice_index_or new.marks.stale i false ≡ slice_index_or old.marks.stale i false
  flags_same i = ap (λ flags. slice_index_or flags i false) stale

  some_same : 0 < length new.places.items
  some_same = omega (arith, ap (λ ps. length ps.items) places, shape.some)

  sums_same : length new.sums.items ≡ length new.places.items
  sums_same = omega (arith, ap (λ ps. length ps.items) places, ap (λ ss. length ss.items) sums, shape.sums_long)

  families_same : length new.families.items ≡ length new.places.items
  families_same = omega (arith, ap (λ ps. length ps.items) places, ap (λ fs. length fs.items) families, shape.families_long)

  stale_same : length new.marks.stale ≡ length new.places.items
  stale_same = omega (arith, ap (λ ps. length ps.items) places, ap length stale, shape.stale_long)

  pub counted_shape : IsShapeOf new
  counted_shape = shape_same old new at_same kids_same flags_same some_same sums_same families_same stale_same shape

  pub counted_tree : (content : Content) → IsTreeOf content old → IsTreeOf content new
  counted_tree content of =
      tree_seen old new at_same kids_same flags_same some_same sums_same families_same stale_same content
      (λ i live. ap (λ ss. slice_get ss.items i) sums) of

-- the tree stays right if a family is replaced by the same one
pub kept_tree : (old new : Tree) (parent : ℕ) (f : Family) → IsShapeOf old → parent < length old.families.items
    → f.children.items ≡ children_at old.families.items parent → new.places.items ≡ old.places.items
    → new.sums.items ≡ old.sums.items → new.families.items ≡ slice_set old.families.items parent f
    → new.marks.stale ≡ old.marks.stale → (content : Content) → IsTreeOf content old → IsTreeOf content new
kept_tree old new parent f shape below same places sums families stale content of =
    tree_seen old new (λ i. ap (λ ps. place_at ps i) places) kids (λ i. ap (λ flags. slice_index_or flags i false) stale)
    (omega (arith, ap length places, shape.some))
    (omega (arith, ap length places, ap length sums, shape.sums_long))
    (omega (arith, ap length places, ap length families, length-set old.families.items parent f, shape.families_long))
    (omega (arith, ap length places, ap length stale, shape.stale_long))
    content (λ i live. ap (λ ss. slice_get ss i) sums) of
  where
    kids : (i : ℕ) → children_at new.families.items i ≡ children_at old.families.items i
    kids i = ap (λ fs. children_at fs i) families ∙ elim (cases_eq i parent) [
      | inl here ↦
          ap (children_at (slice_set old.families.items parent f)) here ∙ set_family_same old.families.items parent f below ∙ same
          ∙ ap (children_at old.families.items) (sym here)
      | inr other ↦ set_family_other old.families.items parent i f other
    ]

module _ (old new : Tree) (shape : IsShapeOf old) (node parent : ℕ) (place : Place) (child : Child) (f : Family) (weight : ℕ)
    (within : node < length old.places.items) (vacant : is_node old.places.items node ≡ false)
    (ready : IsReady old.places.items parent place.path) (right : IsNodePath place.path)
    (client : IsClientPath place.path → place.client ≡ Some place.path)
    (client_is : IfSome place.client (λ c. (c ≡ place.path) × IsClientPath place.path))
    (above : place.parent ≡ parent) (number : child.node ≡ node) (key : IsKeyOfNothing place.path (key_by child.key))
    (with : IsWith child (children_at old.families.items parent) f.children.items)
    (places : new.places.items ≡ slice_set old.places.items node (Some place))
    (families : new.families.items ≡ slice_set old.families.items parent f)
    (stale : new.marks.stale ≡ old.marks.stale)
    (sums : new.sums.items ≡ slice_set old.sums.items node (record { held = []; count = 0; clients = 0; active = 0; weight = weight })) where
  abbrev there : is_node old.places.items parent ≡ true
  there = ready.there

  abbrev longer : IsOneLonger (path_at old.places.items parent) place.path
  longer = ready.longer

  below : parent < length old.families.items
  below = omega (arith, node_within old shape parent there, shape.families_long)

  put : place_at new.places.items node ≡ Some place
  put = ap (λ ps. place_at ps node) places ∙ get_or-set_same old.places.items node (Some place) None within

  rest : (i : ℕ) → i ≢ node → place_at new.places.items i ≡ place_at old.places.items i
  rest i other = ap (λ ps. place_at ps i) places ∙ get_or-set_other old.places.items node i (Some place) None other

  family_now : children_at new.families.items parent ≡ f.children.items
  family_now = ap (λ fs. children_at fs parent) families ∙ set_family_same old.families.items parent f below

  others : (i : ℕ) → i ≢ parent → children_at new.families.items i ≡ children_at old.families.items i
  others i other = ap (λ fs. children_at fs i) families ∙ set_family_other old.families.items parent i f other

  with_now : IsWith child (children_at old.families.items parent) (children_at new.families.items parent)
  with_now = subst (IsWith child (children_at old.families.items parent)) (sym family_now) with

  named : child_name child ≡ longer.part
  named = last_named (path_at old.places.items parent) place.path longer (child_name child) key.name

  joined : place.path ≡ path_at old.places.items parent ++ child_name child ∷ []
  joined = longer.joined ∙ ap (λ (t : Text). path_at old.places.items parent ++ t ∷ []) (sym named)

  other_client : (path : Path) → place.client ≡ Some path → (place.path ≡ path) × IsClientPath path
  other_client path is =
      let both = subst (λ (o : Option Path). IfSome o (λ c. (c ≡ place.path) × IsClientPath place.path)) is client_is in
      (sym both.0, subst IsClientPath (sym both.0) both.1)

  pub sprout_shape : IsShapeOf new
  sprout_shape =
      shape_from new.places.items new.families.items new.marks.stale new.sums.items
      (omega (arith, ap length places, length-set old.places.items node (Some place), shape.some))
      (omega (
        arith,
        ap length places,
        length-set old.places.items node (Some place),
        ap length sums,
        length-set old.sums.items node (record { held = []; count = 0; clients = 0; active = 0; weight = weight }),
        shape.sums_long,
      ))
      (omega (arith, ap length places, length-set old.places.items node (Some place), ap length families, length-set old.families.items parent f, shape.families_long))
      (omega (arith, ap length places, length-set old.places.items node (Some place), ap length stale, shape.stale_long))
      (subst (λ (flags : List Bool). IsShapeIn (λ i. place_at new.places.items i) (λ i. children_at new.families.items i) (λ i. slice_index_or flags i false))
      (sym stale)
      (sprouted (λ i. place_at old.places.items i) (λ i. place_at new.places.items i) (λ i. children_at old.families.items i)
      (λ i. children_at new.families.items i) (λ i. slice_index_or old.marks.stale i false)
      (shape_in old.places.items old.families.items old.marks.stale old.sums.items shape) node parent place child vacant there
      put rest with_now others number above joined right ready.missing client other_client))

  sprout_path : path_at new.places.items node ≡ place.path
  sprout_path = ap (λ (o : Option Place). option_map_or (λ p. p.path) o []) put

  path_now : (i : ℕ) → i ≢ node → path_at new.places.items i ≡ path_at old.places.items i
  path_now i other = ap (λ (o : Option Place). option_map_or (λ p. p.path) o []) (rest i other)

  was_live : (i : ℕ) → i ≢ node → is_live new.places.items i ≡ true → is_live old.places.items i ≡ true
  was_live i other is = ap (λ (o : Option Place). is_some o) (sym (rest i other)) ∙ is

  apart : parent ≢ node
  apart same = true≢false (sym there ∙ ap (is_node old.places.items) same ∙ vacant)

  module _ (content : Content) (of : IsTreeOf content old) (weighs : weight ≡ weight_of content.weights place.path)
      (nobody : has_node content place.path ≡ false) where
    none : clients_under content place.path ≡ []
    none = none_pass (λ (c : Ranked). begins_with c.path place.path) content.clients nobody

    sums_now : (i : ℕ) (sum : Sum) → is_live new.places.items i ≡ true → slice_get new.sums.items i ≡ Some sum
        → IsSumOf content (path_at new.places.items i) sum
    sums_now i sum is at = elim (cases_eq i node) [
      | inl here ↦
          let made : Sum = record { held = []; count = 0; clients = 0; active = 0; weight = weight } in
          let there : slice_get new.sums.items i ≡ Some made =
          ap (slice_get new.sums.items) here ∙ ap (λ ss. slice_get ss node) sums
          ∙ get_set_same old.sums.items node made (omega (arith, within, shape.sums_long)) in
          let same : made ≡ sum = same_Some made sum (sym there ∙ at) in
          subst (λ (p : Path). IsSumOf content p sum) (sym (ap (path_at new.places.items) here ∙ sprout_path))
          (subst (IsSumOf content place.path) same (sum_of_nothing content place.path weight none weighs))
      | inr other ↦
          subst (λ (p : Path). IsSumOf content p sum) (sym (path_now i other))
          (of.sums i sum (was_live i other is)
          (sym (ap (λ ss. slice_get ss i) sums
          ∙ get_set_other old.sums.items node i (record { held = []; count = 0; clients = 0; active = 0; weight = weight }) other) ∙ at))
    ]

    complete_now : (i : ℕ) → is_node new.places.items i ≡ true → (part : Text) (beyond : Path)
        → list_any (same_path (path_at new.places.items i ++ part ∷ beyond)) (map (λ (c : Ranked). c.path) content.clients) ≡ true
        → list_any (same_text part) (map child_name (children_at new.families.items i)) ≡ true
    complete_now i is part beyond client = elim (cases_eq i node) [
      | inl here ↦
          absurd (none_under place.path (part ∷ beyond) content.clients none
          (ap (λ (p : Path). list_any (same_path (p ++ part ∷ beyond)) (map (λ (c : Ranked). c.path) content.clients))
          (sym (ap (path_at new.places.items) here ∙ sprout_path)) ∙ client))
      | inr other ↦
          let was : is_node old.places.items i ≡ true = ap (λ (o : Option Place). (i == 0) || is_some o) (sym (rest i other)) ∙ is in
          let some = of.complete i was part beyond
          (ap (λ (p : Path). list_any (same_path (p ++ part ∷ beyond)) (map (λ (c : Ranked). c.path) content.clients)) (sym (path_now i other)) ∙ client) in
          elim (cases_eq i parent) [
            | inl same ↦
                ap (λ (k : ℕ). list_any (same_text part) (map child_name (children_at new.families.items k))) same
                ∙ any_with child (children_at old.families.items parent) (children_at new.families.items parent) with_now child_name (same_text part)
                ∙ or_right (same_text part (child_name child)) (list_any (same_text part) (map child_name (children_at old.families.items parent)))
                (ap (λ (k : ℕ). list_any (same_text part) (map child_name (children_at old.families.items k))) (sym same) ∙ some)
            | inr past ↦ ap (λ (cs : List Child). list_any (same_text part) (map child_name cs)) (others i past) ∙ some
          ]
    ]

    -- the key of each other child stays right
    right_still : (i : ℕ) → i ≢ node → (c : Child) → IsMarkedOrRight content old.places.items old.marks.stale i c
        → IsMarkedOrRight content new.places.items new.marks.stale i c
    right_still i other c (inl marked) = inl (ap (λ flags. slice_index_or flags c.node false) stale ∙ marked)
    right_still i other c (inr key) =
        inr (subst (λ (p : Path). IsSameKey (key_by c.key) (key_of (standing_in content) p (child_name c))) (sym (path_now i other)) key)

    new_right : IsMarkedOrRight content new.places.items new.marks.stale parent child
    new_right =
        inr (subst (λ (p : Path). IsSameKey (key_by child.key) (key_of (standing_in content) p (child_name child))) (sym (path_now parent apart))
        (key_of_nothing content (path_at old.places.items parent) (child_name child) (key_by child.key)
        (ap (clients_under content) (sym joined) ∙ none) key.whole key.part key.count refl))

    right_now : (i : ℕ) → AllByRecursion (IsMarkedOrRight content new.places.items new.marks.stale i) (children_at new.families.items i)
    right_now i = elim (cases_eq i parent) [
      | inl same ↦
          subst (λ (k : ℕ). AllByRecursion (IsMarkedOrRight content new.places.items new.marks.stale k) (children_at new.families.items k)) (sym same)
          (each_with child (children_at old.families.items parent) (children_at new.families.items parent) with_now
          (IsMarkedOrRight content new.places.items new.marks.stale parent) new_right
          (each_from (IsMarkedOrRight content old.places.items old.marks.stale parent)
          (IsMarkedOrRight content new.places.items new.marks.stale parent) (children_at old.families.items parent)
          (right_still parent apart) (of.right parent)))
      | inr other ↦
          subst (AllByRecursion (IsMarkedOrRight content new.places.items new.marks.stale i)) (sym (others i other))
          (elim (cases_eq i node) [
            | inl here ↦
                subst (AllByRecursion (IsMarkedOrRight content new.places.items new.marks.stale i))
                (sym (ap (children_at old.families.items) here ∙ shape.free node vacant)) tt
            | inr past ↦
                each_from (IsMarkedOrRight content old.places.items old.marks.stale i)
                (IsMarkedOrRight content new.places.items new.marks.stale i) (children_at old.families.items i)
                (right_still i past) (of.right i)
          ])
    ]

    pub sprout_tree : IsTreeOf content new
    sprout_tree = record {
      paths = of.paths;
      distinct = of.distinct;
      shape = sprout_shape;
      sums = sums_now;
      complete = complete_now;
      right = right_now;
    }
