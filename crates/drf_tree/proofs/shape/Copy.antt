-- A tree whose families have the same keys and numbers is a tree of the same clients.
use Rattle.std.specs.List.{AllByRecursion, IsDistinct, list_any}
use Rattle.std.specs.Option.{option_map, option_map_or}
use Rattle.std.proofs.Common.{refl, sym, ap, subst, ◌∙◌, arith, ◌≡◌, ◌==◌, ℕ, Bool, true, false, List, [], ◌∷◌, ◌++◌, Option, None, Some, ◌⊎◌, length, map, slice_get, slice_index_or}
use Rattle.std.proofs.lemmas.List.{length-map, nil_from_length}
use Rattle.std.proofs.lemmas.Option.{slice_get-map}
use Rattle.std.proofs.lemmas.Simd.{map-map}
use Rattle.drf_tree.proofs.Names.{Text, same_text, list_any-map, Key, key_of, Child, Family, Place, Sum, Tree, Frame, IsSameKey, child_name, has_child, seen, Flags, children_at, family_at, is_live, parent_at, path_at, seen_in, IsSettled, AreRight, AreSums, IsChildOf, IsComplete, IsMarkedOrRight, IsShape, IsTreeOf}
use Rattle.drf_sorter.specs.Content.{Content, standing_in}
use Rattle.drf_tree.proofs.keys.Renew.{IsRepaired}

-- ---- children that contracts see as the same

children_seen : (families : List Family) (i : ℕ) → map seen (children_at families i) ≡ option_map_or (λ s. s) (slice_get (map seen_in families) i) []
children_seen families i =
    by (slice_get families i) ∙ ap (λ (o : Option (List (Key × ℕ))). option_map_or (λ s. s) o []) (sym (slice_get-map seen_in families i))
  where
    by : (o : Option Family)
        → map seen (option_map_or (λ f. f.children.items) o []) ≡ option_map_or (λ s. s) (option_map seen_in o) []
    by None = refl
    by (Some f) = refl

pub seen_alike : (old new : List Family) → map seen_in new ≡ map seen_in old → (i : ℕ)
    → map seen (children_at old i) ≡ map seen (children_at new i)
seen_alike old new same i =
    children_seen old i
    ∙ ap (λ (ss : List (List (Key × ℕ))). option_map_or (λ s. s) (slice_get ss i) []) (sym same)
    ∙ sym (children_seen new i)

each_seen : (P : Child → Type 0) → ((c d : Child) → seen c ≡ seen d → P c → P d) → (old new : List Child)
    → map seen old ≡ map seen new → AllByRecursion P old → AllByRecursion P new
each_seen P so [] [] same all = tt
each_seen P so [] (d ∷ new) same all = absurd cc
each_seen P so (c ∷ old) [] same all = absurd cc
each_seen P so (c ∷ old) (d ∷ new) same all =
    let first : seen c ≡ seen d = cc in
    let rest : map seen old ≡ map seen new = cc in
    (so c d first all.0, each_seen P so old new rest all.1)

module _ (old new : List Child) (same : map seen old ≡ map seen new) where
  pub names_seen : map child_name new ≡ map child_name old
  names_seen =
      sym (map-map (λ (s : Key × ℕ). s.0.name) seen new)
      ∙ ap (map (λ (s : Key × ℕ). s.0.name)) (sym same)
      ∙ map-map (λ (s : Key × ℕ). s.0.name) seen old

  pub children_seen_in : (i : ℕ) → has_child i new ≡ has_child i old
  children_seen_in i =
      sym (list_any-map (λ (s : Key × ℕ). s.1 == i) seen new)
      ∙ ap (list_any (λ (s : Key × ℕ). s.1 == i)) (sym same)
      ∙ list_any-map (λ (s : Key × ℕ). s.1 == i) seen old

  pub none_seen : old ≡ [] → new ≡ []
  none_seen none =
      nil_from_length new
      (omega (arith, ap length same, ap length none, length-map old seen, length-map new seen))

child_seen : (places : List (Option Place)) (i : ℕ) (c d : Child) → seen c ≡ seen d → IsChildOf places i c → IsChildOf places i d
child_seen places i c d same child =
    let number : d.node ≡ c.node = ap (λ (s : Key × ℕ). s.1) (sym same) in
    let name : child_name c ≡ child_name d = ap (λ (s : Key × ℕ). s.0.name) same in
    record {
      live = ap (is_live places) number ∙ child.live;
      above = ap (parent_at places) number ∙ child.above;
      path = ap (path_at places) number ∙ child.path ∙ ap (λ (n : Text). path_at places i ++ n ∷ []) name;
    }

right_seen : (content : Content) (places : List (Option Place)) (stale : List Bool) (i : ℕ) (c d : Child) → seen c ≡ seen d
    → IsMarkedOrRight content places stale i c → IsMarkedOrRight content places stale i d
right_seen content places stale i c d same =
    subst
    (λ (s : Key × ℕ). (slice_index_or stale s.1 false ≡ true) ⊎ IsSameKey s.0 (key_of (standing_in content) (path_at places i) s.0.name))
    same

-- ---- the tree

pub copied : (content : Content) (tree : Tree) (families : List Family) → map seen_in families ≡ map seen_in tree.families.items
    → IsTreeOf content tree → IsRepaired content tree families tree.marks.stale
copied content tree families same of =
    let places = tree.places.items in
    let old = tree.families.items in
    let alike : (i : ℕ) → map seen (children_at old i) ≡ map seen (children_at families i) = seen_alike old families same in
    record {
      shape = record {
        some = of.shape.some;
        sums_long = of.shape.sums_long;
        families_long = sym (length-map families seen_in) ∙ ap length same ∙ length-map old seen_in ∙ of.shape.families_long;
        stale_long = of.shape.stale_long;
        root = of.shape.root;
        children = λ i.
            each_seen (IsChildOf places i) (child_seen places i) (children_at old i) (children_at families i) (alike i) (of.shape.children i);
        kept = λ i live. (
          (of.shape.kept i live).0,
          children_seen_in (children_at old (parent_at places i)) (children_at families (parent_at places i)) (alike (parent_at places i)) i
              ∙ (of.shape.kept i live).1,
        );
        once = λ i.
            subst (IsDistinct same_text) (sym (names_seen (children_at old i) (children_at families i) (alike i))) (of.shape.once i);
        distinct = of.shape.distinct;
        right = of.shape.right;
        clients = of.shape.clients;
        others = of.shape.others;
        free = λ i none. none_seen (children_at old i) (children_at families i) (alike i) (of.shape.free i none);
        unmarked = of.shape.unmarked;
      };
      complete = λ i node part below some.
          ap (list_any (same_text part)) (names_seen (children_at old i) (children_at families i) (alike i))
          ∙ of.complete i node part below some;
      right = λ i.
          each_seen (IsMarkedOrRight content places tree.marks.stale i) (right_seen content places tree.marks.stale i)
          (children_at old i) (children_at families i) (alike i) (of.right i);
    }

-- the lists other than the families
abbrev Lists : Type 0
Lists = List (Option Place) × List Sum × Flags

pub copied_lists : (content : Content) (old new : Tree) → new.places.items ≡ old.places.items → new.sums.items ≡ old.sums.items
    → map seen_in new.families.items ≡ map seen_in old.families.items → new.marks ≡ old.marks → IsTreeOf content old
    → IsTreeOf content new
copied_lists content old new places sums same marks of =
    let families = new.families.items in
    let all = copied content old families same of in
    let lists : ◌≡◌ {A = Lists} (old.places.items, old.sums.items, old.marks) (new.places.items, new.sums.items, new.marks) =
    λ i. (sym places i, sym sums i, sym marks i) in
    record {
      paths = of.paths;
      distinct = of.distinct;
      shape = subst (λ (x : Lists). IsShape x.0 families x.2.stale x.1) lists all.shape;
      sums = subst (λ (x : Lists). AreSums content x.0 x.1) lists of.sums;
      complete = subst (λ (x : Lists). IsComplete content x.0 families) lists all.complete;
      right = subst (λ (x : Lists). AreRight content x.0 families x.2.stale) lists all.right;
    }

-- ---- the walk

numbers_seen : (old new : List Family) → map seen_in new ≡ map seen_in old → (i : ℕ) → family_at old i ≡ family_at new i
numbers_seen old new same i =
    sym (map-map (λ (s : Key × ℕ). s.1) seen (children_at old i))
    ∙ ap (map (λ (s : Key × ℕ). s.1)) (seen_alike old new same i)
    ∙ map-map (λ (s : Key × ℕ). s.1) seen (children_at new i)

pub settled_copied : (content : Content) (places : List (Option Place)) (old new : List Family) → map seen_in new ≡ map seen_in old
    → (frames : List Frame) → IsSettled content places old frames → IsSettled content places new frames
settled_copied content places old new same [] settled = tt
settled_copied content places old new same (f ∷ []) at = record {
  node = at.node;
  next = ap (λ (is : List ℕ). slice_get is f.next) (sym (numbers_seen old new same f.node)) ∙ at.next;
  client = at.client;
  active = at.active;
}
settled_copied content places old new same (f ∷ g ∷ frames) settled = settled_copied content places old new same (g ∷ frames) settled
