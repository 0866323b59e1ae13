-- Laws of filters.
use Rattle.std.proofs.Common.{◌≡◌, ◌≢◌, ◌+◌, ◌*◌, ◌%◌, ◌<◌, ◌≤◌, ◌&&◌, ◌==◌, if◌then◌else◌, ℕ, zero, suc, Bool, true, false, not, inl, inr, map, filter, refl, List, [], ◌∷◌, ◌++◌, Option, None, Some, is_some, nat_lt, length, get_or, set, take, replicate, ap, ◌∙◌, sym, subst, min, arith, length-append}
use Rattle.std.proofs.Math.Nat.{div-lt_iff_lt-mul, mod-lt, mul-lt-mul_of_pos_right}
use Rattle.drf_hash.specs.declared.name_hasher.NameHasher.{NameHasher}
use Rattle.std.specs.List.{list_any}
use Rattle.std.proofs.lemmas.Bool.{cases_Bool, cases_eq, cases_lt, false_from_ne_true, and_parts, and_from, lt-ltb, ltb-true}
use Rattle.std.proofs.lemmas.Bool.Decides.{nat_tests}
use Rattle.std.proofs.lemmas.List.{map-append, map-set, length-map, length-set, length-replicate, get_or-replicate, take_all, set_comm, get_or-map, get_or-set_same, get_or-set_other, get_or_default}
use Rattle.std.proofs.lemmas.List.Elements.{All-nil, All-cons, All-append, All-filter, All-push, All-take}
use Rattle.std.proofs.lemmas.List.Folds.{Any-from_list_any, list_any-from_Any, list_any_none}
use Rattle.drf_role.specs.TextLaws.{same_itself, same_from_test}
use Rattle.drf_role.specs.PathLaws.{same_path_itself, same_path-true}
use Rattle.drf_role.specs.Text.{Text, same_text}
use Rattle.drf_role.specs.Path.{same_path}
use Rattle.drf_bundle.specs.Bundle.{IsBundle, covers}
use Rattle.drf_bundle.proofs.theorems.UnitProofs.{covers_by_units}
use Rattle.drf_bundle.specs.declared.resource.Resource.{Resource}
use Rattle.drf_rows.specs.Client.{Client}
use Rattle.drf_rows.specs.Filters.{is_in_force, in_force, is_of_client, is_on_agent, holds_back, filters_without_client}
use Rattle.drf_rows.specs.declared.rows.FilterRow.{FilterRow}
use Rattle.drf_gates.specs.filters.Laws.{LessIsHeldBack, HeldBackIsRefused}
use Rattle.drf_gates.specs.filters.Chains.{IsLast, IsChained}
use Rattle.drf_gates.specs.filters.Index.{client_hash, pair_hash, row_hash, slot_hash, link_hash, hashes_in, befores, hash_bucket, bucket_of, buckets_in, IsTidy, IsTidyTo, IsLedTo, IsMarked, IsIndexed, IsLeft, HasRoom, NoneEndsBefore}
use Rattle.drf_hash.proofs.FreeSlotLaws.{filled-all, filled-more}
use Rattle.drf_hash.specs.Slots.{filled}
use Rattle.drf_gates.specs.filters.Slots.{slot_passes, without_one, filters_in, AreMarked, AreTidy, IsSlots, IsClosed, IsFilterTable}
use Rattle.drf_gates.specs.declared.filters.index.Index.{Index}
use Rattle.drf_gates.specs.declared.filters.index.Link.{Link}
use Rattle.drf_gates.specs.declared.filters.index.Key.{Key}
use Rattle.drf_gates.specs.declared.filters.index.Key.TheVariants.{Client as ByClient, ClientAndAgent}
use Rattle.drf_gates.specs.declared.filters.slots.Slots.{Slots}
use Rattle.drf_gates.proofs.filters.Chains.{chained-more, chained-free_slot, chained-any, chained-next, chained-next_free_slot, chained-drop_head, chained-drop_link, passed-last, passed-more}
use Rattle.drf_gates.proofs.filters.FreeSlots.{any-filled, no_slot, without-length, without-other, without-here, without-others, without-if, IsLess, all-less, take-less}

pub less_is_held_back : LessIsHeldBack
less_is_held_back filters f clock bundle is_there before is_bundle is_part below =
    let client : Client = record { role = f.role; framework = f.framework } in
    let covered : covers f.bundle bundle ≡ true = (covers_by_units f.bundle bundle is_bundle is_part).1 below in
    let own : is_of_client client f ≡ true = and_from _ _ (same_path_itself f.role) (same_itself f.framework) in
    list_any-from_Any (holds_back clock client f.agent bundle) filters
    (is_there.0, f, is_there.1, is_there.2, and_from _ _ (lt-ltb clock f.until before) (and_from _ _ own (and_from _ _ (same_itself f.agent) covered)))

pub held_back_is_refused : HeldBackIsRefused
held_back_is_refused filters clock client agent bundle held are_bundles is_part =
    let some = Any-from_list_any (holds_back clock client agent bundle) filters held in
    let f : FilterRow = some.1 in
    let parts = and_parts (is_in_force clock f) (is_of_client client f && (is_on_agent agent f && covers f.bundle bundle)) some.4 in
    let own = and_parts (is_of_client client f) (is_on_agent agent f && covers f.bundle bundle) parts.1 in
    let names = and_parts (same_path f.role client.role) (same_text f.framework client.framework) own.0 in
    let on = and_parts (is_on_agent agent f) (covers f.bundle bundle) own.1 in
    let is_bundle : IsBundle f.bundle = subst (λ (g : FilterRow). IsBundle g.bundle) some.3 (are_bundles some.0 f some.2) in (
      f,
      (some.0, some.2, some.3),
      ltb-true clock f.until parts.0,
      same_path-true f.role client.role names.0,
      same_from_test f.framework client.framework names.1,
      same_from_test f.agent agent on.0,
      (covers_by_units f.bundle bundle is_bundle is_part).0 on.1,
    )

-- ---- a bucket is one of those that there are

pub bucket-lt : (hash : ℕ) {number : ℕ} → 0 < number → hash_bucket number hash < number
unfolding hash_bucket
bucket-lt hash {number} some =
    let below : hash % 4294967296 * number < 4294967296 * number = mul-lt-mul_of_pos_right (mod-lt hash (omega arith)) some in
    (div-lt_iff_lt-mul (omega arith)).1 (omega (arith, below))

-- ---- what is found has its hash

pub of_client_hash : (start : NameHasher) (client : Client) (slot : Option FilterRow) → slot_passes (is_of_client client) slot ≡ true
    → slot_hash start ByClient slot ≡ Some (client_hash start client.role client.framework)
of_client_hash start client None own = cc
of_client_hash start client (Some f) own =
    let names = and_parts (same_path f.role client.role) (same_text f.framework client.framework) own in
    let role = same_path-true f.role client.role names.0 in
    let framework = same_from_test f.framework client.framework names.1 in
    λ i. Some (client_hash start (role i) (framework i))

pub held_hash : (start : NameHasher) (clock : ℕ) (client : Client) (agent : Text) (bundle : List Resource) (slot : Option FilterRow)
    → slot_passes (holds_back clock client agent bundle) slot ≡ true
    → slot_hash start ClientAndAgent slot ≡ Some (pair_hash start client.role client.framework agent)
held_hash start clock client agent bundle None holds = cc
held_hash start clock client agent bundle (Some f) holds =
    let parts = and_parts (is_in_force clock f) (is_of_client client f && (is_on_agent agent f && covers f.bundle bundle)) holds in
    let own = and_parts (is_of_client client f) (is_on_agent agent f && covers f.bundle bundle) parts.1 in
    let names = and_parts (same_path f.role client.role) (same_text f.framework client.framework) own.0 in
    let on = and_parts (is_on_agent agent f) (covers f.bundle bundle) own.1 in
    let role = same_path-true f.role client.role names.0 in
    let framework = same_from_test f.framework client.framework names.1 in
    let there = same_from_test f.agent agent on.0 in
    λ i. Some (pair_hash start (role i) (framework i) (there i))

-- ---- links

pub before-at : (index : Index) (place : ℕ) (link : Link) → place < length index.links.items → link ≡ get_or index.links.items place link
    → link.before ≡ get_or (befores index) place 0
before-at index place link small read =
    ap (λ (l : Link). l.before) read ∙ sym (get_or-map (λ (l : Link). l.before) index.links.items place link 0 small)

pub hash-at : (index : Index) (place : ℕ) (link : Link) → place < length index.links.items → link ≡ get_or index.links.items place link
    → link_hash link ≡ get_or (hashes_in index) place None
hash-at index place link small read =
    ap (λ (l : Link). link_hash l) read ∙ sym (get_or-map link_hash index.links.items place link None small)

-- what is in a chain goes on before the end of all places
pub hash-linked : (link : Link) → link.before < 18446744073709551615 → link_hash link ≡ Some link.mark
hash-linked link below =
    let no : (link.before == 18446744073709551615) ≡ false = grind (arith, nat_tests, below) in
    rw no refl

hash-cases : (b : Bool) (mark h : ℕ) → (if b then None else Some mark) ≡ Some h → mark ≡ h
hash-cases true mark h is = cc
hash-cases false mark h is = cc

pub hash-mark : (link : Link) (h : ℕ) → link_hash link ≡ Some h → link.mark ≡ h
hash-mark link h is = hash-cases (link.before == 18446744073709551615) link.mark h is

some-cases : (b : Bool) (mark : ℕ) → (if b then None else Some mark) ≢ None → (if b then None else Some mark) ≡ Some mark
some-cases true mark is = absurd (is refl)
some-cases false mark is = refl

pub hash-some : (link : Link) → link_hash link ≢ None → link_hash link ≡ Some link.mark
hash-some link is = some-cases (link.before == 18446744073709551615) link.mark is

pub bucket-at : (index : Index) (place : ℕ) → place < length index.links.items
    → get_or (buckets_in index) place 0 ≡ bucket_of (length index.heads.items) (get_or (hashes_in index) place None)
bucket-at index place small =
    get_or-map (bucket_of (length index.heads.items)) (hashes_in index) place None 0 (omega (arith, small, length-map index.links.items link_hash))

pub buckets-long : (index : Index) → length (buckets_in index) ≡ length index.links.items
buckets-long index = length-map (hashes_in index) (bucket_of (length index.heads.items)) ∙ length-map index.links.items link_hash

pub befores-long : (index : Index) → length (befores index) ≡ length index.links.items
befores-long index = length-map index.links.items (λ (l : Link). l.before)

hashed-cases : (number bucket : ℕ) (hash : Option ℕ) → bucket_of number hash ≡ bucket → bucket < number → hash ≢ None
hashed-cases number bucket None is below = absurd (omega (arith, is, below))
hashed-cases number bucket (Some h) is below = λ e. cc

-- what is in a bucket has a hash
pub hashed : (index : Index) (place bucket : ℕ) → place < length index.links.items → get_or (buckets_in index) place 0 ≡ bucket → bucket < length index.heads.items
    → get_or (hashes_in index) place None ≢ None
hashed index place bucket small own known =
    hashed-cases (length index.heads.items) bucket (get_or (hashes_in index) place None) (sym (bucket-at index place small) ∙ own) known

pub free_slot-hash : (link : Link) → (link.before == 18446744073709551615) ≡ true → link_hash link ≡ None
free_slot-hash link is = rw is refl

pub chained-hash : (link : Link) → (link.before == 18446744073709551615) ≡ false → link_hash link ≡ Some link.mark
chained-hash link is = rw is refl

abbrev pub IsTidyBy : List ℕ → List Link → Type 0
IsTidyBy heads links = IsChained (map (bucket_of (length heads)) (map link_hash links)) heads (map (λ (l : Link). l.before) links)

-- ---- chains are made anew

pub tidy-free_slot : (index : Index) (place : ℕ) (link : Link) → IsTidyTo place index → place < length index.links.items
    → link_hash link ≡ get_or (hashes_in index) place None → (link.before == 18446744073709551615) ≡ true → IsTidyTo (place + 1) index
tidy-free_slot index place link tidy small hash none =
    let free_slot : get_or (buckets_in index) place 0 ≡ length index.heads.items =
    bucket-at index place small ∙ ap (λ (h : Option ℕ). bucket_of (length index.heads.items) h) (sym hash ∙ free_slot-hash link none)
    in
    chained-next_free_slot (buckets_in index) index.heads.items (befores index) place (omega (arith, small, buckets-long index))
    (befores-long index ∙ sym (buckets-long index)) (omega (arith, free_slot)) tidy

pub tidy-next : (index : Index) (all : List ℕ) (links : List Link) (place bucket head : ℕ) (link : Link) → IsTidyTo place index → place < length index.links.items
    → link_hash link ≡ get_or (hashes_in index) place None → (link.before == 18446744073709551615) ≡ false
    → bucket ≡ hash_bucket (length index.heads.items) link.mark → bucket < length index.heads.items → head ≡ get_or index.heads.items bucket 0
    → map link_hash links ≡ hashes_in index → map (λ (l : Link). l.before) links ≡ set (befores index) place head → all ≡ set index.heads.items bucket (place + 1)
    → IsChained (take (place + 1) (map (bucket_of (length all)) (map link_hash links))) all (take (place + 1) (map (λ (l : Link). l.before) links))
tidy-next index all links place bucket head link tidy small hash none is_bucket known is_head hashes goes heads =
    let n = length index.heads.items in
    let same : length all ≡ n = ap length heads ∙ length-set index.heads.items bucket (place + 1) in
    let own : get_or (buckets_in index) place 0 ≡ bucket =
    bucket-at index place small ∙ ap (λ (h : Option ℕ). bucket_of n h) (sym hash ∙ chained-hash link none) ∙ sym is_bucket
    in
    let buckets : buckets_in index ≡ map (bucket_of (length all)) (map link_hash links) = λ i. map (bucket_of (sym same i)) (sym hashes i) in
    subst (λ (q : List ℕ × (List ℕ × List ℕ)). IsChained (take (place + 1) q.0) q.1.0 (take (place + 1) q.1.1)) (λ i. (buckets i, (sym heads i, sym goes i)))
    (chained-next (buckets_in index) index.heads.items (befores index) place bucket (place + 1) head (omega (arith, small, buckets-long index))
    (befores-long index ∙ sym (buckets-long index)) own known refl is_head tidy)

pub tidy-none : (index : Index) (n : ℕ) → index.heads.items ≡ replicate n 0 → IsTidyTo 0 index
tidy-none index n heads =
    subst (λ (hs : List ℕ). IsChained [] hs []) (sym heads) (record {
      number = refl;
      head = λ bucket below.
          let zeros : ℕ = 0 in
          let none : get_or (replicate n 0) bucket 0 ≡ 0 = get_or-replicate n bucket zeros 0 (omega (arith, below, length-replicate n zeros)) in
          record {
            within = omega (arith, none);
            own = λ place at. absurd (omega (arith, at, none));
            none_after = λ place after before. absurd (omega (arith, before));
          };
      link = λ place small chained. absurd (omega (arith, small));
    })

pub tidy-all : (index : Index) (place : ℕ) → length index.links.items ≤ place → IsTidyTo place index → IsTidy index
tidy-all index place all tidy =
    subst (λ (q : List ℕ × List ℕ). IsChained q.0 index.heads.items q.1)
    (λ i. (take_all place (buckets_in index) (omega (arith, all, buckets-long index)) i, take_all place (befores index) (omega (arith, all, befores-long index)) i)) tidy

-- ---- a filter is put behind the others

pub tidy-push : (index : Index) (all : List ℕ) (links : List Link) (mark bucket head next : ℕ) → IsTidy index → bucket ≡ hash_bucket (length index.heads.items) mark
    → bucket < length index.heads.items → next ≡ length index.links.items + 1 → head ≡ get_or index.heads.items bucket 0
    → map link_hash links ≡ hashes_in index ++ Some mark ∷ [] → map (λ (l : Link). l.before) links ≡ befores index ++ head ∷ []
    → all ≡ set index.heads.items bucket next → IsTidyBy all links
tidy-push index all links mark bucket head next tidy is_bucket known is_next is_head hashes goes heads =
    let n = length index.heads.items in
    let same : length all ≡ n = ap length heads ∙ length-set index.heads.items bucket next in
    let buckets : buckets_in index ++ bucket ∷ [] ≡ map (bucket_of (length all)) (map link_hash links) =
    ap (λ (b : ℕ). buckets_in index ++ b ∷ []) is_bucket
    ∙ sym (map-append (bucket_of n) (hashes_in index) (Some mark ∷ []))
    ∙ (λ i. map (bucket_of (sym same i)) (sym hashes i))
    in
    let goes_on : befores index ++ get_or index.heads.items bucket 0 ∷ [] ≡ map (λ (l : Link). l.before) links = ap (λ (h : ℕ). befores index ++ h ∷ []) (sym is_head) ∙ sym goes in
    subst (λ (q : List ℕ × (List ℕ × List ℕ)). IsChained q.0 q.1.0 q.1.1) (λ i. (buckets i, (sym heads i, goes_on i)))
    (chained-more (buckets_in index) index.heads.items (befores index) bucket next known (omega (arith, is_next, buckets-long index)) tidy)

pub tidy-push_free_slot : (index : Index) (links : List Link) (next : ℕ) → IsTidy index → map link_hash links ≡ hashes_in index ++ None ∷ []
    → map (λ (l : Link). l.before) links ≡ befores index ++ next ∷ [] → IsTidyBy index.heads.items links
tidy-push_free_slot index links next tidy hashes goes =
    let n = length index.heads.items in
    let buckets : buckets_in index ++ n ∷ [] ≡ map (bucket_of n) (map link_hash links) =
    sym (map-append (bucket_of n) (hashes_in index) (None ∷ [])) ∙ (λ i. map (bucket_of n) (sym hashes i))
    in
    subst (λ (q : List ℕ × List ℕ). IsChained q.0 index.heads.items q.1) (λ i. (buckets i, sym goes i))
    (chained-free_slot (buckets_in index) index.heads.items (befores index) n next (omega arith) tidy)

pub hashes-push : (links more : List Link) (link : Link) (hash : Option ℕ) → more ≡ links ++ link ∷ [] → link_hash link ≡ hash
    → map link_hash more ≡ map link_hash links ++ hash ∷ []
hashes-push links more link hash is is_hash =
    ap (λ (ls : List Link). map link_hash ls) is ∙ map-append link_hash links (link ∷ []) ∙ ap (λ (h : Option ℕ). map link_hash links ++ h ∷ []) is_hash

pub befores-push : (links more : List Link) (link : Link) → more ≡ links ++ link ∷ []
    → map (λ (l : Link). l.before) more ≡ map (λ (l : Link). l.before) links ++ link.before ∷ []
befores-push links more link is = ap (λ (ls : List Link). map (λ (l : Link). l.before) ls) is ∙ map-append (λ (l : Link). l.before) links (link ∷ [])

-- ---- each filter has its hash

pub marked-long : (key : Key) (rows : List (Option FilterRow)) (index : Index) → IsMarked key rows index → length index.links.items ≡ length rows
marked-long key rows index marked = sym (length-map index.links.items link_hash) ∙ ap length marked.hashes ∙ length-map rows (slot_hash index.start key)

pub marked-at : (key : Key) (rows : List (Option FilterRow)) (index : Index) (place : ℕ) → IsMarked key rows index → place < length rows
    → get_or (hashes_in index) place None ≡ slot_hash index.start key (get_or rows place None)
marked-at key rows index place marked small =
    ap (λ (hs : List (Option ℕ)). get_or hs place None) marked.hashes ∙ get_or-map (slot_hash index.start key) rows place None None small

-- the same hashes
pub marked-again : (key : Key) (rows : List (Option FilterRow)) (index after : Index) → IsMarked key rows index → hashes_in after ≡ hashes_in index
    → length rows ≤ length after.heads.items → after.start ≡ index.start → IsMarked key rows after
marked-again key rows index after marked hashes enough begins = record {
  hashes = hashes ∙ marked.hashes ∙ ap (λ (s : NameHasher). map (slot_hash s key) rows) (sym begins);
  enough = enough;
}

-- and all but that at a place
pub marked-without : (key : Key) (rows left : List (Option FilterRow)) (index after : Index) (place : ℕ) → left ≡ set rows place None → IsMarked key rows index
    → hashes_in after ≡ set (hashes_in index) place None → length after.heads.items ≡ length index.heads.items → after.start ≡ index.start → IsMarked key left after
marked-without key rows left index after place is_left marked hashes heads begins = record {
  hashes = hashes ∙ ap (λ (hs : List (Option ℕ)). set hs place None) marked.hashes
      ∙ sym (map-set (slot_hash index.start key) rows place None)
      ∙ (λ i. map (slot_hash (sym begins i) key) (sym is_left i));
  enough = omega (arith, marked.enough, ap length is_left, length-set rows place None, heads);
}

-- links of just these filters
pub indexed-anew : (start : NameHasher) (key : Key) (rows : List (Option FilterRow)) (index : Index) → IsTidy index
    → hashes_in index ≡ map (slot_hash start key) rows → index.start ≡ start → length rows ≤ length index.heads.items → IsIndexed key rows index
indexed-anew start key rows index tidy hashes begins enough = record {
  marked = record { hashes = hashes ∙ ap (λ (s : NameHasher). map (slot_hash s key) rows) (sym begins); enough = enough };
  tidy = tidy;
}

-- the same filters in other chains
pub indexed-again : (key : Key) (rows : List (Option FilterRow)) (index after : Index) → IsMarked key rows index → IsTidy after
    → hashes_in after ≡ hashes_in index → length rows ≤ length after.heads.items → after.start ≡ index.start → IsIndexed key rows after
indexed-again key rows index after marked tidy hashes enough begins = record {
  marked = marked-again key rows index after marked hashes enough begins;
  tidy = tidy;
}

pub indexed-kept : (key : Key) (rows : List (Option FilterRow)) (index after : Index) → after.links.items ≡ index.links.items
    → after.heads.items ≡ index.heads.items → after.start ≡ index.start → IsIndexed key rows index → IsIndexed key rows after
indexed-kept key rows index after links heads begins is = record {
  marked = marked-again key rows index after is.marked (ap (λ (ls : List Link). map link_hash ls) links)
      (omega (arith, ap length heads, is.marked.enough)) begins;
  tidy = subst (λ (q : List Link × List ℕ). IsTidyBy q.1 q.0) (λ i. (sym links i, sym heads i)) is.tidy;
}

-- room is made for one more
pub slots-room : (s after : Slots) → after.rows.items ≡ s.rows.items → IsSlots s
    → ((key : Key) (rows : List (Option FilterRow)) → IsIndexed key rows s.pairs → IsIndexed key rows after.pairs)
    → ((key : Key) (rows : List (Option FilterRow)) → IsIndexed key rows s.clients → IsIndexed key rows after.clients)
    → after.live ≡ s.live → IsSlots after
slots-room s after rows slots pairs clients live = record {
  pairs = subst (λ (fs : List (Option FilterRow)). IsIndexed ClientAndAgent fs after.pairs) (sym rows) (pairs ClientAndAgent s.rows.items slots.pairs);
  clients = subst (λ (fs : List (Option FilterRow)). IsIndexed ByClient fs after.clients) (sym rows) (clients ByClient s.rows.items slots.clients);
  live = live ∙ slots.live ∙ ap (λ (fs : List (Option FilterRow)). length (filled fs)) (sym rows);
}

-- ---- what is at a place is taken out of its chain

pub led-within : (index : Index) (bucket from after : ℕ) → IsTidy index → bucket < length index.heads.items → IsLedTo index bucket from after
    → after ≤ length index.links.items
led-within index bucket zero after tidy known led = omega (arith, (tidy.head bucket known).within, led.at_head refl, buckets-long index)
led-within index bucket (suc p) after tidy known led =
    let its = led.at_link p (omega arith) in
    let last = tidy.link p (omega (arith, led.small, buckets-long index)) (omega (arith, its.0, known)) in
    omega (arith, last.within, its.1, led.small)

pub led-own : (index : Index) (bucket from after p : ℕ) → IsTidy index → bucket < length index.heads.items → IsLedTo index bucket from after → after ≡ p + 1
    → get_or (buckets_in index) p 0 ≡ bucket
led-own index bucket zero after p tidy known led at = (tidy.head bucket known).own p (sym (led.at_head refl) ∙ at)
led-own index bucket (suc q) after p tidy known led at =
    let its = led.at_link q (omega arith) in
    (tidy.link q (omega (arith, led.small, buckets-long index)) (omega (arith, its.0, known))).own p (sym its.1 ∙ at) ∙ its.0

-- a chain that leads past a place of its bucket comes to it
led-on : (buckets : List ℕ) (bucket end last place : ℕ) → IsLast buckets bucket end last → place < end → get_or buckets place 0 ≡ bucket → place + 1 ≤ last
led-on buckets bucket end last place is before own = elim (cases_lt place last) [
  | inl early ↦ omega (arith, early)
  | inr late ↦ absurd (is.none_after place late before own)
]

pub led-on_head : (index : Index) (bucket after place : ℕ) → IsTidy index → bucket < length index.heads.items → after ≡ get_or index.heads.items bucket 0
    → place < length index.links.items → get_or (buckets_in index) place 0 ≡ bucket → place + 1 ≤ after
led-on_head index bucket after place tidy known is small own =
    omega (
      arith,
      is,
      led-on (buckets_in index) bucket (length (buckets_in index)) (get_or index.heads.items bucket 0) place (tidy.head bucket known) (omega (arith, small, buckets-long index)) own,
    )

-- where a chain goes on is the last place of its bucket before
led-last : (index : Index) (bucket from after p next : ℕ) → IsTidy index → bucket < length index.heads.items → IsLedTo index bucket from after
    → after ≡ p + 1 → next ≡ get_or (befores index) p 0 → IsLast (buckets_in index) bucket p next
led-last index bucket from after p next tidy known led at is =
    let its = led-own index bucket from after p tidy known led at in
    let small : p < length (buckets_in index) = omega (arith, led-within index bucket from after tidy known led, at, buckets-long index) in
    subst (λ (q : ℕ × ℕ). IsLast (buckets_in index) q.0 p q.1) (λ i. (its i, sym is i)) (tidy.link p small (omega (arith, its, known)))

pub led-less : (index : Index) (bucket from after p next : ℕ) → IsTidy index → bucket < length index.heads.items → IsLedTo index bucket from after
    → after ≡ p + 1 → next ≡ get_or (befores index) p 0 → next < after
led-less index bucket from after p next tidy known led at is = omega (arith, (led-last index bucket from after p next tidy known led at is).within, at)

pub led-on_link : (index : Index) (bucket from after p next place : ℕ) → IsTidy index → bucket < length index.heads.items → IsLedTo index bucket from after
    → after ≡ p + 1 → next ≡ get_or (befores index) p 0 → place + 1 < after → get_or (buckets_in index) place 0 ≡ bucket → place + 1 ≤ next
led-on_link index bucket from after p next place tidy known led at is before own =
    led-on (buckets_in index) bucket p next place (led-last index bucket from after p next tidy known led at is) (omega (arith, before, at)) own

-- the bucket of a link
pub link-bucket : (index : Index) (place bucket : ℕ) (link : Link) → place < length index.links.items → link_hash link ≡ get_or (hashes_in index) place None
    → get_or (hashes_in index) place None ≢ None → bucket ≡ hash_bucket (length index.heads.items) link.mark → get_or (buckets_in index) place 0 ≡ bucket
link-bucket index place bucket link small read is is_bucket =
    bucket-at index place small
    ∙ ap (λ (h : Option ℕ). bucket_of (length index.heads.items) h) (sym read ∙ hash-some link (λ e. is (sym read ∙ e))) ∙ sym is_bucket

pub led-start : (index : Index) (bucket after : ℕ) → after ≡ get_or index.heads.items bucket 0 → IsLedTo index bucket 0 after
led-start index bucket after is = record { at_head = λ e. is; at_link = λ p e. absurd (omega (arith, e)); small = omega arith }

pub led-more : (index : Index) (bucket from after p next : ℕ) → IsTidy index → bucket < length index.heads.items → IsLedTo index bucket from after
    → after ≡ p + 1 → next ≡ get_or (befores index) p 0 → IsLedTo index bucket after next
led-more index bucket from after p next tidy known led at is = record {
  at_head = λ e. absurd (omega (arith, e, at));
  at_link = λ q e. subst (λ (r : ℕ). (get_or (buckets_in index) r 0 ≡ bucket) × (next ≡ get_or (befores index) r 0)) (omega (arith, e, at))
      (led-own index bucket from after p tidy known led at, is);
  small = led-within index bucket from after tidy known led;
}

module _ (index : Index) (links : List Link) (bucket from place next : ℕ) (tidy : IsTidy index) (known : bucket < length index.heads.items)
    (led : IsLedTo index bucket from (place + 1)) (is_next : next ≡ get_or (befores index) place 0)
    (hashes : map link_hash links ≡ set (hashes_in index) place None) where
  abbrev all : ℕ
  all = length index.heads.items

  small : place < length (buckets_in index)
  small = omega (arith, led-within index bucket from (place + 1) tidy known led, buckets-long index)

  own : get_or (buckets_in index) place 0 ≡ bucket
  own = led-own index bucket from (place + 1) place tidy known led refl

  buckets : (heads : List ℕ) → length heads ≡ all → set (buckets_in index) place all ≡ map (bucket_of (length heads)) (map link_hash links)
  buckets heads same = sym (map-set (bucket_of all) (hashes_in index) place None) ∙ (λ i. map (bucket_of (sym same i)) (sym hashes i))

  gone : all ≤ get_or (set (buckets_in index) place all) place 0
  gone = omega (arith, get_or-set_same (buckets_in index) place all 0 small)

  pub passed-head : (after : List ℕ) → from ≡ 0 → after ≡ set index.heads.items bucket next
      → map (λ (l : Link). l.before) links ≡ set (befores index) place 18446744073709551615 → IsTidyBy after links
  passed-head after none heads goes =
      let same : length after ≡ all = ap length heads ∙ length-set index.heads.items bucket next in
      subst (λ (q : List ℕ × (List ℕ × List ℕ)). IsChained q.0 q.1.0 q.1.1) (λ i. (buckets after same i, (sym heads i, sym goes i)))
      (chained-any (set (buckets_in index) place all) (set index.heads.items bucket next) (befores index) place 18446744073709551615
      (omega (arith, gone, length-set index.heads.items bucket next))
      (chained-drop_head (buckets_in index) index.heads.items (befores index) place bucket all tidy known small own refl next is_next (sym (led.at_head none))))

  pub passed-link : (after : List ℕ) (p : ℕ) → from ≡ p + 1 → after ≡ index.heads.items
      → map (λ (l : Link). l.before) links ≡ set (set (befores index) place 18446744073709551615) p next → IsTidyBy after links
  passed-link after p is_from heads goes =
      let its = led.at_link p is_from in
      let inside : p < length (buckets_in index) = omega (arith, led.small, is_from, buckets-long index) in
      let behind : place < p = omega (arith, (tidy.link p inside (omega (arith, its.0, known))).within, its.1) in
      let order : set (set (befores index) p next) place 18446744073709551615 ≡ map (λ (l : Link). l.before) links =
      set_comm (befores index) p place next 18446744073709551615 (λ e. absurd (omega (arith, e, behind))) ∙ sym goes
      in
      subst (λ (q : List ℕ × (List ℕ × List ℕ)). IsChained q.0 q.1.0 q.1.1) (λ i. (buckets after (ap length heads) i, (sym heads i, order i)))
      (chained-any (set (buckets_in index) place all) index.heads.items (set (befores index) p next) place 18446744073709551615 gone
      (chained-drop_link (buckets_in index) index.heads.items (befores index) place bucket all tidy known small own refl p next is_next behind inside its.0 (sym its.1)))

  -- the place from which the chain came has a hash still
  pub passed-from : (p : ℕ) → from ≡ p + 1 → get_or (map link_hash links) p None ≢ None
  passed-from p is_from =
      let its = led.at_link p is_from in
      let inside : p < length index.links.items = omega (arith, led.small, is_from) in
      let behind : place < p = omega (arith, (tidy.link p (omega (arith, inside, buckets-long index)) (omega (arith, its.0, known))).within, its.1) in
      λ e. hashed index p bucket inside its.0 known
      (sym (ap (λ (hs : List (Option ℕ)). get_or hs p None) hashes ∙ get_or-set_other (hashes_in index) place p None None (λ at. absurd (omega (arith, at, behind)))) ∙ e)

-- where a chain goes on is before the place
pub goes-before : (index : Index) (place bucket : ℕ) → IsTidy index → place < length index.links.items → get_or (buckets_in index) place 0 ≡ bucket
    → bucket < length index.heads.items → get_or (befores index) place 0 ≤ place
goes-before index place bucket tidy small own known =
    (tidy.link place (omega (arith, small, buckets-long index)) (omega (arith, own, known))).within

-- ---- a walk along a chain

module _ (rows : List (Option FilterRow)) (index : Index) (test : Option FilterRow → Bool) (hash : ℕ) where
  -- it has come to a place of the bucket, or has ended, and no slot behind passes the test
  pub record IsWalked (after : ℕ) : Type 0 where
    pub within : after ≤ length rows
    pub own : (place : ℕ) → after ≡ place + 1 → get_or (buckets_in index) place 0 ≡ hash_bucket (length index.heads.items) hash
    pub passed : (place : ℕ) (d : Option FilterRow) → after ≤ place → place < length rows → test (get_or rows place d) ≡ false

  module _ (key : Key) (indexed : IsIndexed key rows index) (its : (s : Option FilterRow) → test s ≡ true → slot_hash index.start key s ≡ Some hash)
      (known : 0 < length index.heads.items) where
    abbrev bucket : ℕ
    bucket = hash_bucket (length index.heads.items) hash

    below : bucket < length index.heads.items
    below = bucket-lt hash known

    number : length (buckets_in index) ≡ length rows
    number = buckets-long index ∙ marked-long key rows index indexed.marked

    its-hash : (place : ℕ) (d : Option FilterRow) → place < length rows → test (get_or rows place d) ≡ true → get_or (hashes_in index) place None ≡ Some hash
    its-hash place d small passes =
        marked-at key rows index place indexed.marked small
        ∙ ap (λ (s : Option FilterRow). slot_hash index.start key s) (get_or_default rows place None d small) ∙ its (get_or rows place d) passes

    in_bucket : (place : ℕ) (d : Option FilterRow) → place < length rows → test (get_or rows place d) ≡ true → get_or (buckets_in index) place 0 ≡ bucket
    in_bucket place d small passes =
        bucket-at index place (omega (arith, small, marked-long key rows index indexed.marked))
        ∙ ap (λ (h : Option ℕ). bucket_of (length index.heads.items) h) (its-hash place d small passes)

    -- a slot with another hash does not pass
    pub walk-marked : (place : ℕ) (d : Option FilterRow) (link : Link) → place < length rows → link_hash link ≡ get_or (hashes_in index) place None
        → link.mark ≢ hash → test (get_or rows place d) ≡ false
    walk-marked place d link small read differs =
        false_from_ne_true (test (get_or rows place d)) (λ passes. differs (hash-mark link hash (read ∙ its-hash place d small passes)))

    walk-last : (end after : ℕ) → end ≤ length rows → IsLast (buckets_in index) bucket end after
        → ((place : ℕ) (d : Option FilterRow) → end ≤ place → place < length rows → test (get_or rows place d) ≡ false)
        → IsWalked after
    walk-last end after small is passed = record {
      within = omega (arith, is.within, small);
      own = is.own;
      passed = passed-last test (buckets_in index) rows bucket end after in_bucket is passed;
    }

    -- where the chain begins
    pub walk-start : (after : ℕ) → after ≡ get_or index.heads.items bucket 0 → IsWalked after
    walk-start after is_after =
        walk-last (length (buckets_in index)) after (omega (arith, number))
        (subst (λ (last : ℕ). IsLast (buckets_in index) bucket (length (buckets_in index)) last) (sym is_after) (indexed.tidy.head bucket below))
        (λ place d behind small. absurd (omega (arith, number, behind, small)))

    pub walk-less : (after place next : ℕ) → after ≡ place + 1 → next ≡ get_or (befores index) place 0 → IsWalked after → next < after
    walk-less after place next is_after is_next walked =
        let small : place < length rows = omega (arith, walked.within, is_after) in
        let is : get_or (buckets_in index) place 0 ≡ bucket = walked.own place is_after in
        let last = indexed.tidy.link place (omega (arith, small, number)) (omega (arith, is, below)) in
        omega (arith, last.within, is_next, is_after)

    -- and where it goes on
    pub walk-next : (after place next : ℕ) → after ≡ place + 1 → next ≡ get_or (befores index) place 0
        → ((d : Option FilterRow) → test (get_or rows place d) ≡ false) → IsWalked after → IsWalked next
    walk-next after place next is_after is_next fails walked =
        let small : place < length rows = omega (arith, walked.within, is_after) in
        let is : get_or (buckets_in index) place 0 ≡ bucket = walked.own place is_after in
        walk-last place next (omega (arith, small))
        (subst (λ (q : ℕ × ℕ). IsLast (buckets_in index) q.0 place q.1) (λ i. (is i, sym is_next i))
        (indexed.tidy.link place (omega (arith, small, number)) (omega (arith, is, below))))
        (passed-more test rows after place is_after fails walked.passed)

-- ---- what is at a place is taken

pub slots-marked : (s : Slots) → IsSlots s → AreMarked s
slots-marked s slots = record { pairs = slots.pairs.marked; clients = slots.clients.marked; live = slots.live }

pub slots-tidy : (s : Slots) → IsSlots s → AreTidy s
slots-tidy s slots = record { pairs = slots.pairs.tidy; clients = slots.clients.tidy }

pub marks-without : (s after : Slots) (place : ℕ) → AreMarked s → after.rows.items ≡ set s.rows.items place None
    → hashes_in after.pairs ≡ set (hashes_in s.pairs) place None → length after.pairs.heads.items ≡ length s.pairs.heads.items → after.pairs.start ≡ s.pairs.start
    → hashes_in after.clients ≡ set (hashes_in s.clients) place None → length after.clients.heads.items ≡ length s.clients.heads.items → after.clients.start ≡ s.clients.start
    → after.live ≡ length (filled (set s.rows.items place None)) → AreMarked after
marks-without s after place marked rows pairs pair_heads pair_start clients client_heads client_start live = record {
  pairs = marked-without ClientAndAgent s.rows.items after.rows.items s.pairs after.pairs place rows marked.pairs pairs pair_heads pair_start;
  clients = marked-without ByClient s.rows.items after.rows.items s.clients after.clients place rows marked.clients clients client_heads client_start;
  live = live ∙ ap (λ (fs : List (Option FilterRow)). length (filled fs)) (sym rows);
}

-- what leaves a gap at a gap changes nothing
pub marks-kept : (s after : Slots) → AreMarked s → after.rows.items ≡ s.rows.items → after.pairs ≡ s.pairs → after.clients ≡ s.clients → after.live ≡ s.live → AreMarked after
marks-kept s after marked rows pairs clients live = record {
  pairs = subst (λ (q : List (Option FilterRow) × Index). IsMarked ClientAndAgent q.0 q.1) (λ i. (sym rows i, sym pairs i)) marked.pairs;
  clients = subst (λ (q : List (Option FilterRow) × Index). IsMarked ByClient q.0 q.1) (λ i. (sym rows i, sym clients i)) marked.clients;
  live = live ∙ marked.live ∙ ap (λ (fs : List (Option FilterRow)). length (filled fs)) (sym rows);
}

pub marks-slots : (s : Slots) → AreMarked s → AreTidy s → IsSlots s
marks-slots s marked tidy = record {
  pairs = record { marked = marked.pairs; tidy = tidy.pairs };
  clients = record { marked = marked.clients; tidy = tidy.clients };
  live = marked.live;
}

some-hash : (start : NameHasher) (key : Key) (slot : Option FilterRow) → is_some slot ≡ true → slot_hash start key slot ≢ None
some-hash start key None is = cc
some-hash start key (Some f) is = λ e. cc

-- what there is has a hash
pub marked-some : (key : Key) (rows : List (Option FilterRow)) (index : Index) (place : ℕ) (slot : Option FilterRow) → IsMarked key rows index → place < length rows
    → slot ≡ get_or rows place slot → is_some slot ≡ true → get_or (hashes_in index) place None ≢ None
marked-some key rows index place slot marked small read some =
    let here : get_or rows place None ≡ slot = get_or_default rows place None slot small ∙ sym read in
    λ e. some-hash index.start key slot some
    (ap (λ (t : Option FilterRow). slot_hash index.start key t) (sym here) ∙ sym (marked-at key rows index place marked small) ∙ e)

pub held_by : (p : FilterRow → Bool) (slots : List (Option FilterRow)) (place : ℕ) (slot : Option FilterRow) → place < length slots → slot ≡ get_or slots place slot
    → slot_passes p slot ≡ true → list_any p (filled slots) ≡ true
held_by p slots place slot below read passes = sym (any-filled p slots) ∙ list_any-from_Any (slot_passes p) slots (place, slot, below, sym read, passes)

pub held_by_none : (p : FilterRow → Bool) (slots : List (Option FilterRow))
    → ((place : ℕ) (d : Option FilterRow) → 0 ≤ place → place < length slots → slot_passes p (get_or slots place d) ≡ false) → list_any p (filled slots) ≡ false
held_by_none p slots none = sym (any-filled p slots) ∙ list_any_none (slot_passes p) slots (λ k d below. none k d (omega arith) below)

client-found : (index : Index) (rows : List (Option FilterRow)) (client : Client) → IsMarked ByClient rows index → (q : ℕ) (d : Option FilterRow) → q < length rows
    → slot_passes (is_of_client client) (get_or rows q d) ≡ true → get_or (hashes_in index) q None ≡ Some (client_hash index.start client.role client.framework)
client-found index rows client marked q d below passes =
    marked-at ByClient rows index q marked below
    ∙ ap (λ (s : Option FilterRow). slot_hash index.start ByClient s) (get_or_default rows q None d below)
    ∙ of_client_hash index.start client (get_or rows q d) passes

-- a walk along the chain of a client, whose filters are taken
module _ (client : Client) (s t : Slots) (place next : ℕ) (slots : IsSlots s) (left : IsSlots t) (small : place < length s.rows.items)
    (is_rows : t.rows.items ≡ without_one (is_of_client client) s.rows.items place)
    (heads : length t.clients.heads.items ≡ length s.clients.heads.items) (begins : t.clients.start ≡ s.clients.start) where
  abbrev its_hash : ℕ
  its_hash = client_hash s.clients.start client.role client.framework

  abbrev its_bucket : ℕ
  its_bucket = hash_bucket (length s.clients.heads.items) its_hash

  elsewhere : (q : ℕ) (d : Option FilterRow) → q ≢ place → get_or t.rows.items q d ≡ get_or s.rows.items q d
  elsewhere q d apart =
      ap (λ (ss : List (Option FilterRow)). get_or ss q d) is_rows ∙ without-other (is_of_client client) s.rows.items place small q d apart

  long : length t.rows.items ≡ length s.rows.items
  long = ap length is_rows ∙ without-length (is_of_client client) s.rows.items place small

  own-elsewhere : (q : ℕ) → q ≢ place → q < length s.rows.items → get_or (buckets_in t.clients) q 0 ≡ get_or (buckets_in s.clients) q 0
  own-elsewhere q apart below =
      let hash : get_or (hashes_in t.clients) q None ≡ get_or (hashes_in s.clients) q None =
      marked-at ByClient t.rows.items t.clients q left.clients.marked (omega (arith, below, long))
      ∙ (λ i. slot_hash (begins i) ByClient (elsewhere q None apart i))
      ∙ sym (marked-at ByClient s.rows.items s.clients q slots.clients.marked below)
      in
      bucket-at t.clients q (omega (arith, below, long, marked-long ByClient t.rows.items t.clients left.clients.marked))
      ∙ (λ i. bucket_of (heads i) (hash i))
      ∙ sym (bucket-at s.clients q (omega (arith, below, marked-long ByClient s.rows.items s.clients slots.clients.marked)))

  walk-taken : 0 < length s.clients.heads.items → next ≡ get_or (befores s.clients) place 0
      → IsWalked s.rows.items s.clients (slot_passes (is_of_client client)) its_hash (place + 1)
      → IsWalked t.rows.items t.clients (slot_passes (is_of_client client)) (client_hash t.clients.start client.role client.framework) next
  walk-taken known is_next walked =
      let number : length (buckets_in s.clients) ≡ length s.rows.items = buckets-long s.clients ∙ marked-long ByClient s.rows.items s.clients slots.clients.marked in
      let its : get_or (buckets_in s.clients) place 0 ≡ its_bucket = walked.own place refl in
      let last : IsLast (buckets_in s.clients) its_bucket place next =
      subst (λ (q : ℕ × ℕ). IsLast (buckets_in s.clients) q.0 place q.1) (λ i. (its i, sym is_next i))
      (slots.clients.tidy.link place (omega (arith, small, number)) (omega (arith, its, bucket-lt its_hash known)))
      in
      let own_bucket : (q : ℕ) (d : Option FilterRow) → q < length s.rows.items → slot_passes (is_of_client client) (get_or s.rows.items q d) ≡ true
      → get_or (buckets_in s.clients) q 0 ≡ its_bucket = λ q d below passes.
      bucket-at s.clients q (omega (arith, below, marked-long ByClient s.rows.items s.clients slots.clients.marked))
      ∙ ap (λ (h : Option ℕ). bucket_of (length s.clients.heads.items) h) (client-found s.clients s.rows.items client slots.clients.marked q d below passes)
      in
      record {
        within = omega (arith, last.within, small, long);
        own = λ q at.
            own-elsewhere q (λ e. absurd (omega (arith, at, e, last.within))) (omega (arith, at, last.within, small)) ∙ last.own q at
            ∙ (λ i. hash_bucket (sym heads i) (client_hash (sym begins i) client.role client.framework));
        passed = λ q d after below. elim (cases_eq q place) [
          | inl here ↦
              ap (λ (k : ℕ). slot_passes (is_of_client client) (get_or t.rows.items k d)) here
              ∙ ap (λ (ss : List (Option FilterRow)). slot_passes (is_of_client client) (get_or ss place d)) is_rows
              ∙ without-here (is_of_client client) s.rows.items place small d
          | inr apart ↦
              ap (λ (slot : Option FilterRow). slot_passes (is_of_client client) slot) (elsewhere q d apart)
              ∙ elim (cases_lt q place) [
                | inl early ↦ false_from_ne_true (slot_passes (is_of_client client) (get_or s.rows.items q d))
                    (λ passes. last.none_after q after early (own_bucket q d (omega (arith, below, long)) passes))
                | inr late ↦ walked.passed q d (omega (arith, late, apart)) (omega (arith, below, long))
              ]
        ];
      }

pub record IsRevived (client : Client) (s t : Slots) (after : ℕ) : Type 0 where
  pub slots : IsSlots t
  pub others : filters_without_client client (filters_in t) ≡ filters_without_client client (filters_in s)
  pub walked : IsWalked t.rows.items t.clients (slot_passes (is_of_client client)) (client_hash t.clients.start client.role client.framework) after

pub revived-more : (client : Client) (s t u : Slots) (place next : ℕ) (slot : Option FilterRow) (leaves : Bool) → IsRevived client s t (place + 1)
    → slot ≡ get_or t.rows.items place slot → leaves ≡ slot_passes (is_of_client client) slot
    → u.rows.items ≡ (if leaves then set t.rows.items place None else t.rows.items) → IsSlots u
    → length u.clients.heads.items ≡ length t.clients.heads.items → u.clients.start ≡ t.clients.start → next ≡ get_or (befores t.clients) place 0
    → IsRevived client s u next
revived-more client s t u place next slot leaves revived read is is_rows slots heads begins is_next =
    let small : place < length t.rows.items = omega (arith, revived.walked.within) in
    let some : 0 < length t.clients.heads.items = omega (arith, small, revived.slots.clients.marked.enough) in
    let rows = without-if (is_of_client client) t.rows.items u.rows.items place slot leaves small read is is_rows in
    record {
      slots = slots;
      others = ap (λ (ss : List (Option FilterRow)). filters_without_client client (filled ss)) rows
          ∙ without-others (is_of_client client) t.rows.items place small ∙ revived.others;
      walked = walk-taken client t u place next revived.slots slots small rows heads begins some is_next revived.walked;
    }

-- ---- a walk over all slots, of which those that pass are taken

pub record IsSwept (p : FilterRow → Bool) (s t : Slots) (place few : ℕ) : Type 0 where
  pub marked : AreMarked t
  pub tidy : 0 < few → AreTidy t
  pub long : length t.rows.items ≡ length s.rows.items
  pub others : filter (λ f. not (p f)) (filters_in t) ≡ filter (λ f. not (p f)) (filters_in s)
  pub passed : (q : ℕ) (d : Option FilterRow) → q < place → q < length t.rows.items → slot_passes p (get_or t.rows.items q d) ≡ false

pub swept-start : (p : FilterRow → Bool) (s : Slots) (few : ℕ) → IsSlots s → IsSwept p s s 0 few
swept-start p s few slots = record {
  marked = slots-marked s slots;
  tidy = λ some. slots-tidy s slots;
  long = refl;
  others = refl;
  passed = λ q d before below. absurd (omega (arith, before));
}

pub swept-more : (p : FilterRow → Bool) (s t u : Slots) (place few left : ℕ) (slot : Option FilterRow) (leaves : Bool) → place < length s.rows.items → IsSwept p s t place few
    → slot ≡ get_or t.rows.items place slot → leaves ≡ slot_passes p slot
    → u.rows.items ≡ (if leaves then set t.rows.items place None else t.rows.items) → AreMarked u → (0 < left → AreTidy u)
    → IsSwept p s u (place + 1) left
swept-more p s t u place few left slot leaves within swept read is is_rows marked tidy =
    let small : place < length t.rows.items = omega (arith, within, swept.long) in
    let rows : u.rows.items ≡ without_one p t.rows.items place = without-if p t.rows.items u.rows.items place slot leaves small read is is_rows in
    let long : length u.rows.items ≡ length t.rows.items = ap length rows ∙ without-length p t.rows.items place small in
    record {
      marked = marked;
      tidy = tidy;
      long = long ∙ swept.long;
      others = ap (λ (ss : List (Option FilterRow)). filter (λ f. not (p f)) (filled ss)) rows ∙ without-others p t.rows.items place small ∙ swept.others;
      passed = λ q d before below. elim (cases_eq q place) [
        | inl here ↦
            ap (λ (k : ℕ). slot_passes p (get_or u.rows.items k d)) here
            ∙ ap (λ (ss : List (Option FilterRow)). slot_passes p (get_or ss place d)) rows ∙ without-here p t.rows.items place small d
        | inr apart ↦
            ap (λ (slot : Option FilterRow). slot_passes p slot)
            (ap (λ (ss : List (Option FilterRow)). get_or ss q d) rows ∙ without-other p t.rows.items place small q d apart)
            ∙ swept.passed q d (omega (arith, before, apart)) (omega (arith, below, long))
      ];
    }

pub swept-all : (p : FilterRow → Bool) (s t : Slots) (place few : ℕ) → length s.rows.items ≤ place → IsSwept p s t place few → filters_in t ≡ filter (λ f. not (p f)) (filters_in s)
swept-all p s t place few all swept =
    sym (no_slot p t.rows.items (λ q d below. swept.passed q d (omega (arith, all, below, swept.long)) below)) ∙ swept.others

pub not_not : (p : FilterRow → Bool) (xs : List FilterRow) → filter (λ f. not (not (p f))) xs ≡ filter p xs
not_not p [] = refl
not_not p (x ∷ xs) = elim (cases_Bool (p x)) [
  | inl holds ↦ rw holds (ap (λ (ys : List FilterRow). x ∷ ys) (not_not p xs))
  | inr fails ↦ rw fails (not_not p xs)
]

-- ---- the rest of slots

pub left-of : (key : Key) (rows left : List (Option FilterRow)) (index : Index) → IsLess rows left → IsIndexed key rows index → IsLeft key left index
left-of key rows left index less indexed = record { all = rows; indexed = indexed; at_most = less.at_most; or_all = less.or_all }

closed-of : (s t : Slots) (xs : List FilterRow) → t.rows.items ≡ map Some xs → IsLess s.rows.items t.rows.items → t.pairs ≡ s.pairs → t.clients ≡ s.clients
    → IsSlots s → IsClosed t
closed-of s t xs is less same_pairs same_clients slots = record {
  pairs = left-of ClientAndAgent s.rows.items t.rows.items t.pairs less
      (subst (λ (i : Index). IsIndexed ClientAndAgent s.rows.items i) (sym same_pairs) slots.pairs);
  clients = left-of ByClient s.rows.items t.rows.items t.clients less
      (subst (λ (i : Index). IsIndexed ByClient s.rows.items i) (sym same_clients) slots.clients);
  closed = is ∙ ap (λ (ys : List FilterRow). map Some ys) (sym (ap (λ (ys : List (Option FilterRow)). filled ys) is ∙ filled-all xs));
}

pub closed-take : (n : ℕ) (s t : Slots) → t.rows.items ≡ map Some (take n (filters_in s)) → t.pairs ≡ s.pairs → t.clients ≡ s.clients
    → IsSlots s → IsClosed t
closed-take n s t is = closed-of s t (take n (filters_in s)) is (take-less n s.rows.items t.rows.items is)

pub closed-all : (s t : Slots) → t.rows.items ≡ map Some (filters_in s) → t.pairs ≡ s.pairs → t.clients ≡ s.clients → IsSlots s → IsClosed t
closed-all s t is = closed-of s t (filters_in s) is (all-less s.rows.items t.rows.items is)

pub left-are : (xs : List FilterRow) (rows : List (Option FilterRow)) (after : Slots) → rows ≡ map Some xs → filters_in after ≡ filled rows → filters_in after ≡ xs
left-are xs rows after is same = same ∙ ap (λ (ys : List (Option FilterRow)). filled ys) is ∙ filled-all xs

pub table-filter : (p : FilterRow → Bool) (s after : Slots) (soonest : ℕ) → filters_in after ≡ filter p (filters_in s)
    → IsSlots after → IsFilterTable s soonest → IsFilterTable after soonest
table-filter p s after soonest is slots table = record {
  slots = slots;
  none_before = subst (λ (fs : List FilterRow). NoneEndsBefore soonest fs) (sym is) (All-filter p (λ f. soonest ≤ f.until) (filters_in s) table.none_before);
}

pub table-take : (n : ℕ) (s after : Slots) (soonest : ℕ) → filters_in after ≡ take n (filters_in s)
    → IsSlots after → IsFilterTable s soonest → IsFilterTable after soonest
table-take n s after soonest is slots table = record {
  slots = slots;
  none_before = subst (λ (fs : List FilterRow). NoneEndsBefore soonest fs) (sym is) (All-take (λ f. soonest ≤ f.until) n (filters_in s) table.none_before);
}

pub indexed-push : (key : Key) (rows more : List (Option FilterRow)) (row : FilterRow) (index after : Index) → more ≡ rows ++ Some row ∷ []
    → IsIndexed key rows index → HasRoom index → IsTidy after → hashes_in after ≡ hashes_in index ++ Some (row_hash index.start key row) ∷ []
    → length after.heads.items ≡ length index.heads.items → after.start ≡ index.start → IsIndexed key more after
indexed-push key rows more row index after is_more indexed room tidy hashes same begins = record {
  marked = record {
    hashes = hashes ∙ ap (λ (hs : List (Option ℕ)). hs ++ Some (row_hash index.start key row) ∷ []) indexed.marked.hashes
        ∙ sym (map-append (slot_hash index.start key) rows (Some row ∷ []))
        ∙ (λ i. map (slot_hash (sym begins i) key) (sym is_more i));
    enough = omega (
      arith,
      ap length is_more,
      length-append rows (Some row ∷ []),
      same,
      room.heads,
      marked-long key rows index indexed.marked,
    );
  };
  tidy = tidy;
}

-- ---- when filters end

-- before the first end all are in force
pub all_in_force : (now soonest : ℕ) (rows : List FilterRow) → now < soonest → NoneEndsBefore soonest rows → in_force now rows ≡ rows
all_in_force now soonest [] before none = refl
all_in_force now soonest (f ∷ fs) before none =
    let first : soonest ≤ f.until = none 0 f (omega arith) in
    let here : nat_lt now f.until ≡ true = lt-ltb now f.until (omega (arith, before, first)) in
    rw here (ap (λ (gs : List FilterRow). f ∷ gs) (all_in_force now soonest fs before (λ k d below. none (suc k) d (omega (arith, below)))))

pub none_before-less : (timestamp earlier : ℕ) (rows : List FilterRow) → earlier ≤ timestamp → NoneEndsBefore timestamp rows → NoneEndsBefore earlier rows
none_before-less timestamp earlier rows le none = λ k d below. omega (arith, le, none k d below)

pub none_before-slot : (timestamp next : ℕ) (slots : List (Option FilterRow)) (i : ℕ) (slot : Option FilterRow) → i < length slots → slot ≡ get_or slots i slot
    → next ≤ timestamp → ((f : FilterRow) → slot ≡ Some f → next ≤ f.until)
    → NoneEndsBefore timestamp (filled (take i slots)) → NoneEndsBefore next (filled (take (i + 1) slots))
none_before-slot timestamp next slots i slot below read less its none =
    subst (λ (fs : List FilterRow). NoneEndsBefore next fs) (sym (filled-more slots i slot below read))
    (All-append (λ f. next ≤ f.until) (filled (take i slots)) (filled (slot ∷ [])) (none_before-less timestamp next (filled (take i slots)) less none) (one slot its))
  where
    one : (s : Option FilterRow) → ((f : FilterRow) → s ≡ Some f → next ≤ f.until) → NoneEndsBefore next (filled (s ∷ []))
    one None ends = All-nil (λ (f : FilterRow). next ≤ f.until)
    one (Some f) ends = All-cons (λ (f : FilterRow). next ≤ f.until) f [] (ends f refl) (All-nil (λ (f : FilterRow). next ≤ f.until))

pub table-push : (s after : Slots) (row : FilterRow) (soonest next : ℕ) → filters_in after ≡ filters_in s ++ row ∷ [] → next ≡ min soonest row.until
    → IsSlots after → IsFilterTable s soonest → IsFilterTable after next
table-push s after row soonest next is is_next slots table = record {
  slots = slots;
  none_before = subst (λ (fs : List FilterRow). NoneEndsBefore next fs) (sym is)
      (All-push (λ f. next ≤ f.until) (filters_in s) row (none_before-less soonest next (filters_in s) (omega (arith, is_next)) table.none_before) (omega (arith, is_next)));
}
