-- The steps of the log keep its rule, and a pen that can write adds a link after all links of its chain.
use Rattle.std.proofs.Common.{◌≡◌, ℕ, zero, suc, ◌<◌, ◌≤◌, ◌==◌, Bool, true, false, List, [], ◌∷◌, ◌++◌, length, map, refl, ap, sym, ◌∙◌, subst, arith, inl, None, length-append}
use Rattle.std.specs.Prelude.{slice_set}
use Rattle.std.specs.List.{AllByRecursion}
use Rattle.std.proofs.lemmas.List.{append-nil, map-append}
use Rattle.std.proofs.lemmas.List.Elements.{filter-append}
use Rattle.std.proofs.lemmas.Bool.Decides.{nat_tests}
use mathlib.Core.List.{IsPrefix}
use prog.Atomic.{either}
use Rattle.logbook.specs.Pages.{Cell, cell, Nib, nib, gives, adds, keeps, may_write, no_nib, step, Moves}
use Rattle.drf_board.specs.declared.history.Link.{Link}
use Rattle.drf_board.proofs.Prefixes.{begins-trans}
use Rattle.drf_board.specs.Chains.{IsHome, IsChained, links_of, entries_of, spent_by, end_from, end_of, HasLinked, HasLooked, HasNewPen}

-- ---- words that are at home stay at home

home-set : (cells : List Cell) (at key value : ℕ) → IsHome cells key → IsHome (slice_set cells at (value, true)) key
home-set [] at key value home = home
home-set (c ∷ cells) zero zero value home = refl
home-set (c ∷ cells) zero (suc key) value home = home
home-set (c ∷ cells) (suc at) zero value home = home
home-set (c ∷ cells) (suc at) (suc key) value home = home-set cells at key value home

-- a word that was set is at home
set-home : (cells : List Cell) (key value : ℕ) → key < length cells → IsHome (slice_set cells key (value, true)) key
set-home [] key value inside = absurd (omega arith)
set-home (c ∷ cells) zero value inside = refl
set-home (c ∷ cells) (suc key) value inside = set-home cells key value (omega (arith, inside))

home-added : (cells : List Cell) (key : ℕ) → IsHome cells key → IsHome (cells ++ (0, false) ∷ []) key
home-added [] zero home = home
home-added [] (suc key) home = home
home-added (c ∷ cells) zero home = home
home-added (c ∷ cells) (suc key) home = home-added cells key home

length-set : (cells : List Cell) (at : ℕ) (c : Cell) → length (slice_set cells at c) ≡ length cells
length-set [] at c = refl
length-set (x ∷ cells) zero c = refl
length-set (x ∷ cells) (suc at) c = ap suc (length-set cells at c)

all-more : (P Q : ℕ → Type 0) (keys : List ℕ) → ((k : ℕ) → P k → Q k) → AllByRecursion P keys → AllByRecursion Q keys
all-more P Q [] more all = tt
all-more P Q (k ∷ keys) more all = (more k all.0, all-more P Q keys more all.1)

-- ---- a chain that grows

-- if the last word of what was seen of a chain is not at home, all of the chain was seen
chain-whole : (cells : List Cell) (word : ℕ) (seen more : List Link) → AllByRecursion (IsHome cells) (spent_by word (seen ++ more))
    → (cell cells (end_from word seen)).1 ≡ false → more ≡ []
chain-whole cells word [] [] home away = refl
chain-whole cells word [] (link ∷ more) home away = absurd (cc (home.0, away))
chain-whole cells word (link ∷ seen) more home away = chain-whole cells link.next seen more home.1 away

spent-push : (P : ℕ → Type 0) (word : ℕ) (links : List Link) (link : Link) → AllByRecursion P (spent_by word links) → P (end_from word links)
    → AllByRecursion P (spent_by word (links ++ link ∷ []))
spent-push P word [] link all last = (last, tt)
spent-push P word (l ∷ links) link all last = (all.0, spent-push P l.next links link all.1 last)

end-push : (word : ℕ) (links : List Link) (link : Link) → end_from word (links ++ link ∷ []) ≡ link.next
end-push word [] link = refl
end-push word (l ∷ links) link = end-push l.next links link

-- ---- what was seen of a chain

pub entries-prefix : (chain : ℕ) (seen whole : List Link) → IsPrefix seen whole → IsPrefix (entries_of chain seen) (entries_of chain whole)
entries-prefix chain seen whole begins = (
  entries_of chain begins.0,
  sym (map-append (λ l. l.entry) (links_of chain seen) (links_of chain begins.0))
      ∙ (ap (λ links. map (λ l. l.entry) links) (sym (filter-append (λ l. l.chain == chain) seen begins.0)) ∙ ap (entries_of chain) begins.1),
)

-- ---- one more link

links-own : (link : Link) → links_of link.chain (link ∷ []) ≡ link ∷ []
links-own link = let same : (link.chain == link.chain) ≡ true = grind (arith, nat_tests) in rw same refl

links-push : (log : List Link) (link : Link) → links_of link.chain (log ++ link ∷ []) ≡ links_of link.chain log ++ link ∷ []
links-push log link =
    filter-append (λ l. l.chain == link.chain) log (link ∷ []) ∙ ap (λ links. links_of link.chain log ++ links) (links-own link)

links-others : (chain : ℕ) (log : List Link) (link : Link) → (link.chain == chain) ≡ false → links_of chain (log ++ link ∷ []) ≡ links_of chain log
links-others chain log link other =
    let none : links_of chain (link ∷ []) ≡ [] = rw other refl in
    filter-append (λ l. l.chain == chain) log (link ∷ []) ∙ (ap (λ links. links_of chain log ++ links) none ∙ append-nil (links_of chain log))

-- if the word at the end of what was seen of a chain is not at home, the chain has no other links
links-seen : (cells : List Cell) (log seen : List Link) (chain : ℕ) → IsChained cells log → IsPrefix seen log
    → (cell cells (end_of chain seen)).1 ≡ false → links_of chain log ≡ links_of chain seen
links-seen cells log seen chain chained begins away =
    let parts : links_of chain log ≡ links_of chain seen ++ links_of chain begins.0 =
    ap (links_of chain) (sym begins.1) ∙ filter-append (λ l. l.chain == chain) seen begins.0 in
    let home : AllByRecursion (IsHome cells) (spent_by chain (links_of chain seen ++ links_of chain begins.0)) =
    subst (λ (links : List Link). AllByRecursion (IsHome cells) (spent_by chain links)) parts (chained.spent chain) in
    let none : links_of chain begins.0 ≡ [] = chain-whole cells chain (links_of chain seen) (links_of chain begins.0) home away in
    parts ∙ (ap (λ links. links_of chain seen ++ links) none ∙ append-nil (links_of chain seen))

-- if the end of its chain is at home when a link is added, the spent words of every chain are still at home
spent-after : (cells : List Cell) (log : List Link) (link : Link) (chain : ℕ) (b : Bool) → (link.chain == chain) ≡ b
    → AllByRecursion (IsHome cells) (spent_by chain (links_of chain log)) → IsHome cells (end_of link.chain log)
    → AllByRecursion (IsHome cells) (spent_by chain (links_of chain (log ++ link ∷ [])))
spent-after cells log link chain true is all last =
    let same : link.chain ≡ chain = grind (arith, nat_tests) in
    let mine : AllByRecursion (IsHome cells) (spent_by link.chain (links_of link.chain log)) =
    subst (λ (c : ℕ). AllByRecursion (IsHome cells) (spent_by c (links_of c log))) (sym same) all in
    let more : AllByRecursion (IsHome cells) (spent_by link.chain (links_of link.chain log ++ link ∷ [])) =
    spent-push (IsHome cells) link.chain (links_of link.chain log) link mine last in
    subst (λ (c : ℕ). AllByRecursion (IsHome cells) (spent_by c (links_of c (log ++ link ∷ [])))) same
    (subst (λ (links : List Link). AllByRecursion (IsHome cells) (spent_by link.chain links)) (sym (links-push log link)) more)
spent-after cells log link chain false is all last =
    subst (λ (links : List Link). AllByRecursion (IsHome cells) (spent_by chain links)) (sym (links-others chain log link is)) all

-- ---- the two steps

abbrev shows : List Link → List Link
shows log = []

abbrev moves : List Link → List Link → ℕ → Type 0
moves before after answer = Unit {0}

abbrev same_word : ℕ → ℕ
same_word n = either (n == 0) 0 n

-- the cells after the first word was passed and the pen's word is at home
abbrev cells_then : List Cell → ℕ → ℕ → List Cell
cells_then cells key value = slice_set (slice_set cells 0 (same_word (cell cells 0).0, true)) key (value, true)

home-then : (cells : List Cell) (key value k : ℕ) → IsHome cells k → IsHome (cells_then cells key value) k
home-then cells key value k home =
    home-set (slice_set cells 0 (same_word (cell cells 0).0, true)) key k value (home-set cells 0 k (same_word (cell cells 0).0) home)

length-then : (cells : List Cell) (key value : ℕ) → length (cells_then cells key value) ≡ length cells
length-then cells key value =
    length-set (slice_set cells 0 (same_word (cell cells 0).0, true)) key (value, true) ∙ length-set cells 0 (same_word (cell cells 0).0, true)

chained-then : (cells : List Cell) (log : List Link) (link : Link) (key value : ℕ) → IsChained cells log → key < length cells
    → end_of link.chain log ≡ key → IsChained (cells_then cells key value) (log ++ link ∷ [])
chained-then cells log link key value chained inside last =
    let placed : key < length (slice_set cells 0 (same_word (cell cells 0).0, true)) =
    omega (arith, length-set cells 0 (same_word (cell cells 0).0, true), inside) in
    let home : IsHome (cells_then cells key value) key =
    set-home (slice_set cells 0 (same_word (cell cells 0).0, true)) key value placed in
    let home_last : IsHome (cells_then cells key value) (end_of link.chain log) =
    subst (λ (k : ℕ). IsHome (cells_then cells key value) k) (sym last) home in
    record {
      first = (omega (arith, length-then cells key value, chained.first.0), home-then cells key value 0 chained.first.1);
      spent = λ chain. spent-after (cells_then cells key value) log link chain (link.chain == chain) refl
          (all-more (IsHome cells) (IsHome (cells_then cells key value)) (spent_by chain (links_of chain log)) (home-then cells key value) (chained.spent chain)) home_last;
    }

-- for every book: the owner of the pen at the end of what was seen of a chain can add a link after all links of the chain
pub links_moves : (seen : List Link) (link : Link) (key value : ℕ) → end_of link.chain seen ≡ key
    → Moves IsChained shows moves 0 (seen, (nib may_write key value, None)) same_word (HasLinked (step 0 0 0 link) (seen, (nib may_write key value, None)))
links_moves seen link key value last cells log chained begins away =
    let inside : key < length cells = (away refl).0 in
    let far : (cell cells key).1 ≡ false = (away refl).1 in
    let far_end : (cell cells (end_of link.chain seen)).1 ≡ false = subst (λ (k : ℕ). (cell cells k).1 ≡ false) (sym last) far in
    let whole : links_of link.chain log ≡ links_of link.chain seen = links-seen cells log seen link.chain chained begins far_end in
    let last_of : end_of link.chain log ≡ key = ap (end_from link.chain) whole ∙ last in
    let longer : links_of link.chain (log ++ link ∷ []) ≡ links_of link.chain seen ++ link ∷ [] =
    links-push log link ∙ ap (λ links. links ++ link ∷ []) whole in
    let linked : HasLinked (step 0 0 0 link) (seen, (nib may_write key value, None)) (cell cells 0).0 (log ++ link ∷ [], (no_nib, None)) = record {
      entries = ap (map (λ l. l.entry)) longer ∙ map-append (λ l. l.entry) (links_of link.chain seen) (link ∷ []);
      end = ap (end_from link.chain) longer ∙ end-push link.chain (links_of link.chain seen) link;
    } in (
      chained.first.0,
      chained.first.1,
      (gives, link ∷ [], None, refl, chained-then cells log link key value chained inside last_of, inl (refl, refl), linked),
    )

-- ---- a step that adds nothing

length-begins : {A : Type 0} (xs ys : List A) → IsPrefix xs ys → length xs ≤ length ys
length-begins xs ys begins = omega (arith, ap length begins.1, length-append xs begins.0)

links-prefix : (chain : ℕ) (seen whole : List Link) → IsPrefix seen whole → IsPrefix (links_of chain seen) (links_of chain whole)
links-prefix chain seen whole begins = (
  links_of chain begins.0,
  sym (filter-append (λ l. l.chain == chain) seen begins.0) ∙ ap (links_of chain) begins.1,
)

chained-home : (cells : List Cell) (log : List Link) → IsChained cells log → IsChained (slice_set cells 0 (same_word (cell cells 0).0, true)) log
chained-home cells log chained =
    let home : (k : ℕ) → IsHome cells k → IsHome (slice_set cells 0 (same_word (cell cells 0).0, true)) k =
    λ k is. home-set cells 0 k (same_word (cell cells 0).0) is in
    record {
      first = (omega (arith, length-set cells 0 (same_word (cell cells 0).0, true), chained.first.0), home 0 chained.first.1);
      spent = λ chain. all-more (IsHome cells) (IsHome (slice_set cells 0 (same_word (cell cells 0).0, true))) (spent_by chain (links_of chain log)) home (chained.spent chain);
    }

-- the owner of the pen at the end of what it has seen of a chain learns that nobody has seen more of it, and keeps the pen
pub looks_moves : (own both : List Link) (ask : Link) (pen : Nib) → pen.right ≡ may_write → pen.key ≡ end_of ask.chain own → IsPrefix own both
    → ask.next ≡ length (links_of ask.chain own)
    → Moves IsChained shows moves 0 (both, (pen, None)) same_word (HasLooked (step 0 0 0 ask) (both, (pen, None)))
looks_moves own both ask pen right last less count cells log chained begins away =
    let far : (cell cells pen.key).1 ≡ false = (away right).1 in
    let far_end : (cell cells (end_of ask.chain own)).1 ≡ false = subst (λ (k : ℕ). (cell cells k).1 ≡ false) last far in
    let within : IsPrefix own log = begins-trans own both log less begins in
    let whole : links_of ask.chain log ≡ links_of ask.chain own = links-seen cells log own ask.chain chained within far_end in
    let low = length-begins (links_of ask.chain own) (links_of ask.chain both) (links-prefix ask.chain own both less) in
    let high = length-begins (links_of ask.chain both) (links_of ask.chain log) (links-prefix ask.chain both log begins) in
    let looked : HasLooked (step 0 0 0 ask) (both, (pen, None)) (cell cells 0).0 (log ++ [], (pen, None)) = record {
      count = omega (arith, low, high, ap length whole, count);
      pen = refl;
    } in (
      chained.first.0,
      chained.first.1,
      (keeps, [], None, tt, subst (λ (l : List Link). IsChained (slice_set cells 0 (same_word (cell cells 0).0, true)) l) (sym (append-nil log)) (chained-home cells log chained), inl (refl, refl), looked),
    )

-- for every book, there is a pen for a new word
pub pen_moves : (seen : List Link) (ask : Link)
    → Moves IsChained shows moves 0 (seen, (no_nib, None)) same_word (HasNewPen (step 0 0 0 ask) (seen, (no_nib, None)))
pen_moves seen ask cells log chained begins away =
    let home : (k : ℕ) → IsHome cells k → IsHome (slice_set cells 0 (same_word (cell cells 0).0, true) ++ (0, false) ∷ []) k =
    λ k is. home-added (slice_set cells 0 (same_word (cell cells 0).0, true)) k (home-set cells 0 k (same_word (cell cells 0).0) is) in
    let kept : IsChained (slice_set cells 0 (same_word (cell cells 0).0, true) ++ (0, false) ∷ []) log = record {
      first = (omega (arith, length-append (slice_set cells 0 (same_word (cell cells 0).0, true)) ((0, false) ∷ []), length-set cells 0 (same_word (cell cells 0).0, true), chained.first.0), home 0 chained.first.1);
      spent = λ chain. all-more (IsHome cells) (IsHome (slice_set cells 0 (same_word (cell cells 0).0, true) ++ (0, false) ∷ [])) (spent_by chain (links_of chain log)) home (chained.spent chain);
    } in (
      chained.first.0,
      chained.first.1,
      (adds, [], None, tt, subst (λ (l : List Link). IsChained (slice_set cells 0 (same_word (cell cells 0).0, true) ++ (0, false) ∷ []) l) (sym (append-nil log)) kept, inl (refl, refl), refl),
    )

-- `links_moves` for any pen that can write
pub adds_moves : (seen : List Link) (link : Link) (pen : Nib) → pen.right ≡ may_write → pen.key ≡ end_of link.chain seen
    → Moves IsChained shows moves 0 (seen, (pen, None)) same_word (HasLinked (step 0 0 0 link) (seen, (pen, None)))
adds_moves seen link pen right last =
    subst (λ (p : Nib). Moves IsChained shows moves 0 (seen, (p, None)) same_word (HasLinked (step 0 0 0 link) (seen, (p, None))))
    (λ i. nib (sym right i) pen.key pen.value) (links_moves seen link pen.key pen.value (sym last))
