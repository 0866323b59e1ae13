-- The lines of nodes: their shares, and their order.
use Rattle.std.specs.Prelude.{◌≡◌, ◌<◌, ◌≤◌, ◌+◌, ◌-◌, ◌^◌, ℕ, zero, suc, Bool, true, IsTrue, List, [], ◌∷◌, ◌++◌, Some, drop, get_or, length, slice_get, take}
use Rattle.std.specs.List.{AllByRecursion, list_all, list_any}
use Rattle.std.specs.Cmp.{IsTotalOrder}
use Rattle.std.specs.Cmp.Lexicographic.{lists_total, nat_list_cmp_total}
use Rattle.std.specs.Ordering.{is_lt, match_ordering, ordering_reverse}
use Rattle.std.specs.declared.cmp.Ordering.{Ordering}
use Rattle.std.specs.declared.cmp.Ordering.TheVariants.{Less, Equal, Greater}
use Rattle.std.proofs.Common.{refl, sym, ap, subst, ◌∙◌, inl, inr, arith}
use Rattle.std.proofs.lemmas.List.{append-nil, append_assoc, drop_all, drop_more, set_split, take_all, take_more}
use Rattle.std.proofs.lemmas.Option.{get_or_from_slice_get, slice_get_within}
use Rattle.std.proofs.lemmas.Bool.{and_from, cases_eq, cases_lt, false≢true, or_cases, or_left, or_right}
use Rattle.drf_bundle.specs.Quantities.{amount_of, is_in_order}
use Rattle.drf_bundle.specs.declared.quantities.Entry.{Entry}
use Rattle.drf_role.specs.Text.{Text}
use Rattle.drf_role.specs.Path.{Path, begins_with, same_path}
use Rattle.drf_role.specs.PathLaws.{same_path-true}
use Rattle.drf_row_laws.specs.Laws.{are_in_order}
use Rattle.drf_row_laws.proofs.LowestLaws.{lowest_terms-same}
use Rattle.drf_rows.specs.Report.{path_cmp}
use Rattle.drf_row_laws.proofs.ReportLaws.{begins_take}
use Rattle.drf_row_laws.proofs.ReportedShares.{small_entries, part_of_greatest}
use Rattle.drf_rows.specs.Share.{lowest_terms}
use Rattle.drf_rows.specs.declared.report.NodeLine.{NodeLine}
use Rattle.drf_sorter.specs.Content.{Content, Ranked, has_client, has_node}
use Rattle.drf_sorter.specs.Fractions.{dominant_of, weigh}
use Rattle.drf_sorter.proofs.theorems.FractionLaws.{same_as_weighed}
use Rattle.drf_sorter.proofs.theorems.LineLaws.{each-with, has_line-new, has_line-others, same_from_tie}
use Rattle.drf_sorter.specs.Lines.{AreRising, BelongsBehind, StandsAt, has_line, paths_of, with_line}
use Rattle.drf_sorter.proofs.PrefixLemmas.{begins_short, begins_to}
use Rattle.drf_sorter.specs.Share.{fraction_of}
use Rattle.drf_sorter.specs.laws.ShareLaws.{above_zero, below_128}
use Rattle.drf_sorter.specs.declared.share.Share.{Share}

-- a share with weight 1 has the lowest terms of the dominant share
pub lowest-share : (total : List Entry) (held : Text → ℕ) (share : Share) → IsTrue (is_in_order total)
    → ((label : Text) → amount_of total label < 2 ^ 52) → fraction_of share ≡ weigh (dominant_of held total) 1000
    → lowest_terms (fraction_of share) ≡ lowest_terms (dominant_of held total)
lowest-share total held share ordered small is =
    let part = part_of_greatest held total (small_entries total ordered small) in
    lowest_terms-same (fraction_of share) (dominant_of held total)
    (above_zero share) (below_128 share) part.some (omega (arith, part.small))
    (same_as_weighed (fraction_of share) (dominant_of held total) is)

-- ---- lines with increasing paths

all_through : {X : Type 0} (P Q : X → Type 0) → ((x : X) → P x → Q x) → (xs : List X) → AllByRecursion P xs
    → AllByRecursion Q xs
all_through P Q step [] all = tt
all_through P Q step (x ∷ xs) all = (step x all.0, all_through P Q step xs all.1)

all_take : {X : Type 0} (P : X → Type 0) (i : ℕ) (xs : List X) → AllByRecursion P xs → AllByRecursion P (take i xs)
all_take P zero xs all = tt
all_take P (suc i) [] all = tt
all_take P (suc i) (x ∷ xs) all = (all.0, all_take P i xs all.1)

all_last : {X : Type 0} (P : X → Type 0) (xs : List X) (x : X) → AllByRecursion P (xs ++ x ∷ []) → P x
all_last P [] x all = all.0
all_last P (y ∷ xs) x all = all_last P xs x all.1

rising_take : (i : ℕ) (ls : List NodeLine) → AreRising ls → AreRising (take i ls)
rising_take zero ls rising = tt
rising_take (suc i) [] rising = tt
rising_take (suc i) (l ∷ ls) rising =
    (all_take (λ x. path_cmp l.path x.path ≡ Less) i ls rising.0, rising_take i ls rising.1)

path_total : IsTotalOrder path_cmp
path_total = lists_total nat_list_cmp_total

turned_less : (a b : Path) → path_cmp a b ≡ Greater → path_cmp b a ≡ Less
turned_less a b more = path_total.antisymm b a ∙ ap ordering_reverse more

turned_more : (a b : Path) → path_cmp a b ≡ Less → path_cmp b a ≡ Greater
turned_more a b less = path_total.antisymm b a ∙ ap ordering_reverse less

pub rising_with : (ls : List NodeLine) (line : NodeLine) → AreRising ls → AreRising (with_line ls line)
rising_with [] line rising = (tt, tt)
rising_with (l ∷ ls) line rising = by (path_cmp line.path l.path) refl (rising_with ls line rising.1)
  where
    by : (o : Ordering) → path_cmp line.path l.path ≡ o → AreRising (with_line ls line)
        → AreRising (match_ordering o (line ∷ l ∷ ls) (line ∷ ls) (l ∷ with_line ls line))
    by Less tie later = (
      (
        tie,
        all_through (λ (x : NodeLine). path_cmp l.path x.path ≡ Less) (λ (x : NodeLine). path_cmp line.path x.path ≡ Less)
            (λ x less. path_total.trans line.path l.path x.path tie less) ls rising.0,
      ),
      rising,
    )
    by Equal tie later = (
      subst (λ (p : Path). AllByRecursion (λ (x : NodeLine). path_cmp p x.path ≡ Less) ls)
          (sym (same_from_tie line.path l.path tie)) rising.0,
      rising.1,
    )
    by Greater tie later = (
      each-with (λ (x : NodeLine). path_cmp l.path x.path ≡ Less) ls line rising.0 (turned_less line.path l.path tie),
      later,
    )

all_above : (path : Path) (ls : List NodeLine) → AllByRecursion (λ x. path_cmp path x.path ≡ Less) ls
    → IsTrue (list_all (λ p. is_lt (path_cmp path p)) (paths_of ls))
all_above path [] all = refl
all_above path (l ∷ ls) all =
    and_from (is_lt (path_cmp path l.path)) (list_all (λ q. is_lt (path_cmp path q)) (paths_of ls)) (ap is_lt all.0)
    (all_above path ls all.1)

pub in_order-rising : (ls : List NodeLine) → AreRising ls → IsTrue (are_in_order (paths_of ls))
in_order-rising [] rising = refl
in_order-rising (l ∷ ls) rising =
    and_from (list_all (λ p. is_lt (path_cmp l.path p)) (paths_of ls)) (are_in_order (paths_of ls))
    (all_above l.path ls rising.0) (in_order-rising ls rising.1)

-- ---- a line is inserted after others

ahead-end : (ls : List NodeLine) (x line : NodeLine) → path_cmp line.path x.path ≡ Less
    → with_line (ls ++ x ∷ []) line ≡ with_line ls line ++ x ∷ []
ahead-end [] x line less = ap (λ (o : Ordering). match_ordering o (line ∷ x ∷ []) (line ∷ []) (x ∷ line ∷ [])) less
ahead-end (l ∷ ls) x line less = by (path_cmp line.path l.path) (ahead-end ls x line less)
  where
    by : (o : Ordering) → with_line (ls ++ x ∷ []) line ≡ with_line ls line ++ x ∷ []
        → match_ordering o (line ∷ l ∷ (ls ++ x ∷ [])) (line ∷ (ls ++ x ∷ [])) (l ∷ with_line (ls ++ x ∷ []) line)
        ≡ match_ordering o (line ∷ l ∷ ls) (line ∷ ls) (l ∷ with_line ls line) ++ x ∷ []
    by Less later = refl
    by Equal later = refl
    by Greater later = ap (λ (rest : List NodeLine). l ∷ rest) later

-- the line is after all lines that are before the last one
past-end : (ls : List NodeLine) (x line : NodeLine) (end : List NodeLine)
    → ((path : Path) → path_cmp path x.path ≡ Less → path_cmp line.path path ≡ Greater)
    → with_line (x ∷ []) line ≡ end → AreRising (ls ++ x ∷ []) → with_line (ls ++ x ∷ []) line ≡ ls ++ end
past-end [] x line end behind at rising = at
past-end (l ∷ ls) x line end behind at rising =
    ap (λ (o : Ordering). match_ordering o (line ∷ l ∷ (ls ++ x ∷ [])) (line ∷ (ls ++ x ∷ [])) (l ∷ with_line (ls ++ x ∷ []) line))
    (behind l.path (all_last (λ (y : NodeLine). path_cmp l.path y.path ≡ Less) ls x rising.0))
    ∙ ap (λ (rest : List NodeLine). l ∷ rest) (past-end ls x line end behind at rising.1)

-- a line with this path belongs among the first `i` lines
abbrev pub IsAmong : Path → List NodeLine → ℕ → Type 0
IsAmong path lines i = (line : NodeLine) → line.path ≡ path → with_line lines line ≡ with_line (take i lines) line ++ drop i lines

pub among_all : (path : Path) (lines : List NodeLine) (i : ℕ) → i ≡ length lines → IsAmong path lines i
among_all path lines i all line same =
    sym (append-nil (with_line lines line))
    ∙ sym (λ j. with_line (take_all i lines (omega (arith, all)) j) line ++ drop_all i lines (omega (arith, all)) j)

module _ (path : Path) (lines : List NodeLine) (i : ℕ) (x : NodeLine) (some : 0 < i) (inside : i - 1 < length lines)
    (is : x ≡ get_or lines (i - 1) x) (among : IsAmong path lines i) where
  back : i - 1 + 1 ≡ i
  back = omega arith

  prefix : take i lines ≡ take (i - 1) lines ++ x ∷ []
  prefix = ap (λ (n : ℕ). take n lines) (sym back) ∙ take_more lines (i - 1) x inside
      ∙ ap (λ (y : NodeLine). take (i - 1) lines ++ y ∷ []) (sym is)

  ends : drop (i - 1) lines ≡ x ∷ drop i lines
  ends = drop_more lines (i - 1) x inside ∙ (λ j. sym is j ∷ drop (back j) lines)

  pub among_less : path_cmp path x.path ≡ Less → IsAmong path lines (i - 1)
  among_less less line same =
      among line same
      ∙ ap (λ (ls : List NodeLine). with_line ls line ++ drop i lines) prefix
      ∙ ap (λ (ls : List NodeLine). ls ++ drop i lines)
      (ahead-end (take (i - 1) lines) x line (ap (λ (p : Path). path_cmp p x.path) same ∙ less))
      ∙ append_assoc (with_line (take (i - 1) lines) line) (x ∷ []) (drop i lines)
      ∙ ap (λ (rest : List NodeLine). with_line (take (i - 1) lines) line ++ rest) (sym ends)

  past : (line : NodeLine) (end : List NodeLine) → line.path ≡ path → AreRising lines
      → ((p : Path) → path_cmp p x.path ≡ Less → path_cmp line.path p ≡ Greater)
      → with_line (x ∷ []) line ≡ end → with_line lines line ≡ take (i - 1) lines ++ (end ++ drop i lines)
  past line end same rising behind at =
      among line same
      ∙ ap (λ (ls : List NodeLine). with_line ls line ++ drop i lines) prefix
      ∙ ap (λ (ls : List NodeLine). ls ++ drop i lines)
      (past-end (take (i - 1) lines) x line end behind at (subst AreRising prefix (rising_take i lines rising)))
      ∙ append_assoc (take (i - 1) lines) end (drop i lines)

  pub stands_at : path_cmp path x.path ≡ Equal → AreRising lines → StandsAt path lines (i - 1)
  stands_at tie rising line same =
      let own : line.path ≡ x.path = same ∙ same_from_tie path x.path tie in
      past line (line ∷ []) same rising
      (λ p less. ap (λ (q : Path). path_cmp q p) own ∙ turned_more p x.path less)
      (ap (λ (o : Ordering). match_ordering o (line ∷ x ∷ []) (line ∷ []) (x ∷ line ∷ []))
      (ap (λ (p : Path). path_cmp p x.path) same ∙ tie))
      ∙ (let on : suc (i - 1) ≡ i = omega arith in
      ap (λ (n : ℕ). take (i - 1) lines ++ line ∷ drop n lines) (sym on))
      ∙ sym (set_split lines (i - 1) line inside)

  pub belongs_behind : path_cmp path x.path ≡ Greater → AreRising lines → BelongsBehind path lines i
  belongs_behind more rising line same =
      let own : path_cmp line.path x.path ≡ Greater = ap (λ (p : Path). path_cmp p x.path) same ∙ more in
      past line (x ∷ line ∷ []) same rising
      (λ p less. turned_more p line.path (path_total.trans p x.path line.path less (turned_less line.path x.path own)))
      (ap (λ (o : Ordering). match_ordering o (line ∷ x ∷ []) (line ∷ []) (x ∷ line ∷ [])) own)
      ∙ sym (append_assoc (take (i - 1) lines) (x ∷ []) (line ∷ drop i lines))
      ∙ ap (λ (ls : List NodeLine). ls ++ line ∷ drop i lines) (sym prefix)

-- the path is greater than all in the list
pub goes_last : (path : Path) (lines : List NodeLine) (x : NodeLine) → slice_get lines (length lines - 1) ≡ Some x
    → path_cmp path x.path ≡ Greater → AreRising lines → BelongsBehind path lines (length lines)
goes_last path lines x last more rising =
    let within = slice_get_within lines (length lines - 1) x last in
    belongs_behind path lines (length lines) x (omega (arith, within)) within
    (sym (get_or_from_slice_get lines (length lines - 1) x x last)) (among_all path lines (length lines) refl) more rising

-- its line is appended
pub put_last : (lines : List NodeLine) (line : NodeLine) → BelongsBehind line.path lines (length lines)
    → with_line lines line ≡ lines ++ line ∷ []
put_last lines line behind =
    behind line refl
    ∙ (λ j. take_all (length lines) lines (omega arith) j ++ line ∷ drop_all (length lines) lines (omega arith) j)

-- ---- the nodes of a client

pub any_through : {X : Type 0} (p q : X → Bool) → ((x : X) → p x ≡ true → q x ≡ true) → (xs : List X)
    → list_any p xs ≡ true → list_any q xs ≡ true
any_through p q step [] some = some
any_through p q step (x ∷ xs) some = elim (or_cases (p x) (list_any p xs) some) [
  | inl here ↦ or_left (q x) (list_any q xs) (step x here)
  | inr past ↦ or_right (q x) (list_any q xs) (any_through p q step xs past)
]

-- each prefix of a client's path is a node with clients
pub has_node-prefix : (content : Content) (path : Path) (k : ℕ) → has_client content path ≡ true
    → has_node content (take k path) ≡ true
has_node-prefix content path k has =
    any_through (λ (c : Ranked). same_path c.path path) (λ (c : Ranked). begins_with c.path (take k path))
    (λ c same. ap (λ (p : Path). begins_with p (take k path)) (same_path-true c.path path same) ∙ begins_take path k)
    content.clients has

-- each node of a client is a prefix of its path
pub has_line-prefixes : (lines : List NodeLine) (path node : Path) → 1 ≤ length node → begins_with path node ≡ true
    → ((k : ℕ) → 1 ≤ k → k ≤ length path → has_line lines (take k path) ≡ true) → has_line lines node ≡ true
has_line-prefixes lines path node some begins prefixes = elim (cases_lt (length path) (length node)) [
  | inl short ↦ absurd (false≢true (sym (begins_short path node short) ∙ begins))
  | inr within ↦
      ap (has_line lines) (sym (begins_to path node begins)) ∙ prefixes (length node) some within
]

-- one more of the prefixes has a line
pub prefixes-more : (old : List NodeLine) (line : NodeLine) (path : Path) (i : ℕ) → line.path ≡ take (i + 1) path
    → ((k : ℕ) → 1 ≤ k → k ≤ i → has_line old (take k path) ≡ true)
    → (k : ℕ) → 1 ≤ k → k ≤ i + 1 → has_line (with_line old line) (take k path) ≡ true
prefixes-more old line path i is prefixes k some within = elim (cases_eq k (i + 1)) [
  | inl here ↦
      ap (has_line (with_line old line)) (ap (λ (n : ℕ). take n path) here ∙ sym is) ∙ has_line-new old line
  | inr other ↦ has_line-others old line (take k path) (prefixes k some (omega (arith, other)))
]
