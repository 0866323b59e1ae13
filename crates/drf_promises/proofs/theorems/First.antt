-- The first client of a turn is, at each node of its path, ahead of all active siblings.
use Rattle.std.specs.Prelude.{◌≡◌, ℕ, Bool, true, false, List, [], ◌∷◌, ◌++◌, length, drop}
use Rattle.std.specs.List.{AllByRecursion, list_any}
use Rattle.std.proofs.Common.{refl, sym, ap, subst, ◌∙◌, inl, inr, ◌⊎◌, append-nil, append_assoc}
use Rattle.std.proofs.lemmas.Bool.{or_cases, true≢false}
use Rattle.std.proofs.lemmas.List.{take-append-drop}
use Rattle.drf_role.specs.Path.{Path, begins_with}
use Rattle.drf_role.specs.Text.{Text, same_text}
use Rattle.drf_role.specs.TextLaws.{same_itself}
use Rattle.drf_rows.specs.Client.{Client, path_of}
use Rattle.drf_rows.specs.Consistent.{IsConsistent}
use Rattle.drf_rows.specs.Cycle.{turn_order}
use Rattle.drf_rows.specs.Held.{active_clients}
use Rattle.drf_rows.specs.Held as rows_word
use Rattle.drf_rows.specs.Share.{Standing, is_ahead, stands_before_below}
use Rattle.drf_row_laws.proofs.ConsistentLaws.{same_text-swap}
use Rattle.drf_bundle.proofs.ListLaws.{each_from}
use Rattle.drf_rows.specs.declared.rows.Rows.{Rows}
use Rattle.drf_sorter.proofs.PrefixLemmas.{begins_to}
use Rattle.drf_promises.specs.Apart.{TakesPart}
use Rattle.drf_promises.specs.Siblings.{child}
use Rattle.drf_promises.proofs.theorems.Cycles.{everybody}
use Rattle.drf_promises.proofs.theorems.Order.{Before, InOrder, served_in_order}
use Rattle.drf_promises.proofs.theorems.Siblings.{child_differs}

-- ---- paths through a node

pub through : (path parent : Path) (a : Text) → begins_with path (child parent a) ≡ true → (rest : Path) × (path ≡ parent ++ a ∷ rest)
through path parent a begins =
    let n : ℕ = length (child parent a) in (
      drop n path,
      sym (take-append-drop n path) ∙ ap (λ (p : Path). p ++ drop n path) (begins_to path (child parent a) begins)
          ∙ append_assoc parent (a ∷ []) (drop n path),
    )

-- where two paths part, the order of the siblings decides
pub decided : (s : Standing) (before parent : Path) (a b : Text) (x y : Path) → same_text a b ≡ false
    → stands_before_below s before (parent ++ a ∷ x) (parent ++ b ∷ y) ≡ is_ahead s (before ++ parent) a b
decided s before [] a b x y other = rw other (ap (λ (p : Path). is_ahead s p a b) (sym (append-nil before)))
decided s before (z ∷ parent) a b x y other =
    rw (same_itself z) (decided s (before ++ z ∷ []) parent a b x y other ∙ ap (λ (p : Path). is_ahead s p a b) (append_assoc before (z ∷ []) parent))

-- ---- the first client

pub some_of : {X : Type 0} (p : X → Bool) (Q : X → Type 0) (xs : List X) → list_any p xs ≡ true → AllByRecursion Q xs → (x : X) × (p x ≡ true) × Q x
some_of p Q [] any each = cc
some_of p Q (x ∷ xs) any each = elim (or_cases (p x) (list_any p xs) any) [
  | inl here ↦ (x, here, each.0)
  | inr later ↦ some_of p Q xs later each.1
]

module _ (rows : Rows) (consistent : IsConsistent rows) (c : Client) (others : List Client) (order : turn_order rows ≡ c ∷ others) where
  abbrev s : Standing
  s = rows_word.standing_of rows

  -- the first client comes before every other
  abbrev ItOrBehind : Client → Type 0
  ItOrBehind d = (path_of d ≡ path_of c) ⊎ Before s c d

  before_all : AllByRecursion ItOrBehind (active_clients rows)
  before_all =
      let in_order = subst (InOrder s) order (served_in_order s (length (active_clients rows)) (active_clients rows)) in
      everybody ItOrBehind rows consistent
      (subst (AllByRecursion ItOrBehind) (sym order) (inl refl, each_from (Before s c) ItOrBehind others (λ d before. inr before) in_order.0))

  pub first_is_ahead : (parent : Path) (a b : Text) → begins_with (path_of c) (child parent a) ≡ true → TakesPart rows (child parent b)
      → same_text a b ≡ false → is_ahead s parent a b ≡ true
  first_is_ahead parent a b its takes other =
      let d = some_of (λ d. begins_with (path_of d) (child parent b)) ItOrBehind (active_clients rows) takes before_all in
      let one = through (path_of c) parent a its in
      let two = through (path_of d.0) parent b d.1 in
      elim d.2 [
        | inl same ↦
            let back : same_text b a ≡ false = same_text-swap b a ∙ other in
            absurd (true≢false (sym d.1 ∙ ap (λ (p : Path). begins_with p (child parent b)) (same ∙ one.1) ∙ child_differs parent one.0 b a back))
        | inr before ↦
            sym (decided s [] parent a b one.0 two.0 other) ∙ (λ i. stands_before_below s [] (sym one.1 i) (sym two.1 i)) ∙ before
      ]
