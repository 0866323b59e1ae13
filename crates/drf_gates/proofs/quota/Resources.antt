-- What roles consume of a bundle, resource by resource.
use Rattle.std.specs.Prelude.{◌≡◌, ℕ, ◌+◌, ◌<◌, ◌≤◌, ◌^◌, Bool, true, false, not, ◌&&◌, List, [], ◌∷◌, length, take, drop, sum_by, IsTrue, Result, Ok, Err, OnOk}
use Rattle.std.proofs.Common.{refl, sym, ap, subst, ◌∙◌, cond, arith, get_or, add-one, drop-cons}
use Rattle.std.proofs.lemmas.Bool.{and_parts}
use Rattle.std.proofs.lemmas.List.{take-append-drop}
use Rattle.std.proofs.lemmas.List.Elements.{All-get_or}
use Rattle.std.proofs.lemmas.List.Sums.{sum_by-append}
use Rattle.drf_role.specs.Text.{Text, same_text}
use Rattle.drf_role.specs.TextLaws.{same_from_test, same_itself}
use Rattle.drf_role.specs.Path.{Path}
use Rattle.drf_role.specs.Parts.{parts_of, text_of}
use Rattle.drf_bundle.specs.Value.{Thousandths, units_in}
use Rattle.drf_bundle.specs.Quantities.{amount_of, with_amount}
use Rattle.drf_bundle.proofs.theorems.QuantitiesLaws.{amount-with}
use Rattle.drf_bundle.specs.Bundle.{IsResource, IsBundle, is_default, is_unreserved, key_of, quantities_of, same_key, stock}
use Rattle.drf_bundle.specs.laws.KeyLaws.{where-cons}
use Rattle.drf_bundle.specs.laws.SumLaws.{of_name}
use Rattle.drf_bundle.proofs.theorems.SumLaws.{amount-quantities_of}
use Rattle.drf_bundle.specs.declared.quantities.Entry.{Entry}
use Rattle.drf_bundle.specs.declared.resource.Resource.{Resource}
use Rattle.drf_row_laws.proofs.ConsistentLaws.{same_text-swap}
use Rattle.drf_rows.specs.Quota.{reserves, unreserved_in, reserved_in}
use Rattle.drf_row_laws.proofs.QuotaLaws.{no_text, parts_le}
use Rattle.drf_gates.specs.quota.Allowance.{AreRaised, IsRaisedBy, IsSame, Usage, amount_in_one, unreserved_one, reserved_one, counted, used_where}

-- the element that is read is the first of the remaining ones
pub next_of : {A : Type 0} (xs : List A) (i : ℕ) (x : A) → i < length xs → x ≡ get_or xs i x → drop i xs ≡ x ∷ drop (i + 1) xs
next_of {A} xs i x in_range read =
    let split : drop i xs ≡ get_or xs i x ∷ drop (i + 1) xs = rw (add-one) (drop-cons xs i x in_range) in
    split ∙ ap (λ (y : A). y ∷ drop (i + 1) xs) (sym read)

pub resource_at : (bundle : List Resource) (i : ℕ) (r : Resource) → IsBundle bundle → i < length bundle → r ≡ get_or bundle i r → IsResource r
resource_at bundle i r is in_range read = subst IsResource (sym read) (All-get_or IsResource bundle i r in_range is.each)

-- ---- one resource

module _ (r : Resource) (label : Text) where
  abbrev amount : ℕ
  amount = units_in r.value Thousandths

  swapped : (b : Bool) → cond (same_text label r.label && b) amount 0 ≡ cond b (amount_in_one label r) 0
  swapped true = ap (λ (s : Bool). cond (s && true) amount 0) (same_text-swap label r.label) ∙ kept (same_text r.label label)
    where
      kept : (s : Bool) → cond (s && true) amount 0 ≡ cond s amount 0
      kept true = refl
      kept false = refl
  swapped false = gone (same_text label r.label)
    where
      gone : (s : Bool) → cond (s && false) amount 0 ≡ 0
      gone true = refl
      gone false = refl

  -- the resource is unreserved
  pub unreserved-here : is_default r.role ≡ true → unreserved_one label r ≡ amount_in_one label r
  unreserved-here default =
      ap (λ b. cond (same_text label r.label && same_text [] (cond b [] (text_of r.role))) amount 0) default ∙ swapped true

  pub unreserved-all : is_default r.role ≡ true → unreserved_one label r ≡ cond (same_text label r.label) amount 0
  unreserved-all default =
      unreserved-here default ∙ ap (λ (b : Bool). cond b amount 0) (same_text-swap r.label label)

  module _ (right : IsResource r) (other : is_default r.role ≡ false) where
    some : same_text (text_of r.role) [] ≡ false
    some = no_text r.role right.role other

    -- the resource is reserved for a role
    pub unreserved-none : unreserved_one label r ≡ 0
    unreserved-none =
        ap (λ b. cond (same_text label r.label && same_text [] (cond b [] (text_of r.role))) amount 0) other
        ∙ ap (λ b. cond (same_text label r.label && b) amount 0) (same_text-swap [] (text_of r.role) ∙ some)
        ∙ swapped false

    pub reserved-here : (test : Path → Bool) → reserved_one test label r ≡ cond (test r.role) (amount_in_one label r) 0
    reserved-here test =
        ap (λ b. cond (same_text label r.label && (not (same_text (cond b [] (text_of r.role)) []) && test (parts_of (cond b [] (text_of r.role))))) amount 0) other
        ∙ (λ i. cond (same_text label r.label && (not (some i) && test (right.role_read i))) amount 0)
        ∙ swapped (test r.role)

-- if nothing in a bundle is reserved, its whole amount of a label is unreserved
for_everyone : (rs : List Resource) (label : Text) → IsTrue (is_unreserved rs) → stock rs label Thousandths ≡ unreserved_in label rs
for_everyone [] label all = refl
for_everyone (r ∷ rs) label all =
    let parts = and_parts (is_default r.role) (is_unreserved rs) all in
    omega (
      arith,
      where-cons (of_name label) Thousandths r rs,
      where-cons (same_key (label, [])) Thousandths r rs,
      unreserved-all r label parts.0,
      for_everyone rs label parts.1,
    )

pub sums-unreserved : (bundle : List Resource) (label : Text) → IsTrue (is_unreserved bundle)
    → amount_of (quantities_of bundle) label ≡ unreserved_in label bundle
sums-unreserved bundle label all = amount-quantities_of bundle label ∙ for_everyone bundle label all

-- the whole amount of a resource is of its own label
pub one_here : (r : Resource) → amount_in_one r.label r ≡ units_in r.value Thousandths
one_here r = ap (λ b. cond b (units_in r.value Thousandths) 0) (same_itself r.label)

-- ---- amounts that grow

-- the amount of a resource's label grows by the amount of the resource
pub amount_more : (sum : List Entry) (r : Resource) (label : Text)
    → amount_of (with_amount sum r.label (amount_of sum r.label + units_in r.value Thousandths)) label
    ≡ amount_of sum label + amount_in_one label r
amount_more sum r label = amount-with sum r.label (amount_of sum r.label + units_in r.value Thousandths) label ∙ by (same_text r.label label) refl
  where
    by : (b : Bool) → same_text r.label label ≡ b
        → cond b (amount_of sum r.label + units_in r.value Thousandths) (amount_of sum label)
        ≡ amount_of sum label + cond b (units_in r.value Thousandths) 0
    by true same = ap (λ (n : Text). amount_of sum n + units_in r.value Thousandths) (same_from_test r.label label same)
    by false other = omega arith

-- the same after the amount is set, for an unreserved resource
pub set_more : {T E : Type 0} (result : Result T E) (sum new : List Entry) (r : Resource) (name : Text) (amount : ℕ)
    → OnOk result (new ≡ with_amount sum name amount) → name ≡ r.label → amount ≡ amount_of sum r.label + units_in r.value Thousandths
    → is_default r.role ≡ true
    → OnOk result ((label : Text) → amount_of new label ≡ amount_of sum label + unreserved_one label r)
set_more (Ok x) sum new r name more set same is default = λ label.
    ap (λ (es : List Entry). amount_of es label) set
    ∙ (λ i. amount_of (with_amount sum (same i) (is i)) label)
    ∙ amount_more sum r label
    ∙ ap (λ n. amount_of sum label + n) (sym (unreserved-here r label default))
set_more (Err e) sum new r name more set same is default = tt

-- ---- sums over a bundle

-- what was added and what remains to be added is all that is unreserved in the bundle
abbrev pub IsSummed : List Resource → List Entry → List Resource → Type 0
IsSummed bundle sum left = (label : Text) → amount_of sum label + unreserved_in label left ≡ unreserved_in label bundle

module _ (bundle : List Resource) (is : IsBundle bundle) (sum : List Entry) (i : ℕ) (r : Resource)
    (in_range : i < length bundle) (read : r ≡ get_or bundle i r) (summed : IsSummed bundle sum (drop i bundle)) where
  split_sum : (label : Text) → amount_of sum label + unreserved_in label (r ∷ drop (i + 1) bundle) ≡ unreserved_in label bundle
  split_sum label = subst (λ (rs : List Resource). amount_of sum label + unreserved_in label rs ≡ unreserved_in label bundle) (next_of bundle i r in_range read) (summed label)

  first_unit : (label : Text) → unreserved_in label (r ∷ drop (i + 1) bundle) ≡ unreserved_one label r + unreserved_in label (drop (i + 1) bundle)
  first_unit label = where-cons (same_key (label, [])) Thousandths r (drop (i + 1) bundle)

  pub sum_fits : unreserved_one r.label r + amount_of sum r.label < 2 ^ 64
  sum_fits = omega (
    arith,
    split_sum r.label,
    first_unit r.label,
    parts_le (λ role. true) r.label bundle,
    is.fits.at_most r.label Thousandths,
  )

  pub sum_more : (new : List Entry) → ((label : Text) → amount_of new label ≡ amount_of sum label + unreserved_one label r)
      → IsSummed bundle new (drop (i + 1) bundle)
  sum_more new more label = omega (arith, split_sum label, first_unit label, more label)

-- what was consumed and what remains to be consumed is all that is reserved in the bundle
abbrev pub IsConsumed : List Resource → List Usage → List Usage → List Resource → Type 0
IsConsumed bundle old new left = (test : Path → Bool) (label : Text)
    → used_where test new label + reserved_in test label left ≡ used_where test old label + reserved_in test label bundle

module _ (bundle : List Resource) (old mid : List Usage) (i : ℕ) (r : Resource)
    (in_range : i < length bundle) (read : r ≡ get_or bundle i r) (consumed : IsConsumed bundle old mid (drop i bundle)) where
  split_used : (test : Path → Bool) (label : Text)
      → used_where test mid label + (reserved_one test label r + reserved_in test label (drop (i + 1) bundle))
      ≡ used_where test old label + reserved_in test label bundle
  split_used test label =
      let of : List Resource → ℕ = λ rs. used_where test mid label + reserved_in test label rs in
      omega (
        arith,
        ap of (next_of bundle i r in_range read),
        where-cons (reserves test label) Thousandths r (drop (i + 1) bundle),
        consumed test label,
      )

  pub used_fits : ((test : Path → Bool) (label : Text) → used_where test old label + reserved_in test label bundle < 2 ^ 64)
      → (test : Path → Bool) (label : Text) → used_where test mid label + reserved_one test label r < 2 ^ 64
  used_fits fits test label = omega (arith, split_used test label, fits test label)

  pub used_more : (new : List Usage) → IsRaisedBy mid new (λ test label. reserved_one test label r) → IsConsumed bundle old new (drop (i + 1) bundle)
  used_more new raised = λ test label. omega (arith, raised test label, split_used test label)

-- ---- a role that consumes amounts

-- the amounts are known by what they are equal to
pub raised_by : {T E : Type 0} (result : Result T E) (old new : List Usage) (role : Path) (amounts : List Entry) (more : (Path → Bool) → Text → ℕ)
    → OnOk result (AreRaised old new role amounts)
    → ((test : Path → Bool) (label : Text) → counted test role amounts label ≡ more test label)
    → OnOk result (IsRaisedBy old new more)
raised_by (Ok x) old new role amounts more raised same =
    λ test label. raised test label ∙ ap (λ n. used_where test old label + n) (same test label)
raised_by (Err e) old new role amounts more raised same = tt

-- ---- releasing one part after another

-- what was released and what remains to be released is everything
abbrev pub IsReleased : List Usage → List Usage → ((Path → Bool) → Text → ℕ) → ((Path → Bool) → Text → ℕ) → Type 0
IsReleased old mid all left =
    (test : Path → Bool) (label : Text) → used_where test mid label + all test label ≡ used_where test old label + left test label

module _ (old mid : List Usage) (all left one rest : (Path → Bool) → Text → ℕ) (released : IsReleased old mid all left)
    (split : (test : Path → Bool) (label : Text) → left test label ≡ one test label + rest test label) where
  pub released_fits : (test : Path → Bool) (label : Text) → all test label ≤ used_where test old label → one test label ≤ used_where test mid label
  released_fits test label fits = omega (arith, released test label, split test label, fits)

  pub released_more : (new : List Usage) → IsRaisedBy new mid one → IsReleased old new all rest
  released_more new raised = λ test label. omega (arith, raised test label, released test label, split test label)

pub released_done : (old new : List Usage) (all left : (Path → Bool) → Text → ℕ) → IsReleased old new all left
    → ((test : Path → Bool) (label : Text) → left test label ≡ 0) → IsRaisedBy new old all
released_done old new all left released none = λ test label. omega (arith, released test label, none test label)

-- the unreserved part of a bundle, consumed by one role, and the reserved part, consumed by the roles that it is reserved for
abbrev pub unreserved_by : Path → (List Resource → (Path → Bool) → Text → ℕ)
unreserved_by role bundle test label = cond (test role) (unreserved_in label bundle) 0

abbrev pub reserved_by : List Resource → (Path → Bool) → Text → ℕ
reserved_by bundle test label = reserved_in test label bundle

-- the first resource and the others
pub first_unreserved : (role : Path) (bundle : List Resource) (i : ℕ) (r : Resource) → i < length bundle → r ≡ get_or bundle i r
    → (test : Path → Bool) (label : Text)
    → unreserved_by role (drop i bundle) test label ≡ cond (test role) (unreserved_one label r) 0 + unreserved_by role (drop (i + 1) bundle) test label
first_unreserved role bundle i r in_range read test label =
    ap (λ (rs : List Resource). unreserved_by role rs test label) (next_of bundle i r in_range read)
    ∙ ap (λ n. cond (test role) n 0) (where-cons (same_key (label, [])) Thousandths r (drop (i + 1) bundle))
    ∙ plus (test role)
  where
    plus : (b : Bool) → cond b (unreserved_one label r + unreserved_in label (drop (i + 1) bundle)) 0
        ≡ cond b (unreserved_one label r) 0 + cond b (unreserved_in label (drop (i + 1) bundle)) 0
    plus true = refl
    plus false = refl

pub first_reserved : (bundle : List Resource) (i : ℕ) (r : Resource) → i < length bundle → r ≡ get_or bundle i r
    → (test : Path → Bool) (label : Text)
    → reserved_in test label (drop i bundle) ≡ reserved_one test label r + reserved_in test label (drop (i + 1) bundle)
first_reserved bundle i r in_range read test label =
    ap (λ (rs : List Resource). reserved_in test label rs) (next_of bundle i r in_range read)
    ∙ where-cons (reserves test label) Thousandths r (drop (i + 1) bundle)

-- the resources before a position, and those from it on
pub reserved_parts : (test : Path → Bool) (label : Text) (bundle : List Resource) (i : ℕ)
    → reserved_in test label bundle ≡ reserved_in test label (take i bundle) + reserved_in test label (drop i bundle)
reserved_parts test label bundle i =
    let of : Resource → ℕ = λ r. cond (reserves test label (key_of r)) (units_in r.value Thousandths) 0 in
    ap (sum_by of) (sym (take-append-drop i bundle)) ∙ sum_by-append of (take i bundle) (drop i bundle)

-- ---- a role consumes less of one scalar

pub nothing_by : (b : Bool) → ◌≡◌ {A = ℕ} (cond b 0 0) 0
nothing_by true = refl
nothing_by false = refl

-- ---- a prefix of the resources was consumed, and is released again

module _ (bundle : List Resource) (old mid : List Usage) (i : ℕ) (consumed : IsConsumed bundle old mid (drop i bundle)) where
  -- it is part of what is consumed
  pub prefix_fits : (test : Path → Bool) (label : Text) → reserved_in test label (take i bundle) ≤ used_where test mid label
  prefix_fits test label = omega (arith, consumed test label, reserved_parts test label bundle i)

  pub prefix_back : (new : List Usage) → IsRaisedBy new mid (λ test label. reserved_in test label (take i bundle)) → IsSame old new
  prefix_back new raised = λ test label. omega (arith, raised test label, consumed test label, reserved_parts test label bundle i)
