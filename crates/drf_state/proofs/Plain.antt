-- The written forms of names, roles, bundles and quantities are ASCII, and so UTF-8.
use Rattle.std.proofs.Common.{◌≡◌, ℕ, ◌+◌, ◌^◌, ◌<◌, Bool, true, false, cond, List, [], ◌∷◌, ◌++◌, map, All, decimal, sym, ap, ◌∙◌, arith}
use Rattle.std.specs.Prelude.{nat_le}
use Rattle.std.specs.List.{join_with_byte, list_any}
use Rattle.std.specs.FinSet as set
use Rattle.std.specs.Ordering.{eq_by_cmp, is_eq}
use Rattle.std.specs.Cmp.Lexicographic.{nat_list_cmp_total}
use Rattle.std.proofs.lemmas.Bool.{or_left, or_right}
use Rattle.std.proofs.lemmas.Bool.Decides.{nat_tests}
use Rattle.std.proofs.lemmas.List.Elements.{All-head, All-tail, All-nil, All-cons, All-append, All-map, All-weaker}
use Rattle.std.proofs.lemmas.Str.Ascii.{All-from_ascii}
use Rattle.std.proofs.lemmas.Fmt.{IsAscii-decimal}
use Rattle.drf_role.specs.Name.{IsLabel, IsLabelByte, IsName, IsNameByte}
use Rattle.drf_role.specs.Parts.{text_of}
use Rattle.drf_role.specs.Role.{IsRole}
use Rattle.drf_role.proofs.RoleLaws.{role_ascii}
use Rattle.drf_role.specs.TextLaws.{cmp_itself}
use Rattle.drf_kinds.specs.Intervals.{AreMaximalFrom}
use Rattle.drf_kinds.specs.Listed.{listed, intervals_of}
use Rattle.drf_kinds.proofs.ListedLaws.{maximal-intervals_of, from_list-listed}
use Rattle.drf_kinds.specs.Names.{IsLabelSet, text_cmp}
use Rattle.drf_kinds.specs.declared.interval.Interval.{Interval}
use Rattle.drf_bundle.specs.Bundle.{IsBundle, IsResource, is_default}
use Rattle.drf_bundle.specs.Value.{IsGiven}
use Rattle.drf_bundle.specs.declared.quantities.Entry.{Entry}
use Rattle.drf_bundle.specs.declared.resource.Resource.{Resource}
use Rattle.drf_bundle.specs.declared.value.Value.{Value}
use Rattle.drf_bundle.specs.declared.value.Value.TheVariants.{Scalar, Ranges, Items}
use Rattle.drf_text.proofs.ByteLaws.{amount_has_none, is_amount_byte}
use Rattle.drf_text.specs.RoundTrip.{IsEntry}
use Rattle.drf_text.specs.Written.{amount_text, bundle_text, head_text, interval_text, intervals_text, quantities_text, quantity_text, resource_text, value_text}

-- each byte is an ASCII character
abbrev pub IsPlain : List ℕ → Type 0
IsPlain text = All (λ b. b < 128) text

both : (a b : List ℕ) → IsPlain a → IsPlain b → IsPlain (a ++ b)
both a b one other = All-append (λ b. b < 128) a b one other

pub behind : (b : ℕ) (text : List ℕ) → b < 128 → IsPlain text → IsPlain (b ∷ text)
behind b text small plain = All-cons (λ b. b < 128) b text small plain

pub nothing : IsPlain []
nothing = All-nil (λ b. b < 128)

joined : (mark : ℕ) (texts : List (List ℕ)) → mark < 128 → All IsPlain texts → IsPlain (join_with_byte mark texts)
joined mark [] small each = nothing
joined mark (x ∷ []) small each = All-head IsPlain x [] each
joined mark (x ∷ y ∷ ys) small each =
    both x (mark ∷ join_with_byte mark (y ∷ ys)) (All-head IsPlain x (y ∷ ys) each)
    (behind mark (join_with_byte mark (y ∷ ys)) small (joined mark (y ∷ ys) small (All-tail IsPlain x (y ∷ ys) each)))

-- ---- names, roles, numbers

name_byte : (b : ℕ) → IsNameByte b → b < 128
name_byte b is = omega arith

label_byte : (b : ℕ) → IsLabelByte b → b < 128
label_byte b is = omega arith

pub plain_name : (name : List ℕ) → IsName name → IsPlain name
plain_name name is = All-weaker IsNameByte (λ b. b < 128) name_byte name is.alphabet

plain_label : (label : List ℕ) → IsLabel label → IsPlain label
plain_label label is = All-weaker IsLabelByte (λ b. b < 128) label_byte label is.alphabet

pub plain_role : (role : List (List ℕ)) → IsRole role → IsPlain (text_of role)
plain_role role is = All-from_ascii (text_of role) (role_ascii role is)

plain_number : (n : ℕ) → n < 2 ^ 64 → IsPlain (decimal n)
plain_number n small = All-from_ascii (decimal n) (IsAscii-decimal n small)

amount_byte : (b : ℕ) → is_amount_byte b ≡ true → nat_le 128 b ≡ false
amount_byte b is = grind (arith, nat_tests, is)

pub plain_amount : (amount : ℕ) → amount < 2 ^ 64 → IsPlain (amount_text amount)
plain_amount amount small =
    All-weaker (λ b. nat_le 128 b ≡ false) (λ b. b < 128) (λ b low. grind (arith, nat_tests, low)) (amount_text amount)
    (amount_has_none (λ b. nat_le 128 b) amount small amount_byte)

-- ---- values

plain_intervals : (low : ℕ) (is : List Interval) → AreMaximalFrom low is → All IsPlain (map interval_text is)
plain_intervals low [] maximal = All-nil IsPlain
plain_intervals low (i ∷ is) maximal =
    All-cons IsPlain (interval_text i) (map interval_text is)
    (both (decimal i.first) (45 ∷ decimal i.last) (plain_number i.first (omega (arith, maximal.1, maximal.2)))
    (behind 45 (decimal i.last) (omega arith) (plain_number i.last (omega (arith, maximal.2)))))
    (plain_intervals (i.last + 2) is maximal.3)

-- the elements of a set of names are ASCII
plain_labels : (names : List (List ℕ)) → ((t : List ℕ) → list_any (eq_by_cmp text_cmp t) names ≡ true → IsLabel t) → All IsPlain names
plain_labels [] labels = All-nil IsPlain
plain_labels (x ∷ xs) labels =
    All-cons IsPlain x xs (plain_label x (labels x (or_left (eq_by_cmp text_cmp x x) (list_any (eq_by_cmp text_cmp x) xs) (ap is_eq (cmp_itself x)))))
    (plain_labels xs (λ t later. labels t (or_right (eq_by_cmp text_cmp t x) (list_any (eq_by_cmp text_cmp t) xs) later)))

plain_listed : (labels : set.FinSet text_cmp) → IsLabelSet labels → All IsPlain (listed labels)
plain_listed labels given =
    let same = from_list-listed text_cmp nat_list_cmp_total (set.slice_cmp-IsAntisymmetric set.nat_cmp-IsAntisymmetric) labels in
    plain_labels (listed labels) (λ t found.
    given.each t (ap (λ (s : set.FinSet text_cmp). set.contains s t) (sym same) ∙ set.contains-from_list nat_list_cmp_total (listed labels) t ∙ found))

plain_value : (value : Value) → IsGiven value → IsPlain (value_text value)
plain_value (Scalar thousandths) given = plain_amount thousandths given
plain_value (Ranges numbers) given =
    behind 91 (intervals_text (intervals_of numbers) ++ 93 ∷ []) (omega arith)
    (both (intervals_text (intervals_of numbers)) (93 ∷ [])
    (joined 44 (map interval_text (intervals_of numbers)) (omega arith) (plain_intervals 0 (intervals_of numbers) (maximal-intervals_of numbers given)))
    (behind 93 [] (omega arith) nothing))
plain_value (Items labels) given =
    behind 123 (join_with_byte 44 (listed labels) ++ 125 ∷ []) (omega arith)
    (both (join_with_byte 44 (listed labels)) (125 ∷ [])
    (joined 44 (listed labels) (omega arith) (plain_listed labels given))
    (behind 125 [] (omega arith) nothing))

-- ---- bundles and quantities

plain_head : (r : Resource) → IsResource r → (default : Bool) → IsPlain (cond default r.label (r.label ++ 40 ∷ text_of r.role ++ 41 ∷ []))
plain_head r is true = plain_label r.label is.label
plain_head r is false =
    both (r.label ++ 40 ∷ text_of r.role) (41 ∷ [])
    (both r.label (40 ∷ text_of r.role) (plain_label r.label is.label) (behind 40 (text_of r.role) (omega arith) (plain_role r.role is.role)))
    (behind 41 [] (omega arith) nothing)

plain_resource : (r : Resource) → IsResource r → IsPlain (resource_text r)
plain_resource r is =
    both (head_text r) (58 ∷ value_text r.value) (plain_head r is (is_default r.role))
    (behind 58 (value_text r.value) (omega arith) (plain_value r.value is.value))

pub plain_bundle : (bundle : List Resource) → IsBundle bundle → IsPlain (bundle_text bundle)
unfolding bundle_text
plain_bundle bundle is =
    joined 59 (map resource_text bundle) (omega arith)
    (All-map IsPlain resource_text bundle (All-weaker IsResource (λ r. IsPlain (resource_text r)) plain_resource bundle is.each))

plain_quantity : (e : Entry) → IsEntry e → IsPlain (quantity_text e)
plain_quantity e is =
    both e.label (58 ∷ amount_text e.amount) (plain_label e.label is.label)
    (behind 58 (amount_text e.amount) (omega arith) (plain_amount e.amount is.amount))

pub plain_quantities : (entries : List Entry) → All IsEntry entries → IsPlain (quantities_text entries)
plain_quantities entries each =
    joined 59 (map quantity_text entries) (omega arith)
    (All-map IsPlain quantity_text entries (All-weaker IsEntry (λ e. IsPlain (quantity_text e)) plain_quantity entries each))
