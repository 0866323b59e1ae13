-- The written form of quantities: none of its bytes needs an escape, and each entry is appended to those before it.
use Rattle.std.proofs.Common.{◌≡◌, ℕ, ◌<◌, ◌^◌, Bool, true, false, not, cond, T, List, [], ◌∷◌, ◌++◌, map, ◌⊎◌, inl, inr, refl, sym, ap, subst, ◌∙◌, append-nil, arith}
use Rattle.std.proofs.lemmas.Bool.{cases_order, le-leb, not-false}
use Rattle.std.proofs.lemmas.Grind.{flat_map-append}
use Rattle.std.proofs.lemmas.List.Elements.{All-head, All-tail, All-append, All-cons}
use Rattle.std.specs.Prelude.{nat_le, nat_lt}
use Rattle.std.specs.List.{join_with_byte}
use Rattle.json.specs.Print.{escape, escape_byte}
use Rattle.drf_role.specs.Name.{IsLabel}
use Rattle.drf_role.specs.Tests.{is_label_byte}
use Rattle.drf_role.specs.Text.{Text}
use Rattle.drf_bundle.specs.Quantities.{without_zeros}
use Rattle.drf_bundle.specs.declared.quantities.Entry.{Entry}
use Rattle.drf_text.proofs.ByteLaws.{is_amount_byte, amount_has_none, HasNone, not_that, label_has_none}
use Rattle.drf_text.specs.Written.{amount_text, quantity_text}
use Rattle.drf_lines.specs.Amounts.{left_amounts}
use Rattle.drf_lines.specs.ReportLine.{amounts_text}
use Rattle.drf_lines.specs.Written.{is_plain_byte}
use Rattle.drf_lines.proofs.Lanes.{upto, upto_sound}
use Rattle.drf_lines.proofs.ReplyTexts.{plain_byte}

-- ---- bytes that need no escape

abbrev needs_escape : ℕ → Bool
needs_escape b = not (is_plain_byte b)

kept : (text : Text) → HasNone needs_escape text → escape text ≡ text
kept [] none = refl
kept (b ∷ bs) none =
    λ i. plain_byte b (not-false _ (All-head (λ x. needs_escape x ≡ false) b bs none)) i ++ kept bs (All-tail (λ x. needs_escape x ≡ false) b bs none) i

-- a class of bytes without control bytes, `"` and `\`
plain_in : (class : ℕ → Bool) → T (upto (λ x. not (class x)) 32) → class 34 ≡ false → class 92 ≡ false
    → (b : ℕ) → class b ≡ true → needs_escape b ≡ false
plain_in class control quote slash b is =
    rw (above (cases_order b 32), not_that class 34 quote b is, not_that class 92 slash b is) refl
  where
    above : (b ≡ 32) ⊎ ((b < 32) ⊎ (32 < b)) → nat_le 32 b ≡ true
    above (inl e) = le-leb 32 b (omega arith)
    above (inr (inl below)) = absurd (subst (λ t. T (not t)) is (upto_sound (λ x. not (class x)) 32 control b below))
    above (inr (inr over)) = le-leb 32 b (omega arith)

pub entry_is_kept : (e : Entry) → IsLabel e.label → e.amount < 2 ^ 64 → escape (quantity_text e) ≡ quantity_text e
entry_is_kept e is small =
    kept (quantity_text e)
    (All-append (λ b. needs_escape b ≡ false) e.label (58 ∷ amount_text e.amount) (label_has_none needs_escape e.label is (plain_in is_label_byte tt refl refl))
    (All-cons (λ b. needs_escape b ≡ false) 58 (amount_text e.amount) refl (amount_has_none needs_escape e.amount small (plain_in is_amount_byte tt refl refl))))

-- ---- the remaining entries

-- texts with `;` before each
abbrev behind : List Text → Text
behind [] = []
behind (x ∷ xs) = 59 ∷ join_with_byte 59 (x ∷ xs)

joined_behind : (x : Text) (xs : List Text) → join_with_byte 59 (x ∷ xs) ≡ x ++ behind xs
joined_behind x [] = sym (append-nil x)
joined_behind x (y ∷ ys) = refl

abbrev shown : List Entry → List Text
shown entries = map quantity_text (without_zeros entries)

left_is : (has_any : Bool) (entries : List Entry)
    → left_amounts has_any entries ≡ escape (cond has_any (behind (shown entries)) (join_with_byte 59 (shown entries)))
unfolding escape_byte
left_is true [] = refl
left_is false [] = refl
left_is has_any (e ∷ es) = by (nat_lt 0 e.amount) refl (left_is has_any es) (left_is true es)
  where
    first : left_amounts true es ≡ escape (behind (shown es))
        → escape (quantity_text e) ++ left_amounts true es ≡ escape (join_with_byte 59 (quantity_text e ∷ shown es))
    first rest =
        ap (λ (t : Text). escape (quantity_text e) ++ t) rest ∙ sym (flat_map-append escape_byte (quantity_text e) (behind (shown es)))
        ∙ ap escape (sym (joined_behind (quantity_text e) (shown es)))

    at : (b : Bool) → left_amounts true es ≡ escape (behind (shown es))
        → cond b (59 ∷ []) [] ++ (escape (quantity_text e) ++ left_amounts true es)
        ≡ escape (cond b (behind (quantity_text e ∷ shown es)) (join_with_byte 59 (quantity_text e ∷ shown es)))
    at false rest = first rest
    at true rest = ap (λ (t : Text). 59 ∷ t) (first rest)

    by : (above : Bool) → nat_lt 0 e.amount ≡ above → left_amounts has_any es ≡ escape (cond has_any (behind (shown es)) (join_with_byte 59 (shown es)))
        → left_amounts true es ≡ escape (behind (shown es))
        → left_amounts has_any (e ∷ es) ≡ escape (cond has_any (behind (shown (e ∷ es))) (join_with_byte 59 (shown (e ∷ es))))
    by false low same rest = rw low same
    by true high same rest = rw high (at has_any rest)

pub entries_begun : (entries : List Entry) → left_amounts false entries ≡ escape (amounts_text entries)
entries_begun entries = left_is false entries
