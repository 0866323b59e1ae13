-- Pieces made of a head and a body with `:` between them, and when they have no errors.
use Rattle.std.proofs.Common.{◌≡◌, ℕ, Bool, true, false, cond, eqb, [], ◌∷◌, ◌++◌, ◌&&◌, Some, None, refl, sym, ap, subst, ◌∙◌, not}
use Rattle.std.proofs.lemmas.List.Elements.{All-head}
use Rattle.std.proofs.lemmas.List.Folds.{list_any_none}
use Rattle.std.specs.List.{list_any}
use Rattle.drf_text.proofs.Names.{Text, is_blank, trimmed, is_label_byte, is_label, HasNone, not_that, label_has_none, begins, head_of, body_of, name_of, is_reserved, is_head, is_body, members_are_labels, has_numbers, first_fault, Syntax, BadName, BadRole, BadNumber}
use Rattle.drf_role.specs.Name.{IsLabel}
use Rattle.drf_text.proofs.CutLemmas.{not_blank, trimmed_stays, before_at, after_at, any_at_mark, position_none}
use Rattle.drf_role.proofs.TestLaws.{label_decides}
use Rattle.drf_text.proofs.Numbers.{all_before}

-- ---- labels

pub label_test : (label : Text) → IsLabel label → is_label label ≡ true
label_test label is = (label_decides label).1 is

pub label_without : (c : ℕ) (label : Text) → IsLabel label → is_label_byte c ≡ false → HasNone (λ b. eqb b c) label
label_without c label is out = label_has_none (λ b. eqb b c) label is (not_that is_label_byte c out)

-- ---- head and body

pub head_found : (head body : Text) → HasNone (λ b. eqb b 58) head → HasNone is_blank head → head_of (head ++ 58 ∷ body) ≡ head
head_found head body no_colon no_blank = ap trimmed (before_at (λ b. eqb b 58) head 58 body no_colon refl) ∙ trimmed_stays head no_blank

pub body_found : (head body : Text) → HasNone (λ b. eqb b 58) head → HasNone is_blank body → body_of (head ++ 58 ∷ body) ≡ body
body_found head body no_colon no_blank = ap trimmed (after_at (λ b. eqb b 58) head 58 body no_colon refl) ∙ trimmed_stays body no_blank

-- a name is the name of a head that consists of it
pub name_alone : (label : Text) → IsLabel label → name_of label ≡ label
name_alone label is =
    let none = label_without 40 label is refl in
    ap trimmed (all_before (λ b. eqb b 40) label (position_none (λ b. eqb b 40) label none)).1
    ∙ trimmed_stays label (label_has_none is_blank label is (not_blank is_label_byte refl refl))

-- a head without errors
pub record IsRightHead (is_bad_role : Text → Bool) (head : Text) : Type 0 where
  pub shape : is_head head ≡ true
  pub name : is_label (name_of head) ≡ true
  pub role : is_bad_role head ≡ false

pub not_reserved : (label : Text) → IsLabel label → is_reserved label ≡ false
not_reserved label is = list_any_none (λ b. eqb b 40) label (label_without 40 label is refl)

-- a head that consists of a name has no errors
pub label_head : (is_bad_role : Text → Bool) (label : Text) → IsLabel label → is_bad_role label ≡ false → IsRightHead is_bad_role label
label_head is_bad_role label is role = record {
  shape = rw (not_reserved label is, list_any_none (λ b. eqb b 41) label (label_without 41 label is refl)) refl;
  name = ap is_label (name_alone label is) ∙ label_test label is;
  role = role;
}

-- a body without errors
pub record IsRightBody (body : Text) : Type 0 where
  pub shape : is_body body ≡ true
  pub members : members_are_labels body ≡ true
  pub numbers : has_numbers body ≡ true

fault_none : (is_bad_role : Text → Bool) (piece : Text) → list_any (λ b. eqb b 58) piece ≡ true → IsRightHead is_bad_role (head_of piece)
    → IsRightBody (body_of piece) → first_fault piece (is_bad_role (head_of piece)) ≡ None
fault_none is_bad_role piece colon head body =
    λ i. cond (not (colon i && head.shape i && body.shape i)) (Some Syntax)
    (cond (not (head.name i && body.members i)) (Some BadName) (cond (head.role i) (Some BadRole) (cond (not (body.numbers i)) (Some BadNumber) None)))

pub right_piece : (is_bad_role : Text → Bool) (head body : Text) → HasNone (λ b. eqb b 58) head → HasNone is_blank head → HasNone is_blank body
    → IsRightHead is_bad_role head → IsRightBody body → first_fault (head ++ 58 ∷ body) (is_bad_role (head_of (head ++ 58 ∷ body))) ≡ None
right_piece is_bad_role head body no_colon no_blank no_blank_too right_head right_body =
    fault_none is_bad_role (head ++ 58 ∷ body) (any_at_mark (λ b. eqb b 58) head 58 body no_colon refl)
    (subst (IsRightHead is_bad_role) (sym (head_found head body no_colon no_blank)) right_head)
    (subst IsRightBody (sym (body_found head body no_colon no_blank_too)) right_body)

pub begins_not : (c : ℕ) (text : Text) → eqb 0 c ≡ false → HasNone (λ b. eqb b c) text → begins c text ≡ false
begins_not c [] zero none = zero
begins_not c (b ∷ bs) zero none = All-head (λ x. eqb x c ≡ false) b bs none
