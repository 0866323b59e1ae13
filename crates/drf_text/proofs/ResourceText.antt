-- The written form of a resource is a piece without errors that describes this resource.
use Rattle.std.proofs.Common.{◌≡◌, ℕ, ◌-◌, Bool, true, false, cond, take, eqb, [], ◌∷◌, ◌++◌, ◌&&◌, length, None, inl, inr, refl, sym, ap, ◌∙◌, append_assoc, arith, length-append, not}
use Rattle.std.proofs.lemmas.Bool.{cases_Bool}
use Rattle.std.proofs.lemmas.List.Elements.{All-nil, All-cons, All-append}
use Rattle.std.specs.List.{list_any}
use Rattle.drf_role.specs.Parts.{parts_of, text_of}
use Rattle.drf_role.specs.PathLaws.{same_path-true}
use Rattle.drf_role.specs.Role.{IsComponentByte, IsRolePath, default_role}
use Rattle.drf_text.proofs.Names.{Text, Resource, is_blank, trimmed, is_label_byte, is_label, is_role, HasNone, label_has_none, ends, is_reserved, head_of, body_of, name_of, role_text_of, role_of, value_of, has_bad_role, fault_of, resource_of, head_text, value_text, resource_text}
use Rattle.drf_bundle.specs.Bundle.{is_default, IsResource}
use Rattle.drf_text.proofs.CutLemmas.{is_between, not_between, no_blanks, IsPart, trimmed_stays, before_at, after_at, any_at_mark, take_all_but_last, ends_closed}
use Rattle.drf_text.proofs.PieceLemmas.{label_test, label_without, head_found, body_found, name_alone, not_reserved, label_head, IsRightHead, right_piece}
use Rattle.drf_text.proofs.RoleText.{component_no_colon, component_no_blank, component_not_between, role_test, role_has_none, reserved_path}
use Rattle.drf_text.proofs.ValueText.{IsTextOf, value_found}

-- the text is a head without errors, and has this name and role
record IsHeadOf (r : Resource) (head : Text) : Type 0 where
  pub right : IsRightHead has_bad_role head
  pub name : name_of head ≡ r.label
  pub role : role_of head ≡ r.role
  pub no_colon : HasNone (λ b. eqb b 58) head
  pub whole : HasNone (is_between 59) head

module _ (r : Resource) (is : IsResource r) where
  label_whole : HasNone (is_between 59) r.label
  label_whole = label_has_none (is_between 59) r.label is.label (not_between is_label_byte 59 refl refl refl)

  unreserved_head : is_default r.role ≡ true → IsHeadOf r r.label
  unreserved_head default =
      let alone = not_reserved r.label is.label in
      record {
        right = label_head has_bad_role r.label is.label (ap (λ (b : Bool). b && not (is_role (role_text_of r.label))) alone);
        name = name_alone r.label is.label;
        role = ap (λ (b : Bool). cond b (parts_of (role_text_of r.label)) default_role) alone ∙ sym (same_path-true r.role default_role default);
        no_colon = label_without 58 r.label is.label refl;
        whole = label_whole;
      }

  -- the name, and the role in parentheses
  abbrev in_parentheses : Text
  in_parentheses = r.label ++ 40 ∷ text_of r.role ++ 41 ∷ []

  parentheses_have_none : (p : ℕ → Bool) → IsRolePath r.role → HasNone p r.label → p 40 ≡ false → p 41 ≡ false → p 47 ≡ false
      → ((b : ℕ) → IsComponentByte b → p b ≡ false) → HasNone p in_parentheses
  parentheses_have_none p path label first last slash apart =
      All-append (λ b. p b ≡ false) (r.label ++ 40 ∷ text_of r.role) (41 ∷ [])
      (All-append (λ b. p b ≡ false) r.label (40 ∷ text_of r.role) label (All-cons (λ b. p b ≡ false) 40 (text_of r.role) first (role_has_none p r.role path slash apart)))
      (All-cons (λ b. p b ≡ false) 41 [] last (All-nil (λ b. p b ≡ false)))

  reserved_head : is_default r.role ≡ false → IsHeadOf r in_parentheses
  reserved_head other = record {
    right = record {
      shape =
          ap (λ (b : Bool). cond b (ends 41 in_parentheses) (not (list_any (λ b. eqb b 41) in_parentheses))) reserved
          ∙ ends_closed 41 (r.label ++ 40 ∷ text_of r.role);
      name = ap is_label name ∙ label_test r.label is.label;
      role = (λ i. reserved i && not (is_role (role_text i))) ∙ ap not (role_test r.role is.role is.role_read);
    };
    name = name;
    role = (λ i. cond (reserved i) (parts_of (role_text i)) default_role) ∙ is.role_read;
    no_colon = parentheses_have_none (λ b. eqb b 58) path (label_without 58 r.label is.label refl) refl refl refl component_no_colon;
    whole = parentheses_have_none (is_between 59) path label_whole refl refl refl component_not_between;
  }
    where
      path : IsRolePath r.role
      path = reserved_path r.role is.role other

      no_open : HasNone (λ b. eqb b 40) r.label
      no_open = label_without 40 r.label is.label refl

      cut : in_parentheses ≡ r.label ++ 40 ∷ (text_of r.role ++ 41 ∷ [])
      cut = append_assoc r.label (40 ∷ text_of r.role) (41 ∷ [])

      reserved : is_reserved in_parentheses ≡ true
      reserved = ap is_reserved cut ∙ any_at_mark (λ b. eqb b 40) r.label 40 (text_of r.role ++ 41 ∷ []) no_open refl

      name : name_of in_parentheses ≡ r.label
      name =
          ap name_of cut
          ∙ ap trimmed (before_at (λ b. eqb b 40) r.label 40 (text_of r.role ++ 41 ∷ []) no_open refl)
          ∙ trimmed_stays r.label (no_blanks 59 r.label label_whole)

      role_text : role_text_of in_parentheses ≡ text_of r.role
      role_text =
          ap role_text_of cut
          ∙ ap (λ (rest : Text). trimmed (take (length rest - 1) rest)) (after_at (λ b. eqb b 40) r.label 40 (text_of r.role ++ 41 ∷ []) no_open refl)
          ∙ ap trimmed (take_all_but_last (text_of r.role) 41)
          ∙ trimmed_stays (text_of r.role) (role_has_none is_blank r.role path refl component_no_blank)

  head_is : IsHeadOf r (head_text r)
  head_is = elim (cases_Bool (is_default r.role)) [
    | inl default ↦ rw default (unreserved_head default)
    | inr other ↦ rw other (reserved_head other)
  ]

-- the text is a piece without errors, and describes this resource
pub record IsPieceOf (r : Resource) (text : Text) : Type 0 where
  pub fault : fault_of text ≡ None
  pub says : resource_of text ≡ r
  pub part : IsPart 59 text

head_and_value : (r : Resource) (head value : Text) → IsHeadOf r head → IsTextOf r.value value → IsPieceOf r (head ++ 58 ∷ value)
head_and_value r head value is_head is_value = record {
  fault = right_piece has_bad_role head value is_head.no_colon no_blank no_blank_too is_head.right is_value.body;
  says = λ i. record { label = name i; role = role i; value = said i };
  part = record {
    some = omega (arith, length-append head (58 ∷ value));
    whole = All-append (λ b. is_between 59 b ≡ false) head (58 ∷ value) is_head.whole (All-cons (λ b. is_between 59 b ≡ false) 58 value refl is_value.whole);
  };
}
  where
    no_blank : HasNone is_blank head
    no_blank = no_blanks 59 head is_head.whole

    no_blank_too : HasNone is_blank value
    no_blank_too = no_blanks 59 value is_value.whole

    head_is_found : head_of (head ++ 58 ∷ value) ≡ head
    head_is_found = head_found head value is_head.no_colon no_blank

    name : name_of (head_of (head ++ 58 ∷ value)) ≡ r.label
    name = ap name_of head_is_found ∙ is_head.name

    role : role_of (head_of (head ++ 58 ∷ value)) ≡ r.role
    role = ap role_of head_is_found ∙ is_head.role

    said : value_of (body_of (head ++ 58 ∷ value)) ≡ r.value
    said = ap value_of (body_found head value is_head.no_colon no_blank_too) ∙ is_value.says

pub resource_found : (r : Resource) → IsResource r → IsPieceOf r (resource_text r)
resource_found r resource = head_and_value r (head_text r) (value_text r.value) (head_is r resource) (value_found r.value resource.value)
