-- The tests for names, labels and roles are exact.
use Rattle.std.proofs.Common.{◌≡◌, ◌≢◌, ℕ, ◌≤◌, Bool, true, eqb, leb, List, [], ◌∷◌, length, All, Decides, Some, codes, refl, sym, ap, subst, ◌∙◌, inl, inr, ⊎_elim, arith, get_or}
use Rattle.std.specs.Prelude.{◌&&◌}
use Rattle.std.specs.Int.{IsInRange, is_in_range}
use Rattle.std.specs.List.{list_all, slice_get}
use Rattle.std.proofs.lemmas.Bool.{leb-true, le-leb, eq-eqb, eqb-true}
use Rattle.std.proofs.lemmas.Bool.Decides.{Decides-eqb, Decides-or, Decides-and, Decides-by_and, Decides-like, Decides-not}
use Rattle.std.proofs.lemmas.List.Splits.{join_with_byte-slice_split, length-slice_split}
use Rattle.std.proofs.lemmas.Option.{none-some, same_Some}
use Rattle.drf_role.specs.Text.{Text, same_text}
use Rattle.drf_role.specs.TextLaws.{same_from_test, test_from_same}
use Rattle.drf_role.specs.Name.{IsNameByte, IsLabelByte, IsName, IsLabel}
use Rattle.drf_role.specs.Parts.{parts_of, text_of}
use Rattle.drf_role.specs.Role.{IsComponentByte, IsComponent, IsRolePath, IsRole, IsRoleText, default_role}
use Rattle.drf_role.specs.Tests.{is_name_byte, is_label_byte, is_name, is_label, is_component_byte, is_component, is_role}

decides_le : (a b : ℕ) → Decides (leb a b) (a ≤ b)
decides_le a b = (leb-true a b, le-leb a b)

decides_range : (low high c : ℕ) → Decides (is_in_range low high c) (IsInRange low high c)
decides_range low high c = Decides-and _ _ (decides_le low c) (decides_le c high)

decides_same : (text word : Text) → Decides (same_text text word) (text ≡ word)
decides_same text word = (same_from_test text word, test_from_same text word)

all_decide : {X : Type 0} (p : X → Bool) (P : X → Type 0) → ((x : X) → Decides (p x) (P x)) → (xs : List X) → Decides (list_all p xs) (All P xs)
all_decide p P each xs = Decides-by_and p P (list_all p) each refl (λ _ _. refl) xs

-- ---- names and labels

name_byte : (b : ℕ) → Decides (is_name_byte b) (IsNameByte b)
name_byte b =
    Decides-or _ _ (Decides-or _ _ (Decides-or _ _ (decides_range 48 57 b) (decides_range 65 90 b)) (decides_range 97 122 b))
    (Decides-or _ _ (Decides-eqb b 95) (Decides-or _ _ (Decides-eqb b 45) (Decides-eqb b 46)))

label_byte : (b : ℕ) → Decides (is_label_byte b) (IsLabelByte b)
label_byte b = Decides-or _ _ (name_byte b) (Decides-eqb b 47)

pub name_decides : (text : Text) → Decides (is_name text) (IsName text)
name_decides text =
    Decides-like _ (λ h. record { not_empty = h.0; short = h.1.0; alphabet = h.1.1 }) (λ h. (h.not_empty, (h.short, h.alphabet)))
    (Decides-and _ _ (decides_le 1 (length text)) (Decides-and _ _ (decides_le (length text) 64) (all_decide is_name_byte IsNameByte name_byte text)))

pub label_decides : (text : Text) → Decides (is_label text) (IsLabel text)
label_decides text =
    Decides-like _ (λ h. record { not_empty = h.0; short = h.1.0; alphabet = h.1.1 }) (λ h. (h.not_empty, (h.short, h.alphabet)))
    (Decides-and _ _ (decides_le 1 (length text)) (Decides-and _ _ (decides_le (length text) 64) (all_decide is_label_byte IsLabelByte label_byte text)))

-- ---- roles

component_byte : (b : ℕ) → Decides (is_component_byte b) (IsComponentByte b)
component_byte b =
    Decides-like _
    (λ h. record {
      visible = h.0;
      no_slash = λ e. h.1 (inl e);
      no_open = λ e. h.1 (inr (inl e));
      no_close = λ e. h.1 (inr (inr (inl e)));
      no_colon = λ e. h.1 (inr (inr (inr (inl e))));
      no_semicolon = λ e. h.1 (inr (inr (inr (inr e))));
    })
    (λ h. (h.visible, ⊎_elim h.no_slash (⊎_elim h.no_open (⊎_elim h.no_close (⊎_elim h.no_colon h.no_semicolon)))))
    (Decides-and _ _ (decides_range 33 126 b)
    (Decides-not _ (Decides-or _ _ (Decides-eqb b 47) (Decides-or _ _ (Decides-eqb b 40) (Decides-or _ _ (Decides-eqb b 41) (Decides-or _ _ (Decides-eqb b 58) (Decides-eqb b 59)))))))

some_byte : (text : Text) → Decides (leb 1 (length text)) (text ≢ [])
some_byte [] = (λ h. absurd (omega (arith, leb-true 1 0 h)), λ none. absurd (none refl))
some_byte (b ∷ bs) = (λ _ e. absurd (omega (arith, ap length e)), λ _. le-leb 1 (length (b ∷ bs)) (omega arith))

first_byte : (text : Text) → Decides (eqb (get_or text 0 0) 45) (slice_get text 0 ≡ Some 45)
first_byte [] = (λ h. absurd (omega (arith, eqb-true 0 45 h)), λ e. absurd (none-some 45 e))
first_byte (b ∷ bs) = (λ h. ap Some (eqb-true b 45 h), λ e. eq-eqb b 45 (same_Some b 45 e))

component_decides : (text : Text) → Decides (is_component text) (IsComponent text)
component_decides text =
    Decides-like _
    (λ h. record {
      not_empty = h.0.0.0;
      no_dash = h.0.0.1;
      no_dot = λ e. h.0.1 (inl e);
      no_dots = λ e. h.0.1 (inr (inl e));
      no_star = λ e. h.0.1 (inr (inr e));
      alphabet = h.1;
    })
    (λ h. (((h.not_empty, h.no_dash), ⊎_elim h.no_dot (⊎_elim h.no_dots h.no_star)), h.alphabet))
    (Decides-and _ _ (Decides-and _ _ (Decides-and _ _ (some_byte text) (Decides-not _ (first_byte text)))
    (Decides-not _ (Decides-or _ _ (decides_same text (codes ".")) (Decides-or _ _ (decides_same text (codes "..")) (decides_same text (codes "*"))))))
    (all_decide is_component_byte IsComponentByte component_byte text))

text_again : (text : Text) → text_of (parts_of text) ≡ text
text_again text = join_with_byte-slice_split 47 text

path_decides : (text : Text) → Decides (leb (length text) 64 && (leb (length (parts_of text)) 8 && list_all is_component (parts_of text))) (IsRolePath (parts_of text))
path_decides text =
    Decides-like _
    (λ h. record {
      some = omega (arith, length-slice_split (λ b. eqb b 47) text);
      few = h.1.0;
      short = subst (λ (t : Text). length t ≤ 64) (sym (text_again text)) h.0;
      each = h.1.1;
    })
    (λ h. (subst (λ (t : Text). length t ≤ 64) (text_again text) h.short, (h.few, h.each)))
    (Decides-and _ _ (decides_le (length text) 64)
    (Decides-and _ _ (decides_le (length (parts_of text)) 8) (all_decide is_component IsComponent component_decides (parts_of text))))

default_decides : (text : Text) → Decides (same_text text (codes "*")) (parts_of text ≡ default_role)
default_decides text = (
  λ h. ap parts_of (same_from_test text (codes "*") h),
  λ e. test_from_same text (codes "*") (sym (text_again text) ∙ ap text_of e),
)

-- a text passes the test exactly if its parts are a role
pub role_decides : (text : Text) → Decides (is_role text) (IsRole (parts_of text))
role_decides text = Decides-or _ _ (default_decides text) (path_decides text)

pub role_from_test : (text : Text) → is_role text ≡ true → IsRoleText text
role_from_test text h = (parts_of text, (role_decides text).0 h, text_again text)
