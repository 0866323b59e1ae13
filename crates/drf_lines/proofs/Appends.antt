-- Texts that are appended, one after another.
use Rattle.std.proofs.Common.{◌≡◌, ◌<◌, ◌≤◌, ◌+◌, ℕ, true, List, [], ◌∷◌, ◌++◌, map, drop, get_or, length, Result, Ok, Err, IsUtf8, sym, ap, ◌∙◌, append_assoc, append-nil, cond, subst, arith}
use Rattle.std.specs.Io.{StartsWith}
use Rattle.std.specs.Prelude.{nat_lt}
use Rattle.std.specs.Result.{is_ok}
use Rattle.std.proofs.lemmas.Grind.{common_steps}
use Rattle.std.proofs.lemmas.Result.{on_ok_weaker}
use Rattle.serde_json.specs.Data.{Data, array, Members}
use Rattle.serde_json.specs.View.{items_of}
use Rattle.serde_json.specs.Written.{compact_text, members_text, comma_if}
use Rattle.drf_lines.specs.Written.{AppendsMembers, AppendsText, KeepsPrefix, KeepsUtf8}
use Rattle.drf_lines.proofs.ReplyTexts.{then, added_utf8, left_text, items_begun, item_more, items_ended}

still_begins : (old added prefix : List ℕ) → StartsWith old prefix → StartsWith (old ++ added) prefix
still_begins old added prefix begins = grind (arith, common_steps)

-- a vector that was extended
pub appended : {T E : Type 0} (r : Result T E) (old added : List ℕ) {new more : List ℕ} → new ≡ cond (is_ok r) (old ++ more) old → more ≡ added → IsUtf8 added
    → AppendsText r old new added
appended (Ok done) old added is same right =
    let whole = is ∙ ap (λ (bytes : List ℕ). old ++ bytes) same in
    record {
      ok = whole;
      prefix = λ prefix begins. subst (λ (bytes : List ℕ). StartsWith bytes prefix) (sym whole) (still_begins old added prefix begins);
      utf8 = added_utf8 old added whole right;
    }
appended (Err error) old added is same right = record {
  ok = tt;
  prefix = λ prefix begins. subst (λ (bytes : List ℕ). StartsWith bytes prefix) (sym is) begins;
  utf8 = tt;
}

-- appending nothing
pub nothing : {T E : Type 0} {done : T} {old : List ℕ} → AppendsText {T = T} {E = E} (Ok done) old old []
nothing {old = old} = record {
  ok = sym (append-nil old);
  prefix = λ prefix begins. begins;
  utf8 = λ right. right;
}

module _ {T U E F : Type 0} {done : T} {r : Result U F} {old mid new : List ℕ} where
  -- a text, and then another one
  pub and_then : {first second : List ℕ} → AppendsText {T = T} {E = E} (Ok done) old mid first → AppendsText r mid new second
      → AppendsText r old new (first ++ second)
  and_then {first = first} {second = second} a b = record {
    ok = on_ok_weaker r (λ end. then old first second a.ok end) b.ok;
    prefix = λ prefix begins. b.prefix prefix (a.prefix prefix begins);
    utf8 = on_ok_weaker r (λ keeps right. keeps (a.utf8 right)) b.utf8;
  }

  -- members, and the members after them
  pub and_more : {members : Members → Members} (more : Members) → AppendsMembers {T = T} {E = E} (Ok done) old mid members
      → AppendsText r mid new (members_text true more) → AppendsText r old new (members_text true (members more))
  and_more more a b = record {
    ok = on_ok_weaker r (λ end. end ∙ a.ok more) b.ok;
    prefix = λ prefix begins. b.prefix prefix (a.prefix prefix begins);
    utf8 = on_ok_weaker r (λ keeps right. keeps (a.utf8 right)) b.utf8;
  }

  -- a member, and then others
  pub and_members : {first : List ℕ} {others members : Members → Members}
      → ((more : Members) → first ++ members_text true (others more) ≡ members_text true (members more))
      → AppendsText {T = T} {E = E} (Ok done) old mid first → AppendsMembers r mid new others → AppendsMembers r old new members
  and_members {first = first} same a b = record {
    ok = on_ok_weaker r (λ end more. then old first _ a.ok (end more) ∙ ap (λ (text : List ℕ). old ++ text) (same more)) b.ok;
    prefix = λ prefix begins. b.prefix prefix (a.prefix prefix begins);
    utf8 = on_ok_weaker r (λ keeps right. keeps (a.utf8 right)) b.utf8;
  }

module _ {T E : Type 0} {r : Result T E} {old new : List ℕ} where
  -- three texts, grouped in another way
  pub regrouped : (first second third : List ℕ) → AppendsText r old new ((first ++ second) ++ third) → AppendsText r old new (first ++ (second ++ third))
  regrouped first second third = subst (λ (text : List ℕ). AppendsText r old new text) (append_assoc first second third)

  -- members as a text
  pub as_members : {text : List ℕ} {members : Members → Members} → ((more : Members) → text ++ members_text true more ≡ members_text true (members more))
      → AppendsText r old new text → AppendsMembers r old new members
  as_members {text = text} same a = record {
    ok = on_ok_weaker r
        (λ is more. ap (λ (bytes : List ℕ). bytes ++ members_text true more) is ∙ append_assoc old text (members_text true more) ∙ ap (λ (text : List ℕ). old ++ text) (same more))
        a.ok;
    prefix = a.prefix;
    utf8 = a.utf8;
  }

-- ---- the items of an array, one after another

-- these items were written, and with the remaining ones the text is complete
pub record AppendsItems {A : Type 0} (value : A → Data) (all : List A) (i : ℕ) (old now : List ℕ) : Type 0 where
  pub text : now ++ left_text value i (drop i all) ≡ old ++ compact_text (array (items_of (map value all)))
  pub prefix : KeepsPrefix old now
  pub utf8 : KeepsUtf8 old now

module _ {A : Type 0} {value : A → Data} {all : List A} {old : List ℕ} where
  pub opened : {T E : Type 0} {done : T} {now : List ℕ} → AppendsText {T = T} {E = E} (Ok done) old now (91 ∷ []) → AppendsItems value all 0 old now
  opened {now = now} a = record {
    text = items_begun value all old now a.ok;
    prefix = a.prefix;
    utf8 = a.utf8;
  }

  pub one_more : {T U E F : Type 0} {done : T} {finished : U} {i : ℕ} {x : A} {before mid now : List ℕ} → AppendsItems value all i old before
      → i < length all → x ≡ get_or all i x → AppendsText {T = T} {E = E} (Ok done) before mid (comma_if (nat_lt 0 i))
      → AppendsText {T = U} {E = F} (Ok finished) mid now (compact_text (value x)) → AppendsItems value all (i + 1) old now
  one_more {i = i} {x = x} {before = before} {mid = mid} {now = now} so_far inside is comma item = record {
    text = item_more value all i x _ before mid now inside is so_far.text comma.ok item.ok;
    prefix = λ prefix begins. item.prefix prefix (comma.prefix prefix (so_far.prefix prefix begins));
    utf8 = λ right. item.utf8 (comma.utf8 (so_far.utf8 right));
  }

  pub closed : {T E : Type 0} {r : Result T E} {i : ℕ} {before new : List ℕ} → AppendsItems value all i old before → length all ≤ i
      → AppendsText r before new (93 ∷ []) → AppendsText r old new (compact_text (array (items_of (map value all))))
  closed {r = r} {i = i} {before = before} {new = new} so_far past end = record {
    ok = on_ok_weaker r (λ is. items_ended value all i _ before new past so_far.text is) end.ok;
    prefix = λ prefix begins. end.prefix prefix (so_far.prefix prefix begins);
    utf8 = on_ok_weaker r (λ keeps right. keeps (so_far.utf8 right)) end.utf8;
  }
