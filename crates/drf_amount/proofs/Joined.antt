-- Joining parts to a base, for any type of amounts.
use Rattle.std.proofs.Common.{◌≡◌, ℕ, List, [], ◌∷◌, ◌++◌, Option, Some, None, Bool, true, false, cond, option_and_then, IfSome, All, refl, sym, ap, ◌∙◌}
use Rattle.std.specs.Map.{lookup, remove_entry, values_of}
use Rattle.std.proofs.lemmas.List.Elements.{All-head, All-tail}
use Rattle.std.proofs.lemmas.Map.Views.{IfSome-lookup_from_All, All-map-remove_entry}
use Rattle.std.proofs.lemmas.Option.{same_Some}
use Rattle.drf_amount.specs.declared.algebra.AlgebraFault.{AlgebraFault}
use Rattle.drf_amount.specs.Algebra.{AlgebraLaws}
use Rattle.drf_amount.specs.Pool.{joined_with}

-- one step of a chain of options after another
pub and_then-and_then : {A B C : Type 0} (f : A → Option B) (g : B → Option C) (o : Option A) → option_and_then (λ a. option_and_then g (f a)) o ≡ option_and_then g (option_and_then f o)
and_then-and_then f g None = refl
and_then-and_then f g (Some a) = refl

pub and_then-Some : {A : Type 0} (o : Option A) → option_and_then Some o ≡ o
and_then-Some None = refl
and_then-Some (Some a) = refl

-- one more part, joined to the base
pub joined_with-push : {A : Type 0} (join : A → A → Option A) (base whole : A) (parts : List (ℕ × A)) (number : ℕ) (part : A) → join base part ≡ Some whole → joined_with join base (parts ++ (number, part) ∷ []) ≡ joined_with join whole parts
joined_with-push join base whole [] number part joined = joined
joined_with-push join base whole (first ∷ parts) number part joined =
    ap (option_and_then (λ rest. join rest first.1)) (joined_with-push join base whole parts number part joined)

module _ {A : Type 0} {is_given : A → Type 0} {empty : A} {join : A → A → Option A} {refusal : A → A → Option AlgebraFault} {amount : A → ℕ} (laws : AlgebraLaws is_given empty join refusal amount) where
  -- the join of given amounts, if there is one, is given
  IfSome-join : (a b : A) → is_given a → is_given b → IfSome (join a b) is_given
  IfSome-join a b a_given b_given = elim (join a b) as (λ o. join a b ≡ o → IfSome o is_given) [ None ↦ λ _. tt | Some c ↦ λ joined. laws.join_given a b c a_given b_given joined ] refl

  IfSome-and_then : (o : Option A) (b : A) → IfSome o is_given → is_given b → IfSome (option_and_then (λ a. join a b) o) is_given
  IfSome-and_then None b _ _ = tt
  IfSome-and_then (Some a) b a_given b_given = IfSome-join a b a_given b_given

  -- the join of a base and parts is given, if there is one
  pub IfSome-joined_with : (base : A) (parts : List (ℕ × A)) → is_given base → All is_given (values_of parts) → IfSome (joined_with join base parts) is_given
  IfSome-joined_with base [] base_given _ = base_given
  IfSome-joined_with base (part ∷ parts) base_given given =
      IfSome-and_then (joined_with join base parts) part.1 (IfSome-joined_with base parts base_given (All-tail is_given part.1 (values_of parts) given)) (All-head is_given part.1 (values_of parts) given)

  -- a part that is found is given, and so are the others
  pub given-found : (test : ℕ → Bool) (parts : List (ℕ × A)) (part : A) → All is_given (values_of parts) → lookup test parts ≡ Some part → is_given part
  given-found test parts part given found = rw found at (IfSome-lookup_from_All is_given test parts given)

  pub given-without : (test : ℕ → Bool) (parts : List (ℕ × A)) → All is_given (values_of parts) → All is_given (values_of (remove_entry test parts))
  given-without test parts given = All-map-remove_entry test (λ (part : ℕ × A). part.1) is_given parts given

  -- two amounts can be joined in either order
  in_either_order : (o : Option A) (b c : A) → IfSome o is_given → is_given b → is_given c → option_and_then (λ ab. join ab c) (option_and_then (λ a. join a b) o) ≡ option_and_then (λ ac. join ac b) (option_and_then (λ a. join a c) o)
  in_either_order None b c _ _ _ = refl
  in_either_order (Some a) b c a_given b_given c_given =
      laws.associative a b c a_given b_given c_given ∙ ap (option_and_then (join a)) (laws.commutative b c b_given c_given) ∙ sym (laws.associative a c b a_given c_given b_given)

  -- an amount that is joined to the base can be joined last instead
  pub joined_with-base : (base b : A) (parts : List (ℕ × A)) → is_given base → is_given b → All is_given (values_of parts) → option_and_then (λ more. joined_with join more parts) (join base b) ≡ option_and_then (λ whole. join whole b) (joined_with join base parts)
  joined_with-base base b [] base_given b_given _ = and_then-Some (join base b)
  joined_with-base base b (part ∷ parts) base_given b_given given =
      let part_given = All-head is_given part.1 (values_of parts) given in
      let rest_given = All-tail is_given part.1 (values_of parts) given in
      and_then-and_then (λ more. joined_with join more parts) (λ rest. join rest part.1) (join base b)
      ∙ ap (option_and_then (λ rest. join rest part.1)) (joined_with-base base b parts base_given b_given rest_given)
      ∙ in_either_order (joined_with join base parts) b part.1 (IfSome-joined_with base parts base_given rest_given) b_given part_given

  -- a part of the list can be joined last instead
  pub joined_with-without : (base : A) (parts : List (ℕ × A)) (test : ℕ → Bool) (part : A) → is_given base → All is_given (values_of parts) → lookup test parts ≡ Some part → joined_with join base parts ≡ option_and_then (λ whole. join whole part) (joined_with join base (remove_entry test parts))
  joined_with-without base [] test part base_given given found = cc
  joined_with-without base (first ∷ parts) test part base_given given found =
      let first_given = All-head is_given first.1 (values_of parts) given in
      let rest_given = All-tail is_given first.1 (values_of parts) given in
      elim (test first.0) as (λ b. cond b (Some first.1) (lookup test parts) ≡ Some part → joined_with join base (first ∷ parts) ≡ option_and_then (λ whole. join whole part) (joined_with join base (cond b parts (first ∷ remove_entry test parts)))) [
        | true ↦ λ found. ap (λ a. option_and_then (λ rest. join rest a) (joined_with join base parts)) (same_Some first.1 part found)
        | false ↦ λ found.
            ap (option_and_then (λ rest. join rest first.1)) (joined_with-without base parts test part base_given rest_given found)
            ∙ in_either_order (joined_with join base (remove_entry test parts)) part first.1 (IfSome-joined_with base (remove_entry test parts) base_given (given-without test parts rest_given)) (given-found test parts part rest_given found) first_given
      ] found
