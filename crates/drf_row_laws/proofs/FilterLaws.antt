-- What filters cover and how many are in force does not depend on filters that expired earlier.
use Rattle.std.specs.Prelude.{◌≡◌, ℕ, ◌≤◌, true, false, ◌&&◌, List, [], ◌∷◌, ◌++◌, filter, length, Bool, nat_lt}
use Rattle.std.proofs.Common.{refl, sym, ap, ◌∙◌, inl, inr, cond, arith}
use Rattle.std.proofs.lemmas.Bool.{cases_Bool, and_parts, ltb-true, lt-ltb}
use Rattle.std.proofs.lemmas.Bool.Decides.{nat_tests}
use Rattle.std.proofs.lemmas.List.Elements.{filter-append}
use Rattle.std.proofs.lemmas.List.Sums.{length-filter}
use Rattle.std.proofs.lemmas.Map.Views.{any-filter_same}
use Rattle.drf_role.specs.Text.{Text}
use Rattle.drf_bundle.specs.Bundle.{covers}
use Rattle.drf_bundle.specs.declared.resource.Resource.{Resource}
use Rattle.drf_rows.specs.Client.{Client}
use Rattle.drf_rows.specs.Filters.{is_in_force, in_force, number_in_force, is_of_client, is_on_agent, holds_back, is_held_back}
use Rattle.drf_bundle.proofs.ListLaws.{filter-swap}
use Rattle.drf_rows.specs.declared.rows.FilterRow.{FilterRow}

-- the filters in force at an earlier time decide what is covered at a later one
pub held_back-in_force : (filters : List FilterRow) (now later : ℕ) (client : Client) (agent : Text) (bundle : List Resource) → now ≤ later
    → is_held_back (in_force now filters) later client agent bundle ≡ is_held_back filters later client agent bundle
held_back-in_force filters now later client agent bundle le = any-filter_same (holds_back later client agent bundle) (is_in_force now) true passes filters
  where
    passes : (f : FilterRow) → holds_back later client agent bundle f ≡ true → is_in_force now f ≡ true
    passes f holds =
        let still : nat_lt later f.until ≡ true = (and_parts _ (is_of_client client f && (is_on_agent agent f && covers f.bundle bundle)) holds).0 in
        lt-ltb now f.until (omega (arith, le, ltb-true later f.until still))

-- the filters in force later are among those in force now
pub in_force-later : (now later : ℕ) (fs : List FilterRow) → now ≤ later → in_force later (in_force now fs) ≡ in_force later fs
in_force-later now later [] le = refl
in_force-later now later (f ∷ fs) le = elim (cases_Bool (nat_lt now f.until)) [
  | inl here ↦ rw here (ap (λ (gs : List FilterRow). cond (nat_lt later f.until) (f ∷ gs) gs) (in_force-later now later fs le))
  | inr past ↦
      let gone : nat_lt later f.until ≡ false = grind (arith, nat_tests) in
      rw (past, gone) (in_force-later now later fs le)
]

-- so their number is the same
pub number_in_force-later : (now later : ℕ) (fs : List FilterRow) → now ≤ later → number_in_force later (in_force now fs) ≡ number_in_force later fs
number_in_force-later now later fs le =
    sym (length-filter (is_in_force later) (in_force now fs)) ∙ ap length (in_force-later now later fs le) ∙ length-filter (is_in_force later) fs

-- the same after filters are removed or added
pub in_force-left : (now later : ℕ) (p : FilterRow → Bool) (fs : List FilterRow) → now ≤ later
    → in_force later (filter p (in_force now fs)) ≡ in_force later (filter p fs)
in_force-left now later p fs le =
    filter-swap (is_in_force later) p (in_force now fs)
    ∙ ap (filter p) (in_force-later now later fs le)
    ∙ filter-swap p (is_in_force later) fs

pub in_force-more : (now later : ℕ) (fs more : List FilterRow) → now ≤ later
    → in_force later (in_force now fs ++ more) ≡ in_force later (fs ++ more)
in_force-more now later fs more le =
    filter-append (is_in_force later) (in_force now fs) more
    ∙ ap (λ (gs : List FilterRow). gs ++ in_force later more) (in_force-later now later fs le)
    ∙ sym (filter-append (is_in_force later) fs more)
