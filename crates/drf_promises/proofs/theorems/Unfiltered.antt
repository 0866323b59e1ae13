-- If no filter is in force, nothing is covered by one, and later none is in force except those that are set.
use Rattle.std.specs.Prelude.{◌≡◌, ℕ, ◌≤◌, Bool, true, false, List, [], ◌∷◌, ◌++◌, filter, if◌then◌else◌, nat_lt}
use Rattle.std.specs.List.{AllByRecursion}
use Rattle.std.proofs.Common.{refl, sym, ap, ◌∙◌, inl, inr, arith}
use Rattle.std.proofs.lemmas.Bool.{cases_Bool, lt-ltb, ltb-true}
use Rattle.std.proofs.lemmas.Bool.Decides.{nat_tests}
use Rattle.drf_role.specs.Text.{Text}
use Rattle.drf_bundle.specs.declared.resource.Resource.{Resource}
use Rattle.drf_rows.specs.Client.{Client}
use Rattle.drf_rows.specs.Filters.{in_force, is_held_back}
use Rattle.drf_rows.specs.Offers.{filtered_until}
use Rattle.drf_row_laws.proofs.FilterLaws.{held_back-in_force, in_force-later, in_force-left}
use Rattle.drf_rows.specs.declared.rows.FilterRow.{FilterRow}

module _ (now : ℕ) (fs : List FilterRow) (none : in_force now fs ≡ []) where
  pub unheld : (later : ℕ) → now ≤ later → (client : Client) (agent : Text) (bundle : List Resource) → is_held_back fs later client agent bundle ≡ false
  unheld later le client agent bundle =
      sym (held_back-in_force fs now later client agent bundle le) ∙ ap (λ (gs : List FilterRow). is_held_back gs later client agent bundle) none

  pub unfiltered_later : (later : ℕ) → now ≤ later → in_force later fs ≡ []
  unfiltered_later later le = sym (in_force-later now later fs le) ∙ ap (in_force later) none

  pub unfiltered_left : (p : FilterRow → Bool) → in_force now (filter p fs) ≡ []
  unfiltered_left p = sym (in_force-left now now p fs (omega arith)) ∙ ap (λ (gs : List FilterRow). in_force now (filter p gs)) none

-- all of them have expired
pub ran_out : (now : ℕ) (fs : List FilterRow) → in_force now fs ≡ [] → AllByRecursion (λ f. f.until ≤ now) fs
ran_out now [] none = tt
ran_out now (f ∷ fs) none = elim (cases_Bool (nat_lt now f.until)) [
  | inl here ↦ let some : f ∷ in_force now fs ≡ [] = rw here at none in cc
  | inr past ↦ (grind (arith, nat_tests), ran_out now fs (rw past at none))
]

-- a filter that is set with a positive `refuse_ms` is in force
pub set_in_force : (clock refuse_ms : ℕ) → nat_lt 0 refuse_ms ≡ true → nat_lt clock (filtered_until clock refuse_ms) ≡ true
set_in_force clock refuse_ms some = lt-ltb clock (filtered_until clock refuse_ms) (omega (arith, ltb-true 0 refuse_ms some))

module _ (now : ℕ) where
  -- so if none is in force afterwards, none was set
  pub no_filter : (b : Bool) (fs : List FilterRow) (f : FilterRow) → (b ≡ true → nat_lt now f.until ≡ true)
      → in_force now (if b then fs ++ f ∷ [] else fs) ≡ [] → b ≡ false
  no_filter false fs f lasts none = refl
  no_filter true [] f lasts none = let some : f ∷ [] ≡ [] = rw (lasts refl) at none in cc
  no_filter true (x ∷ fs) f lasts none = elim (cases_Bool (nat_lt now x.until)) [
    | inl here ↦ let some : x ∷ in_force now (fs ++ f ∷ []) ≡ [] = rw here at none in cc
    | inr past ↦ no_filter true fs f lasts (rw past at none)
  ]

  pub unfiltered_still : (b : Bool) (fs : List FilterRow) (f : FilterRow) → b ≡ false → in_force now fs ≡ [] → in_force now (if b then fs ++ f ∷ [] else fs) ≡ []
  unfiltered_still true fs f never none = cc
  unfiltered_still false fs f never none = none
