-- The work of several calls, one after another.
use Rattle.std.specs.Prelude.{◌≡◌, ◌≤◌, ◌+◌, ℕ, Bool, Result}
use Rattle.std.proofs.Common.{Ok, Err, ap, arith}
use Rattle.drf_sorter.specs.Work.{Work, Defers, DefersOnOk, OwesAtMost, Spends, SpendsOnOk, debt}

module _ {counted : Bool} {old new : Work} where
  pub spends-nothing : new ≡ old → Spends counted old new 0
  spends-nothing same = record {
    made = omega (arith, ap (λ (w : Work). w.made) same);
    work = λ is. omega (arith, ap debt same);
  }

  pub defers-nothing : new ≡ old → Defers counted old new 0
  defers-nothing same = record {
    made = ap (λ (w : Work). w.made) same;
    work = λ is. omega (arith, ap debt same);
  }

module _ {counted : Bool} {old mid new : Work} {first second : ℕ} where
  pub spends-both : Spends counted old mid first → Spends counted mid new second → Spends counted old new (first + second)
  spends-both a b = record {
    made = omega (arith, a.made, b.made);
    work = λ is. omega (arith, a.work is, b.work is);
  }

  pub defers-both : Defers counted old mid first → Defers counted mid new second → Defers counted old new (first + second)
  defers-both a b = record {
    made = omega (arith, a.made, b.made);
    work = λ is. omega (arith, a.work is, b.work is);
  }

module _ {counted : Bool} {old new : Work} {most : ℕ} where
  pub spends-within : {more : ℕ} → Spends counted old new most → most ≤ more → Spends counted old new more
  spends-within so less = record { made = so.made; work = λ is. omega (arith, so.work is, less) }

  pub defers-within : {more : ℕ} → Defers counted old new most → most ≤ more → Defers counted old new more
  defers-within so less = record { made = so.made; work = λ is. omega (arith, so.work is, less) }

-- if at most `most` keys are stale after the call
pub defers-stale : {counted : Bool} {old new : Work} (most : ℕ) → new.made ≡ old.made → OwesAtMost counted new most → Defers counted old new most
defers-stale most made stale = record { made = made; work = λ is. omega (arith, made, stale is) }

-- what holds in any case holds if the call succeeds
module _ {T E : Type 0} {counted : Bool} {old new : Work} {most : ℕ} where
  pub spends-on_ok : (result : Result T E) → Spends counted old new most → SpendsOnOk counted result old new most
  spends-on_ok (Ok done) so = record { made = so.made; work = so.work }
  spends-on_ok (Err error) so = record { made = so.made; work = tt }

  pub defers-on_ok : (result : Result T E) → Defers counted old new most → DefersOnOk counted result old new most
  defers-on_ok (Ok done) so = record { made = so.made; work = so.work }
  defers-on_ok (Err error) so = record { made = so.made; work = tt }

  -- what holds if the call succeeds
  pub spends-at_ok : {done : T} → SpendsOnOk {T = T} {E = E} counted (Ok done) old new most → Spends counted old new most
  spends-at_ok so = record { made = so.made; work = so.work }
