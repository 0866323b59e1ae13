-- The state of a slate, as its contracts see it, and its name.
use Rattle.std.specs.Prelude.{ℕ, refl}
use Rattle.std.specs.Coded.{Coded, code_by, coded×, coded_ℕ}
use Rattle.logbook.specs.Pages.{Book, book_coded}
use Rattle.drf_rows.specs.LimitNumbers.{LimitNumbers}
use Rattle.drf_rows.specs.contracts.limits.Limits as limits

-- the name of a slate: the place of its history (the chain of a book), and the limits under which the history is legal
pub record SlateName : Type 0 where
  pub book : Book
  pub chain : ℕ
  pub limits : LimitNumbers

-- a slate, as its callers see it
pub record SlateState : Type 0 where
  pub name : SlateName
  pub viewers : ℕ

-- an encoding of such states, by which proofs distinguish them
abbrev pub slate_code : Coded SlateState
slate_code = code_by (Book × (ℕ × (LimitNumbers × ℕ))) (coded× book_coded (coded× coded_ℕ (coded× limits.the_row.coded coded_ℕ)))
    (λ s. (s.name.book, (s.name.chain, (s.name.limits, s.viewers))))
    (λ p. record { name = record { book = p.0; chain = p.1.0; limits = p.1.1.0 }; viewers = p.1.1.1 }) (λ _. refl)
