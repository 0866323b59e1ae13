-- The state of a board, as its contracts see it.
use Rattle.std.specs.Prelude.{◌≡◌, ℕ, List, [], ◌∷◌, ◌++◌, refl}
use Rattle.std.specs.Coded.{Coded, code_by, coded×, coded_ℕ, coded_list}
use Rattle.drf_board.specs.contracts.entry.Entry as entry
use Rattle.drf_board.specs.declared.entry.Entry.{Entry}

-- an encoding of lists of entries, by which proofs distinguish them
abbrev pub entries_code : Coded (List Entry)
entries_code = coded_list entry.the_row.coded

-- all published entries, in order, and the number of viewers for which the board was opened
pub record Published : Type 0 where
  pub entries : List Entry
  pub viewers : ℕ

-- an encoding of such states, by which proofs distinguish them
abbrev pub published_code : Coded Published
published_code = code_by (List Entry × ℕ) (coded× entries_code coded_ℕ) (λ b. (b.entries, b.viewers))
    (λ p. record { entries = p.0; viewers = p.1 }) (λ _. refl)

-- exactly this entry was published
pub record HasPublished (old new : Published) (e : Entry) : Type 0 where
  pub entries : new.entries ≡ old.entries ++ e ∷ []
  pub viewers : new.viewers ≡ old.viewers
