-- Moving things one by one between the ends of two lists.
use Rattle.std.specs.Prelude.{◌≡◌, ℕ, ◌+◌, List, [], ◌∷◌, ◌++◌, map, length, reverse}
use Rattle.std.proofs.Common.{sym, ap, subst, ◌∙◌, append_assoc, length-append, arith}
use Rattle.std.proofs.lemmas.List.{reverse-append, reverse-reverse, length-reverse, append-nil, append_cancel_left}
use Rattle.drf_holdings.specs.Rising.{IsRising}
use Rattle.drf_holdings.proofs.RisingLists.{rising_prefix}

module _ {X : Type 0} where
  -- one thing is moved
  pub whole_next : (rows others left : List X) (x : X) → others ≡ left ++ x ∷ []
      → rows ++ reverse others ≡ (rows ++ x ∷ []) ++ reverse left
  whole_next rows others left x split =
      ap (λ (xs : List X). rows ++ reverse xs) split
      ∙ ap (λ (xs : List X). rows ++ xs) (reverse-append left (x ∷ []))
      ∙ sym (append_assoc rows (x ∷ []) (reverse left))

  pub rising_next : (number : X → ℕ) (rows others left whole : List X) (x : X) → others ≡ left ++ x ∷ []
      → rows ++ reverse others ≡ whole → IsRising (map number whole) → IsRising (map number (rows ++ x ∷ []))
  rising_next number rows others left whole x split all rising =
      rising_prefix number (rows ++ x ∷ []) (reverse left)
      (subst (λ (xs : List X). IsRising (map number xs)) (sym all ∙ whole_next rows others left x split) rising)

  -- the number of things in both lists stays the same
  pub length_both : (rows others rows2 others2 : List X) → rows ++ reverse others ≡ rows2 ++ reverse others2
      → length rows + length others ≡ length rows2 + length others2
  length_both rows others rows2 others2 same =
      let lengths = ap (λ (xs : List X). length xs) same in
      let one = length-append rows (reverse others) in
      let two = length-append rows2 (reverse others2) in
      let three = length-reverse others in
      let four = length-reverse others2 in
      omega arith

  -- all things are moved
  pub moved_all : (old new others turned left : List X) → turned ≡ reverse others → new ++ reverse left ≡ old ++ reverse turned → left ≡ []
      → new ≡ old ++ others
  moved_all old new others turned left turn all none =
      sym (append-nil new)
      ∙ ap (λ (xs : List X). new ++ reverse xs) (sym none)
      ∙ all
      ∙ ap (λ (xs : List X). old ++ reverse xs) turn
      ∙ ap (λ (xs : List X). old ++ xs) (reverse-reverse others)

  -- all things are moved back
  pub moved_back : (old mid new others turned between left again : List X) → turned ≡ reverse others
      → mid ++ reverse between ≡ old ++ reverse turned → new ++ reverse left ≡ mid ++ reverse between
      → new ≡ old → again ≡ reverse left → again ≡ others
  moved_back old mid new others turned between left again turn there back same turned_again =
      turned_again
      ∙ append_cancel_left old (reverse left) others
      (ap (λ (xs : List X). xs ++ reverse left) (sym same) ∙ back ∙ there
      ∙ ap (λ (xs : List X). old ++ reverse xs) turn ∙ ap (λ (xs : List X). old ++ xs) (reverse-reverse others))
