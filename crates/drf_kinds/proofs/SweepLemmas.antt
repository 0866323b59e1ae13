-- Lemmas about `specs/Sweep.antt`.
use Rattle.std.specs.Prelude.{◌≡◌, ℕ, ◌+◌, ◌≤◌, ◌^◌, Bool, false, not, List, [], ◌∷◌, nat_lt, if◌then◌else◌}

-- whether a number is a member
abbrev pub is_member : Bool → List ℕ → ℕ → Bool
is_member inside [] n = inside
is_member inside (p ∷ ps) n = if nat_lt n p then inside else is_member (not inside) ps n

-- ascending places, from `low` on, after the last of which the set has ended
abbrev pub AreFrom : ℕ → Bool → List ℕ → Type 0
AreFrom low inside [] = inside ≡ false
AreFrom low inside (p ∷ ps) = (low ≤ p) × (p ≤ 2 ^ 32) × AreFrom (p + 1) (not inside) ps
