use Rattle.std.proofs.Common.{◌≡◌, ◌++◌, ◌↔◌, Bool, false, [], ◌∷◌, length, drop, IsTrue, inl, inr, refl, sym, ap, ◌∙◌}
use Rattle.std.specs.Prelude.{◌||◌}
use Rattle.std.specs.Cmp.{both_ways}
use Rattle.std.specs.Cmp.Lexicographic.{bytes_decides}
use Rattle.std.proofs.lemmas.List.{append-nil}
use Rattle.std.proofs.lemmas.Slice.Eq.{starts_is}
use Rattle.drf_role.specs.Path.{Path, begins_with}
use Rattle.drf_role.specs.Role.{IsWithin}
use Rattle.drf_bundle.specs.Bundle.{is_default}
use Rattle.drf_bundle.proofs.resource.Resource.is_for.Goals as goal

-- the components of a role after those of the outer one
rest_from_within : (role outer : Path) → IsWithin role outer → (rest : Path) × (role ≡ outer ++ rest)
rest_from_within role outer (inl same) = ([], same ∙ sym (append-nil outer))
rest_from_within role outer (inr below) = (below.0, sym below.2)

within_from_whole : (role outer rest : Path) → role ≡ outer ++ rest → IsWithin role outer
within_from_whole role outer [] whole = inl (whole ∙ append-nil outer)
within_from_whole role outer (p ∷ ps) whole = inr (p ∷ ps, (λ e. cc), sym whole)

-- a role is within another exactly if the other's components are a prefix of its own
within_begins : (role outer : Path) (t : Bool) → (IsTrue t ↔ IsWithin role outer) → t ≡ begins_with role outer
within_begins role outer t is =
    let begins = starts_is bytes_decides role outer (begins_with role outer) refl in
    both_ways t (begins_with role outer) (λ yes. let rest = rest_from_within role outer (is.0 yes) in begins.1 rest.0 rest.1) (λ yes. is.1 (within_from_whole role outer (drop (length outer) role) (begins.0 yes)))

pub returns-else-is_unreserved : goal.returns-else-is_unreserved
returns-else-is_unreserved c =
    let role = c.args.role.now in
    let outer = c.args.self.now.role in
    let reserved : is_default outer ≡ false = sym c.is_unreserved.ensures ∙ c.if-is_unreserved.false in
    within_begins role outer c.is_within.result c.is_within.ensures.within ∙ ap (λ (b : Bool). b || begins_with role outer) (sym reserved)
