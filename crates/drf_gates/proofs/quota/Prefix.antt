-- Prefixes of a role's text, and the limits that are looked up by them.
use Rattle.std.proofs.Common.{◌≡◌, ◌≢◌, ℕ, ◌+◌, ◌<◌, ◌≤◌, Bool, true, false, cond, eqb, List, [], ◌∷◌, ◌++◌, length, take, drop, All, Option, Some, None, codes, refl, sym, ap, subst, ◌∙◌, ⊎_elim, arith, length-append, take-append-drop}
use Rattle.std.specs.List.{slice_get, AllByRecursion, IsDistinct}
use Rattle.std.specs.Map.{keys_of, lookup, lookup_key}
use Rattle.std.specs.Option.{option_map, option_to_list}
use Rattle.std.specs.Cmp.Lexicographic.{pointwise, bytes_decides}
use Rattle.std.proofs.Math.Seq.{take-append_seam}
use Rattle.std.proofs.lemmas.Bool.Decides.{same_from_decides}
use Rattle.std.proofs.lemmas.List.{append-nil, take_all}
use Rattle.std.proofs.lemmas.List.Elements.{All-head, All-cons, All-nil, All-weaker, All-take}
use Rattle.std.proofs.lemmas.List.Sums.{sum_by-cons, sum_by_more, sum_by-take-le}
use Rattle.std.proofs.lemmas.Map.Keys.{IsDistinct-head, IsDistinct-tail}
use Rattle.std.proofs.lemmas.Option.{get_or_from_slice_get}
use Rattle.drf_role.specs.Text.{Text}
use Rattle.drf_role.specs.Parts.{parts_of, text_of}
use Rattle.drf_role.specs.Path.{Path, same_path}
use Rattle.drf_role.specs.PathLaws.{path_decides, same_path-true}
use Rattle.drf_role.specs.Role.{IsComponent, IsRole}
use Rattle.drf_role.proofs.PartLaws.{HasNoSlash, parts_of-text_of, text_of-append}
use Rattle.drf_role.proofs.RoleLaws.{no_slashes}
use Rattle.drf_bundle.specs.declared.quantities.Entry.{Entry}
use Rattle.drf_gates.specs.quota.Prefix.{path_in, size_of, end_of, limits_at}
use Rattle.drf_gates.specs.quota.PrefixLaws.{text_of-path_in}
use Rattle.drf_gates.specs.quota.Allowance.{Usage, limit_row, limit_rows}

-- ---- the parts of a role

record IsPart (part : Text) : Type 0 where
  some : part ≢ []
  no_slash : HasNoSlash part

component_part : (part : Text) → IsComponent part → IsPart part
component_part part h = record {
  some = h.not_empty;
  no_slash = All-head HasNoSlash part [] (no_slashes (part ∷ []) (All-cons IsComponent part [] h (All-nil IsComponent)));
}

star_part : IsPart (codes "*")
star_part = record {
  some = λ e. cc;
  no_slash = All-cons (λ b. eqb b 47 ≡ false) 42 [] refl (All-nil (λ b. eqb b 47 ≡ false));
}

role_parts : (role : Path) → IsRole role → All IsPart role
role_parts role right =
    ⊎_elim (λ e. subst (λ (r : Path). All IsPart r) (sym e) (All-cons IsPart (codes "*") [] star_part (All-nil IsPart)))
    (λ p. All-weaker IsComponent IsPart component_part role p.each) right

text_some : (p : Text) (ps : Path) → p ≢ [] → text_of (p ∷ ps) ≢ []
text_some [] ps some = absurd (some refl)
text_some (b ∷ bs) [] some = λ e. cc
text_some (b ∷ bs) (q ∷ qs) some = λ e. cc

path_in-some : (text : Text) → text ≢ [] → path_in text ≡ parts_of text
path_in-some [] some = absurd (some refl)
path_in-some (b ∷ bs) some = refl

-- a prefix of a role is the path that its text names
path_in-text_of : (path : Path) → All IsPart path → path_in (text_of path) ≡ path
path_in-text_of [] each = refl
path_in-text_of (p ∷ ps) each =
    path_in-some (text_of (p ∷ ps)) (text_some p ps (All-head IsPart p ps each).some)
    ∙ parts_of-text_of p ps (All-weaker IsPart HasNoSlash (λ part h. h.no_slash) (p ∷ ps) each)

pub same_role : (text : Text) (role : Path) → IsRole role → pointwise eqb text (text_of role) ≡ same_path (path_in text) role
same_role text role right =
    same_from_decides (pointwise eqb text (text_of role)) (same_path (path_in text) role) (bytes_decides text (text_of role)) (
      λ e. sym (text_of-path_in text) ∙ ap text_of ((path_decides (path_in text) role).0 e),
      λ e. (path_decides (path_in text) role).1 (ap path_in e ∙ path_in-text_of role (role_parts role right)),
    )

-- ---- where prefixes end

size_of_text : (p : Text) (ps : Path) → length (text_of (p ∷ ps)) + 1 ≡ size_of (p ∷ ps)
size_of_text p [] = omega (arith, sum_by-cons (λ (part : Text). length part + 1) p [])
size_of_text p (q ∷ qs) =
    omega (arith, sum_by-cons (λ (part : Text). length part + 1) p (q ∷ qs), length-append p (47 ∷ text_of (q ∷ qs)), size_of_text q qs)

size_at_most : (path : Path) → size_of path ≤ length (text_of path) + 1
size_at_most [] = omega arith
size_at_most (p ∷ ps) = omega (arith, size_of_text p ps)

role_short : (role : Path) → IsRole role → length (text_of role) ≤ 64
role_short role right = ⊎_elim (λ e. let n = ap (λ (r : Path). length (text_of r)) e in omega (arith, n)) (λ p. p.short) right

pub record IsNext (role : Path) (i : ℕ) (part : Text) : Type 0 where
  pub more : size_of (take (i + 1) role) ≡ size_of (take i role) + (length part + 1)
  pub short : size_of (take (i + 1) role) ≤ 65

pub next_part : (role : Path) (i : ℕ) (part : Text) → IsRole role → i < length role → slice_get role i ≡ Some part → IsNext role i part
next_part role i part right within read = record {
  more = sum_by_more (λ (p : Text). length p + 1) role i part within
      ∙ ap (λ (p : Text). size_of (take i role) + (length p + 1)) (get_or_from_slice_get role i part part read);
  short = omega (arith, sum_by-take-le (λ (p : Text). length p + 1) role (i + 1), size_at_most role, role_short role right);
}

pub end_within : (role : Path) (len : ℕ) → end_of (take len role) ≤ length (text_of role)
end_within role len = omega (arith, sum_by-take-le (λ (p : Text). length p + 1) role len, size_at_most role)

text_prefix : (xs ys : Path) → take (end_of xs) (text_of (xs ++ ys)) ≡ text_of xs
text_prefix [] ys = refl
text_prefix (p ∷ ps) [] =
    let size : end_of (p ∷ ps) ≡ length (text_of (p ∷ ps)) = omega (arith, size_of_text p ps) in
    (λ i. take (size i) (text_of (append-nil (p ∷ ps) i))) ∙ take_all (length (text_of (p ∷ ps))) (text_of (p ∷ ps)) (omega arith)
text_prefix (p ∷ ps) (q ∷ qs) =
    let size : end_of (p ∷ ps) ≡ length (text_of (p ∷ ps)) = omega (arith, size_of_text p ps) in
    (λ i. take (size i) (text_of-append p ps q qs i)) ∙ take-append_seam (text_of (p ∷ ps)) (47 ∷ text_of (q ∷ qs))

pub prefix_is : (role : Path) (len : ℕ) → IsRole role → path_in (take (end_of (take len role)) (text_of role)) ≡ take len role
prefix_is role len right =
    ap (λ (r : Path). path_in (take (end_of (take len role)) (text_of r))) (sym (take-append-drop len role))
    ∙ ap path_in (text_prefix (take len role) (drop len role))
    ∙ path_in-text_of (take len role) (All-take IsPart len role (role_parts role right))

-- ---- looking up the limit of a path

none_more : (path : Path) (es : List Usage) → AllByRecursion (λ y. same_path path y ≡ false) (keys_of es) → limits_at path (limit_rows es) ≡ []
none_more path [] none = refl
none_more path (e ∷ es) none = λ i. cond (none.0 i) (limit_row e ∷ limits_at path (limit_rows es)) (none_more path es none.1 i)

pub none_at : (path : Path) (es : List Usage) → lookup (same_path path) es ≡ None → limits_at path (limit_rows es) ≡ []
none_at path [] none = refl
none_at path (e ∷ es) none = by (same_path path e.0) none (none_at path es)
  where
    by : (b : Bool) → ◌≡◌ {A = Option (List Entry)} (cond b (Some e.1) (lookup (same_path path) es)) None
        → (lookup (same_path path) es ≡ None → limits_at path (limit_rows es) ≡ [])
        → cond b (limit_row e ∷ limits_at path (limit_rows es)) (limits_at path (limit_rows es)) ≡ []
    by true some more = cc
    by false rest more = more rest

one_at : (path : Path) (es : List Usage) (role : Path) (limit : List Entry) → IsDistinct same_path (keys_of es)
    → lookup_key (same_path path) es ≡ Some role → lookup (same_path path) es ≡ Some limit
    → limits_at path (limit_rows es) ≡ limit_row (role, limit) ∷ []
one_at path [] role limit apart key value = cc
one_at path (e ∷ es) role limit apart key value =
    by (same_path path e.0) refl key value (one_at path es role limit (IsDistinct-tail same_path e.0 (keys_of es) apart))
  where
    by : (b : Bool) → same_path path e.0 ≡ b
        → ◌≡◌ {A = Option Path} (cond b (Some e.0) (lookup_key (same_path path) es)) (Some role)
        → ◌≡◌ {A = Option (List Entry)} (cond b (Some e.1) (lookup (same_path path) es)) (Some limit)
        → (lookup_key (same_path path) es ≡ Some role → lookup (same_path path) es ≡ Some limit
        → limits_at path (limit_rows es) ≡ limit_row (role, limit) ∷ [])
        → cond b (limit_row e ∷ limits_at path (limit_rows es)) (limits_at path (limit_rows es)) ≡ limit_row (role, limit) ∷ []
    by true here its_key its_value more =
        let its : e.0 ≡ role = cc in
        let its_limit : e.1 ≡ limit = cc in
        let rest : limits_at path (limit_rows es) ≡ [] =
        ap (λ (p : Path). limits_at p (limit_rows es)) (same_path-true path e.0 here)
        ∙ none_more e.0 es (IsDistinct-head same_path e.0 (keys_of es) apart) in
        λ i. limit_row (its i, its_limit i) ∷ rest i
    by false other its_key its_value more = more its_key its_value

-- a look-up finds the only entry there is
pub all_at : {F : Type 0} (key : F → Path) (value : F → List Entry) (path : Path) (es : List Usage) (found : Option F)
    → IsDistinct same_path (keys_of es)
    → option_map key found ≡ lookup_key (same_path path) es → option_map value found ≡ lookup (same_path path) es
    → limits_at path (limit_rows es) ≡ option_to_list (option_map (λ f. limit_row (key f, value f)) found)
all_at key value path es None apart keys values = none_at path es (sym values)
all_at key value path es (Some f) apart keys values = one_at path es (key f) (value f) apart (sym keys) (sym values)
