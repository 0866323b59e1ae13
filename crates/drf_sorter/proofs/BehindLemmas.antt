-- Comparing paths by their texts.
use Rattle.std.proofs.Common.{◌≡◌, ◌+◌, ◌-◌, ◌≤◌, [], ◌∷◌, ◌++◌, ℕ, length, take, Some, slice_get, get_or, refl, sym, ap, subst, ◌∙◌, arith}
use Rattle.std.specs.Cmp.Lexicographic.{slice_cmp}
use Rattle.std.specs.List.{All}
use Rattle.std.specs.Ordering.{nat_cmp, ordering_then}
use Rattle.std.specs.declared.cmp.Ordering.{Ordering}
use Rattle.std.specs.declared.cmp.Ordering.TheVariants.{Greater}
use Rattle.std.proofs.Math.Seq.{take-append_seam}
use Rattle.std.proofs.lemmas.List.{append_assoc, get_or_at, length-append, length-take, take_all, take_more}
use Rattle.std.proofs.lemmas.List.Elements.{All-cons, All-head, All-nil, All-tail}
use Rattle.std.proofs.lemmas.Option.{get_or_from_slice_get, slice_get_within}
use Rattle.drf_role.specs.Parts.{parts_of, text_of}
use Rattle.drf_role.specs.Path.{Path}
use Rattle.drf_role.specs.Text.{Text}
use Rattle.drf_role.specs.TextLaws.{cmp_itself}
use Rattle.drf_role.proofs.PartLaws.{HasNoSlash, first_part, parts_no_slash, parts_of-append, parts_of-text_of, text_of-append}
use Rattle.drf_rows.specs.Report.{path_cmp}

-- after a prefix that two paths share, the rest decides
rest_decides : (prefix a b : Path) → path_cmp (prefix ++ a) (prefix ++ b) ≡ path_cmp a b
rest_decides [] a b = refl
rest_decides (p ∷ ps) a b =
    ap (λ (o : Ordering). ordering_then o (path_cmp (ps ++ a) (ps ++ b))) (cmp_itself p) ∙ rest_decides ps a b

-- a path is greater than a proper prefix of it
behind_prefix : (prefix : Path) (p : Text) (ps : Path) → path_cmp (prefix ++ p ∷ ps) prefix ≡ Greater
behind_prefix [] p ps = refl
behind_prefix (q ∷ qs) p ps =
    ap (λ (o : Ordering). ordering_then o (path_cmp (qs ++ p ∷ ps) qs)) (cmp_itself q) ∙ behind_prefix qs p ps

pub goes_on_behind : (path other : Path) (text prefix more : Text) → parts_of text ≡ path → parts_of prefix ≡ other
    → text ≡ prefix ++ 47 ∷ more → path_cmp path other ≡ Greater
goes_on_behind path other text prefix more is its whole =
    let first = first_part more in
    let parts : path ≡ other ++ first.0 ∷ first.1 =
    sym is ∙ ap parts_of whole ∙ parts_of-append prefix more ∙ (λ i. its i ++ first.2 i) in
    ap (λ (p : Path). path_cmp p other) parts ∙ behind_prefix other first.0 first.1

-- if no part has a slash, the first parts have none
prefix_no_slash : (ps qs : Path) → All HasNoSlash (ps ++ qs) → All HasNoSlash ps
prefix_no_slash [] qs all = All-nil HasNoSlash
prefix_no_slash (p ∷ ps) qs all =
    All-cons HasNoSlash p ps (All-head HasNoSlash p (ps ++ qs) all)
    (prefix_no_slash ps qs (All-tail HasNoSlash p (ps ++ qs) all))

-- a text without its last part
text_prefix : (p : Text) (ps : Path) (x : Text) (text : Text) → text ≡ text_of ((p ∷ ps) ++ x ∷ [])
    → take (length text - length x) text ≡ text_of (p ∷ ps) ++ 47 ∷ []
text_prefix p ps x text is =
    let prefix : Text = text_of (p ∷ ps) ++ 47 ∷ [] in
    let whole : text ≡ prefix ++ x =
    is ∙ text_of-append p ps x [] ∙ sym (append_assoc (text_of (p ∷ ps)) (47 ∷ []) x) in
    let long : length text - length x ≡ length prefix =
    omega (arith, ap length whole, length-append prefix x) in
    ap (λ (n : ℕ). take n text) long ∙ ap (λ (t : Text). take (length prefix) t) whole ∙ take-append_seam prefix x

-- a path as the parts before its last one, and the last one
split_last : (path : Path) (i : ℕ) (x : Text) → slice_get path i ≡ Some x → length path ≤ i + 1
    → path ≡ take i path ++ x ∷ []
split_last path i x at last =
    sym (take_all (i + 1) path last) ∙ take_more path i x (slice_get_within path i x at)
    ∙ ap (λ (y : Text). take i path ++ y ∷ []) (get_or_from_slice_get path i x x at)

-- the last part is no longer than the text
pub part_fits : (path : Path) (i : ℕ) (x text : Text) → slice_get path i ≡ Some x → length path ≤ i + 1
    → text ≡ text_of path → length x ≤ length text
part_fits path i x text at last is = of (take i path) (is ∙ ap text_of (split_last path i x at last))
  where
    of : (prefix : Path) → text ≡ text_of (prefix ++ x ∷ []) → length x ≤ length text
    of [] is = omega (arith, ap length is)
    of (p ∷ ps) is =
        omega
        (arith, ap length (is ∙ text_of-append p ps x []), length-append (text_of (p ∷ ps)) (47 ∷ x))

-- a path is greater if it is the same up to its last part, and this part is greater than the other's at its place
pub ends_behind : (path other : Path) (i : ℕ) (x y text its more : Text) → slice_get path i ≡ Some x
    → length path ≤ i + 1 → slice_get other i ≡ Some y → slice_cmp nat_cmp x y ≡ Greater → text ≡ text_of path
    → parts_of text ≡ path → parts_of its ≡ other → its ≡ take (length text - length x) text ++ more
    → path_cmp path other ≡ Greater
ends_behind path other i x y text its more at last there less joined parts its_parts begins =
    by (take i path) (split_last path i x at last) long
  where
    long : length (take i path) ≡ i
    long = omega (arith, length-take i path, slice_get_within path i x at)

    -- the rest of the other path begins with y
    from : (prefix rest : Path) → other ≡ prefix ++ rest → path ≡ prefix ++ x ∷ [] → length prefix ≡ i
        → (q : Text) (qs : Path) → rest ≡ q ∷ qs → path_cmp path other ≡ Greater
    from prefix rest split is long q qs first =
        let whole : other ≡ prefix ++ q ∷ qs = split ∙ ap (λ (r : Path). prefix ++ r) first in
        let same : q ≡ y =
        sym (get_or_at prefix q qs [] i long) ∙ ap (λ (p : Path). get_or p i []) (sym whole)
        ∙ get_or_from_slice_get other i y [] there in
        (λ i. path_cmp (is i) (whole i))
        ∙ rest_decides prefix (x ∷ []) (q ∷ qs)
        ∙ ap (λ (t : Text). ordering_then (slice_cmp nat_cmp x t) (path_cmp [] qs)) same
        ∙ ap (λ (o : Ordering). ordering_then o (path_cmp [] qs)) less

    by : (prefix : Path) → path ≡ prefix ++ x ∷ [] → length prefix ≡ i → path_cmp path other ≡ Greater
    by [] is long =
        let first = first_part its in
        from [] other refl is long first.0 first.1 (sym its_parts ∙ first.2)
    by (p ∷ ps) is long =
        let first = first_part more in
        let clean : All HasNoSlash (p ∷ ps) =
        prefix_no_slash (p ∷ ps) (x ∷ []) (subst (All HasNoSlash) (parts ∙ is) (parts_no_slash text)) in
        let whole : its ≡ text_of (p ∷ ps) ++ 47 ∷ more =
        begins ∙ ap (λ (t : Text). t ++ more) (text_prefix p ps x text (joined ∙ ap text_of is))
        ∙ append_assoc (text_of (p ∷ ps)) (47 ∷ []) more in
        let split : other ≡ (p ∷ ps) ++ parts_of more =
        sym its_parts ∙ ap parts_of whole ∙ parts_of-append (text_of (p ∷ ps)) more
        ∙ ap (λ (ps : Path). ps ++ parts_of more) (parts_of-text_of p ps clean) in
        from (p ∷ ps) (parts_of more) split is long first.0 first.1 first.2
