-- A sorter with the content of the rows has their clients.
use Rattle.std.specs.Prelude.{◌≡◌, zero, suc, Bool, true, List, [], ◌∷◌, map, flat_map}
use Rattle.std.specs.List.{Contains, list_any}
use Rattle.std.proofs.Common.{refl, sym, ap, ◌∙◌, arith, append-nil}
use Rattle.std.proofs.lemmas.Bool.{or_left, or_right}
use Rattle.std.proofs.lemmas.List.Folds.{list_any-append}
use Rattle.drf_role.specs.Path.{Path, begins_with}
use Rattle.std.specs.Cmp.Lexicographic.{bytes_decides}
use Rattle.std.proofs.lemmas.Slice.Eq.{starts_is}
use Rattle.drf_rows.specs.Client.{path_of}
use Rattle.drf_rows.specs.Held.{client_of}
use Rattle.drf_rows.specs.Holdings.{holdings_of}
use Rattle.drf_rows.specs.declared.rows.FrameworkRow.{FrameworkRow}
use Rattle.drf_rows.specs.declared.rows.Rows.{Rows}
use Rattle.drf_sorter.specs.Content.{Ranked}
use Rattle.drf_content.specs.Content.{content_of, ranked}
use Rattle.drf_show.specs.Had.{KnowsClients}

-- an image of some element passes a test
any_made : {X Y : Type 0} (test : Y → Bool) (f : X → Y) (xs : List X) (x : X)
    → Contains xs x → test (f x) ≡ true → list_any test (map f xs) ≡ true
any_made test f [] x (k, inside, is) passes = absurd (omega (arith, inside))
any_made test f (y ∷ ys) x (zero, inside, is) passes =
    or_left (test (f y)) (list_any test (map f ys)) (ap (λ z. test (f z)) is ∙ passes)
any_made test f (y ∷ ys) x (suc k, inside, is) passes =
    or_right (test (f y)) (list_any test (map f ys)) (any_made test f ys x (k, omega (arith, inside), is) passes)

-- an element of a list that is the image of some element passes a test
any_among : {X Y : Type 0} (test : Y → Bool) (f : X → List Y) (xs : List X) (x : X)
    → Contains xs x → list_any test (f x) ≡ true → list_any test (flat_map f xs) ≡ true
any_among test f [] x (k, inside, is) passes = absurd (omega (arith, inside))
any_among test f (y ∷ ys) x (zero, inside, is) passes =
    list_any-append test (f y) (flat_map f ys)
    ∙ or_left (list_any test (f y)) (list_any test (flat_map f ys)) (ap (λ z. list_any test (f z)) is ∙ passes)
any_among test f (y ∷ ys) x (suc k, inside, is) passes =
    list_any-append test (f y) (flat_map f ys)
    ∙ or_right (list_any test (f y)) (list_any test (flat_map f ys)) (any_among test f ys x (k, omega (arith, inside), is) passes)

begins_itself : (path : Path) → begins_with path path ≡ true
begins_itself path = (starts_is bytes_decides path path (begins_with path path) refl).1 [] (sym (append-nil path))

pub knows_clients : (rows : Rows) (f : FrameworkRow) → Contains rows.frameworks f → KnowsClients (content_of rows) f
unfolding content_of ranked
knows_clients rows f there c among =
    let path : Path = path_of (client_of f c) in
    let test : Ranked → Bool = λ r. begins_with r.path path in
    any_among test (λ f. map (ranked (holdings_of rows) f) f.clients) rows.frameworks f there
    (any_made test (ranked (holdings_of rows) f) f.clients c among (begins_itself path))
