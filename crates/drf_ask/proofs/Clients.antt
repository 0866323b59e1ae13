-- The number of clients of frameworks.
use Rattle.std.proofs.Common.{◌≡◌, ℕ, ◌+◌, ◌<◌, ◌≤◌, List, ◌∷◌, drop, get_or, length, sym, ap, ◌∙◌}
use Rattle.std.proofs.lemmas.List.{at_drop_more, at_drop_all, length-append, length-map}
use Rattle.drf_rows.specs.Held.{clients_in, client_of}
use Rattle.drf_rows.specs.declared.rows.FrameworkRow.{FrameworkRow}

one_more : (f : FrameworkRow) (rest : List FrameworkRow) → length (clients_in (f ∷ rest)) ≡ length f.clients + length (clients_in rest)
one_more f rest = length-append _ (clients_in rest) ∙ ap (λ n. n + length (clients_in rest)) (length-map f.clients (client_of f))

pub clients_left : (all : List FrameworkRow) (i : ℕ) (f : FrameworkRow) → i < length all → f ≡ get_or all i f
    → length (clients_in (drop i all)) ≡ length f.clients + length (clients_in (drop (i + 1) all))
clients_left all i f inside is =
    at_drop_more (λ left. length (clients_in left)) all i f inside
    ∙ ap (λ y. length (clients_in (y ∷ drop (i + 1) all))) (sym is)
    ∙ one_more f (drop (i + 1) all)

pub none_left : (all : List FrameworkRow) (i : ℕ) → length all ≤ i → length (clients_in (drop i all)) ≡ 0
none_left all i past = at_drop_all (λ left. length (clients_in left)) all i past
