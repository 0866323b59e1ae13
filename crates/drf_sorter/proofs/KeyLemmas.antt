-- The keys of the nodes of a path, one more at a time.
use Rattle.std.proofs.Common.{◌≡◌, ◌<◌, ◌+◌, ℕ, List, [], ◌∷◌, ◌++◌, Some, length, take, slice_get, sym, ap, ◌∙◌}
use Rattle.std.proofs.lemmas.List.{append-nil, append_assoc, take_more}
use Rattle.std.proofs.lemmas.Option.{get_or_from_slice_get}
use Rattle.drf_rows.specs.Share.{Fraction, Standing, weighted_share_of}
use Rattle.drf_sorter.specs.Keys.{key_of, keys_of}

keys_of-push : (s : Standing) (parent path : List (List ℕ)) (name : List ℕ)
    → keys_of s parent (path ++ name ∷ []) ≡ keys_of s parent path ++ key_of s (parent ++ path) name ∷ []
keys_of-push s parent [] name = ap (λ node. key_of s node name ∷ []) (sym (append-nil parent))
keys_of-push s parent (x ∷ xs) name =
    ap (λ ps. key_of s parent x ∷ ps)
    (keys_of-push s (parent ++ x ∷ []) xs name
    ∙ ap (λ node. keys_of s (parent ++ x ∷ []) xs ++ key_of s node name ∷ []) (append_assoc parent (x ∷ []) xs))

pub keys_of-take_more : (s : Standing) (path : List (List ℕ)) (i : ℕ) (name : List ℕ) (share : Fraction) (count : ℕ)
    (bytes : List ℕ)
    → i < length path → slice_get path i ≡ Some name → share ≡ weighted_share_of s (take (i + 1) path)
    → count ≡ s.count (take (i + 1) path) → bytes ≡ name
    → keys_of s [] (take (i + 1) path)
    ≡ keys_of s [] (take i path) ++ record { share = share; count = count; name = bytes } ∷ []
keys_of-take_more s path i name share count bytes inside is by_share by_count by_name =
    let more =
    take_more path i name inside ∙ ap (λ n. take i path ++ n ∷ []) (get_or_from_slice_get path i name name is) in
    ap (keys_of s []) more
    ∙ keys_of-push s [] (take i path) name
    ∙ (let shares = sym (by_share ∙ ap (weighted_share_of s) more) in
    let counts = sym (by_count ∙ ap s.count more) in
    let names = sym by_name in
    λ j. keys_of s [] (take i path) ++ record { share = shares j; count = counts j; name = names j } ∷ [])
