-- The keys that decide between siblings, and between the clients below them.
use Rattle.std.specs.Prelude.{ℕ, List, [], ◌∷◌, ◌++◌}
use Rattle.std.specs.declared.cmp.Ordering.{Ordering}
use Rattle.std.specs.Ordering.{nat_cmp, ordering_then}
use Rattle.std.specs.Cmp.Lexicographic.{slice_cmp}
use Rattle.std.specs.String.{string_bytes}
use Rattle.drf_rows.specs.Share.{Fraction, Standing, weighted_share_of}
use Rattle.drf_sorter.specs.Fractions.{fraction_cmp}
use Rattle.drf_sorter.specs.Share.{fraction_of}
use Rattle.drf_role.specs.Path.{Path}
use Rattle.drf_role.specs.Text.{Text}
use Rattle.drf_sorter.specs.declared.key.Key as made

-- the key of a node, by which it is ordered among its siblings
pub record Key : Type 0 where
  pub share : Fraction
  pub count : ℕ
  pub name : Text

-- keys are compared by weighted share, then by count, then by name
abbrev pub key_cmp : Key → Key → Ordering
key_cmp a b =
    ordering_then (fraction_cmp a.share b.share)
    (ordering_then (nat_cmp a.count b.count) (slice_cmp nat_cmp a.name b.name))

-- the key of a child of a node
abbrev pub key_of : Standing → Path → Text → Key
key_of s parent name = record {
  share = weighted_share_of s (parent ++ name ∷ []);
  count = s.count (parent ++ name ∷ []);
  name = name;
}

-- the keys of the nodes of a path below a node, from the top of the tree down
abbrev pub keys_of : Standing → Path → Path → List Key
keys_of s parent [] = []
keys_of s parent (name ∷ below) = key_of s parent name ∷ keys_of s (parent ++ name ∷ []) below

-- the value of a `Key` as contracts see it
abbrev pub key_by : made.Key → Key
key_by key = record { share = fraction_of key.share; count = key.count; name = string_bytes key.name }
