-- How names are read by hashes.
use Rattle.std.specs.Prelude.{ℕ, ◌%◌, ◌∷◌, [], List, length, nat_lt, if◌then◌else◌}
use Rattle.std.specs.Hash.FoldHasher as folding
use Rattle.std.specs.declared.hash.FoldHasher.{FoldHasher}
use Rattle.drf_hash.specs.declared.name_hasher.NameHasher.{NameHasher}

-- the hash after it has read the length of a text, which it reads only if it is more than 8 bytes
unfoldable pub with_length : FoldHasher → ℕ → FoldHasher
with_length fold long = if nat_lt 8 long then folding.write fold (long % 256 ∷ []) else fold

-- the hash after it has also read the text
unfoldable pub read_text : NameHasher → List ℕ → NameHasher
read_text h text = record { fold = folding.write (with_length h.fold (length text)) text }
