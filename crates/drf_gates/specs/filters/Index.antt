-- Where the filters of a client, or of a client on an agent, stand among all.
use Rattle.std.specs.Prelude.{◌≡◌, ℕ, ◌+◌, ◌%◌, ◌*◌, ◌/◌, ◌<◌, ◌≤◌, ◌==◌, if◌then◌else◌, List, Option, None, Some, ◌∷◌, [], length, map, take, slice_index, All, vec_capacity}
use Rattle.std.specs.Option.{option_map}
use Rattle.std.specs.Hash.FoldHasher as folding
use Rattle.drf_hash.specs.Reading.{read_text}
use Rattle.drf_hash.specs.declared.name_hasher.NameHasher.{NameHasher}
use Rattle.drf_role.specs.Text.{Text}
use Rattle.drf_role.specs.Parts.{text_of}
use Rattle.drf_role.specs.Path.{Path}
use Rattle.drf_rows.specs.declared.rows.FilterRow.{FilterRow}
use Rattle.drf_gates.specs.filters.Chains.{IsChained}
use Rattle.drf_gates.specs.declared.filters.index.Index.{Index}
use Rattle.drf_gates.specs.declared.filters.index.Link.{Link}
use Rattle.drf_gates.specs.declared.filters.index.Key.{Key}
use Rattle.drf_gates.specs.declared.filters.index.Key.TheVariants.{Client, ClientAndAgent}

-- a hash that has read a client, after what it began with
abbrev pub client_read : NameHasher → Path → Text → NameHasher
client_read start role framework = read_text (read_text start framework) (text_of role)

-- and a byte that is in no text, without which a bucket would tell too little of the last text
abbrev pub read_end : NameHasher → NameHasher
read_end h = read_text h (255 ∷ [])

-- the hash of a client, and of a client and an agent
unfoldable pub client_hash : NameHasher → Path → Text → ℕ
client_hash start role framework = folding.finish (read_end (client_read start role framework)).fold

unfoldable pub pair_hash : NameHasher → Path → Text → Text → ℕ
pair_hash start role framework agent = folding.finish (read_end (read_text (client_read start role framework) agent)).fold

-- the hash by which a filter is chained
abbrev pub row_hash : NameHasher → Key → FilterRow → ℕ
row_hash start Client f = client_hash start f.role f.framework
row_hash start ClientAndAgent f = pair_hash start f.role f.framework f.agent

abbrev pub slot_hash : NameHasher → Key → Option FilterRow → Option ℕ
slot_hash start key slot = option_map (row_hash start key) slot

-- the hash in whose chain a link is, if it is in one
abbrev pub link_hash : Link → Option ℕ
link_hash link = if link.before == 18446744073709551615 then None else Some link.mark

abbrev pub hashes_in : Index → List (Option ℕ)
hashes_in index = map link_hash index.links.items

-- where chains go on
abbrev pub befores : Index → List ℕ
befores index = map (λ (link : Link). link.before) index.links.items

-- the bucket of a hash among so many, by its last 32 bits
unfoldable pub hash_bucket : ℕ → ℕ → ℕ
hash_bucket number hash = hash % 4294967296 * number / 4294967296

-- without a hash it is none of them
abbrev pub bucket_of : ℕ → Option ℕ → ℕ
bucket_of number None = number
bucket_of number (Some hash) = hash_bucket number hash

abbrev pub buckets_in : Index → List ℕ
buckets_in index = map (bucket_of (length index.heads.items)) (hashes_in index)

-- what is in a chain is in that of its hash
abbrev pub IsTidy : Index → Type 0
IsTidy index = IsChained (buckets_in index) index.heads.items (befores index)

-- so are the places before one, and others are in no chain yet
abbrev pub IsTidyTo : ℕ → Index → Type 0
IsTidyTo place index = IsChained (take place (buckets_in index)) index.heads.items (take place (befores index))

-- the chain of a bucket leads to a place, or to its end, from its beginning or from a place, each told as the number after it
pub record IsLedTo (index : Index) (bucket from after : ℕ) : Type 0 where
  pub at_head : from ≡ 0 → after ≡ slice_index index.heads.items bucket
  pub at_link : (p : ℕ) → from ≡ p + 1 → (slice_index (buckets_in index) p ≡ bucket) × (after ≡ slice_index (befores index) p)
  pub small : from ≤ length index.links.items

-- each filter has its hash and a gap has none, and there are at least as many buckets
pub record IsMarked (key : Key) (rows : List (Option FilterRow)) (index : Index) : Type 0 where
  pub hashes : hashes_in index ≡ map (slot_hash index.start key) rows
  pub enough : length rows ≤ length index.heads.items

-- and each filter is in the chain of its hash
pub record IsIndexed (key : Key) (rows : List (Option FilterRow)) (index : Index) : Type 0 where
  pub marked : IsMarked key rows index
  pub tidy : IsTidy index

-- the filters are left of those that the index has
pub record IsLeft (key : Key) (rows : List (Option FilterRow)) (index : Index) : Type 0 where
  pub all : List (Option FilterRow)
  pub indexed : IsIndexed key all index
  pub at_most : length rows ≤ length all
  pub or_all : length rows ≡ length all → rows ≡ all

-- one more filter can be put in without memory
pub record HasRoom (index : Index) : Type 0 where
  pub heads : length index.links.items < length index.heads.items
  pub links : length index.links.items < vec_capacity index.links

-- no filter ends before the moment
abbrev pub NoneEndsBefore : ℕ → List FilterRow → Type 0
NoneEndsBefore timestamp rows = All (λ f. timestamp ≤ f.until) rows
