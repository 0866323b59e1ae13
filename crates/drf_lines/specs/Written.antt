-- Definitions for writing a line: which bytes a JSON string contains without escapes, and what appending keeps.
use Rattle.std.specs.Io.{StartsWith}
use Rattle.std.specs.Prelude.{◌≡◌, ◌<◌, ◌≤◌, ℕ, List, ◌++◌, get_or, Bool, true, not, ◌&&◌, ◌==◌, nat_le, Result, OnOk}
use Rattle.std.specs.Str.{IsUtf8}
use Rattle.serde_json.specs.Data.{Members}
use Rattle.serde_json.specs.Written.{members_text}

-- a byte that needs no escape in a JSON string (RFC 8259, section 7)
abbrev pub is_plain_byte : ℕ → Bool
is_plain_byte b = nat_le 32 b && (not (b == 34) && not (b == 92))

-- the bytes from one index up to another need no escape
abbrev pub ArePlainFrom : List ℕ → ℕ → ℕ → Type 0
ArePlainFrom text from to = (k : ℕ) → from ≤ k → k < to → is_plain_byte (get_or text k 0) ≡ true

-- every prefix of the old text is also a prefix of the new one
abbrev pub KeepsPrefix : List ℕ → List ℕ → Type 0
KeepsPrefix old new = (prefix : List ℕ) → StartsWith old prefix → StartsWith new prefix

-- the text is UTF-8, as each `str` is; a separate definition, so that proof search does not unfold it
unfoldable pub IsText : List ℕ → Type 0
IsText text = IsUtf8 text

-- UTF-8 stays UTF-8
abbrev pub KeepsUtf8 : List ℕ → List ℕ → Type 0
KeepsUtf8 old new = IsUtf8 old → IsUtf8 new

-- a text is appended; if memory runs out, the new text still begins with the old one
pub record AppendsText {T E : Type 0} (result : Result T E) (old new text : List ℕ) : Type 0 where
  pub ok : OnOk result (new ≡ old ++ text)
  pub prefix : KeepsPrefix old new
  pub utf8 : OnOk result (KeepsUtf8 old new)

-- members of an object are appended, whatever members come after them; otherwise as above
pub record AppendsMembers {T E : Type 0} (result : Result T E) (old new : List ℕ) (members : Members → Members) : Type 0 where
  pub ok : OnOk result ((more : Members) → new ++ members_text true more ≡ old ++ members_text true (members more))
  pub prefix : KeepsPrefix old new
  pub utf8 : OnOk result (KeepsUtf8 old new)
