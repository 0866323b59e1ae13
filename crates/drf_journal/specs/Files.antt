-- What is known of files.
use Rattle.std.specs.Prelude.{◌≡◌, ⊤, ℕ, List}
use Rattle.drf_journal.specs.declared.fault.RunFault.{RunFault}
use Rattle.drf_journal.specs.declared.fault.RunFault.TheVariants.{Read, Write, Memory}

-- what is known of a file
pub data Content : Type 0 where
  -- nothing
  unknown : Content
  -- that it cannot be read
  unreadable : Content
  -- what it has
  has : List ℕ → Content

-- what is known of each file by its name
abbrev pub Known : Type 0
Known = List ℕ → Content

-- a file may have these bytes
abbrev pub MayHave : Content → List ℕ → Type 0
MayHave unknown bytes = ⊤
MayHave unreadable bytes = ⊥
MayHave (has content) bytes = bytes ≡ content

-- a file may be one that cannot be read
abbrev pub MayBeUnreadable : Content → Type 0
MayBeUnreadable unknown = ⊤
MayBeUnreadable unreadable = ⊤
MayBeUnreadable (has content) = ⊥

-- why a file gave no bytes
abbrev pub IsFileFault : Content → RunFault → Type 0
IsFileFault content Read = MayBeUnreadable content
IsFileFault content Write = ⊥
IsFileFault content Memory = ⊤
