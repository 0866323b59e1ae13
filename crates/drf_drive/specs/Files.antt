-- The bytes of files.
use Rattle.std.specs.Prelude.{◌≡◌, ⊤, ℕ, List, [], ◌∷◌, ◌++◌, length, map}
use Rattle.std.specs.Global.{Vec}
use Rattle.drf_journal.specs.Files.{Known, MayBeUnreadable, MayHave}
use Rattle.drf_journal.specs.declared.fault.RunFault.{RunFault}
use Rattle.drf_journal.specs.declared.fault.RunFault.TheVariants.{Read, Write, Memory}
use Rattle.drf_drive.specs.declared.script.ScriptFault.{ScriptFault}
use Rattle.drf_drive.specs.declared.script.ScriptFault.TheVariants.{Run, Unread}

-- the bytes as lists
abbrev pub bytes_of : List (Vec ℕ) → List (List ℕ)
bytes_of contents = map (λ bytes. bytes.items) contents

-- the files with these names were read, in order, and these are their bytes
abbrev pub AreContents : Known → List (List ℕ) → List (List ℕ) → Type 0
AreContents known [] [] = Unit {0}
AreContents known (name ∷ names) (bytes ∷ contents) = MayHave (known name) bytes × AreContents known names contents
AreContents known _ _ = ⊥

-- the file at this index, from 0, cannot be read, and all before it were read
pub record HasUnread (known : Known) (names : List (List ℕ)) (file : ℕ) : Type 0 where
  pub before : List (List ℕ)
  pub name : List ℕ
  pub after : List (List ℕ)
  pub one : names ≡ before ++ name ∷ after
  pub place : file ≡ length before
  pub contents : List (List ℕ)
  pub read : AreContents known before contents
  pub unread : MayBeUnreadable (known name)

-- the error for the file at this index, which could not be read
abbrev pub fault_of : ℕ → RunFault → ScriptFault
fault_of file Read = Unread file
fault_of file Write = Run Write
fault_of file Memory = Run Memory

-- why not all files were read
abbrev pub IsUnread : Known → List (List ℕ) → ScriptFault → Type 0
IsUnread known names (Unread file) = HasUnread known names file
IsUnread known names (Run Memory) = ⊤
IsUnread known names _ = ⊥
