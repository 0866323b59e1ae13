use Rattle.std.proofs.Common.{◌≡◌, map, take}
use Rattle.drf_drive.specs.Files.{AreContents, bytes_of}
use Rattle.drf_drive.proofs.files.read_files.Given as goal

-- the bytes of the files so far
abbrev pub invariant-loop-name : goal.invariant-loop-name
invariant-loop-name g l = record {
  same : g.F.FileBytes.known l.files ≡ g.F.FileBytes.known l.fn.files;
  read : AreContents (g.F.FileBytes.known l.fn.files) (map g.S.AsStr.text (take l.name-index l.names)) (bytes_of l.contents.items);
}
