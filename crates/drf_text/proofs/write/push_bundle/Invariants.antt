use Rattle.std.proofs.Common.{◌≡◌, ◌++◌, string_bytes, take, map}
use Rattle.std.specs.List.{join_with_byte}
use Rattle.drf_text.specs.Written.{resource_text}
use Rattle.drf_text.proofs.write.push_bundle.Given as goal

-- the text is that of the resources so far
abbrev pub invariant-loop-i : goal.invariant-loop-i
invariant-loop-i l = string_bytes l.text ≡ string_bytes l.fn.text ++ join_with_byte 59 (map resource_text (take l.i l.resources))
