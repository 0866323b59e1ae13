use Rattle.std.proofs.Common.{◌≡◌, ◌++◌, string_bytes, take, map}
use Rattle.std.specs.List.{join_with_byte}
use Rattle.drf_text.proofs.write.push_names.Given as goal

-- the text is that of the names so far
abbrev pub invariant-loop-i : goal.invariant-loop-i
invariant-loop-i l = string_bytes l.text ≡ string_bytes l.fn.text ++ join_with_byte 44 (map (λ name. name) (take l.i l.names))
