use Rattle.std.proofs.Common.{◌≡◌, ◌≤◌, ◌++◌}
use Rattle.std.specs.Char.Escape.{escape_ascii}
use Rattle.std.specs.Char.Iter.{escape_byte_end, escape_byte_rest}
use Rattle.drf_app.proofs.file_name.push_byte.Given as goal

-- the text so far, followed by the rest of the escaped byte, is the expected text
abbrev pub invariant-loop-escaped : goal.invariant-loop-escaped
invariant-loop-escaped l =
    (escape_byte_end l.escaped-iterator ≤ 4)
    × (l.text.items ++ escape_byte_rest l.escaped-iterator ≡ l.initial.text.items ++ escape_ascii l.byte)
