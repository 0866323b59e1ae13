use Rattle.std.proofs.Common.{◌≡◌, ◌++◌, string_bytes, take, map, All}
use Rattle.std.specs.List.{join_with_byte}
use Rattle.drf_text.proofs.Names.{IsEntry, quantity_text}
use Rattle.drf_text.proofs.write.push_quantities.Given as goal

-- the text is that of the entries so far, and each entry has a valid name and amount
abbrev pub invariant-loop-i : goal.invariant-loop-i
invariant-loop-i l =
    (string_bytes l.text ≡ string_bytes l.fn.text ++ join_with_byte 59 (map quantity_text (take l.i l.entries))) × All IsEntry (take l.i l.entries)
