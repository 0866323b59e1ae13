use Rattle.std.proofs.Common.{◌≡◌, ◌∷◌, ◌++◌, [], drop}
use Rattle.json.specs.Print.{escape, quoted}
use Rattle.drf_ask.proofs.text.push_string.Given as goal

abbrev pub invariant-loop-byte : goal.invariant-loop-byte
invariant-loop-byte l =
    l.text.items ++ (escape (drop l.byte-index l.bytes) ++ 34 ∷ []) ≡ l.fn.text.items ++ quoted l.bytes
