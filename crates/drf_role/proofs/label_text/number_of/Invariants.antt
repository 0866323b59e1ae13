use Rattle.std.proofs.Common.{◌≡◌, ◌<◌, ◌^◌, All, fold, take}
use Rattle.drf_role.specs.LabelText.{IsByte, with_digit}
use Rattle.drf_role.proofs.label_text.number_of.Given as goal

abbrev pub invariant-loop-byte : goal.invariant-loop-byte
invariant-loop-byte l =
    (l.number ≡ fold with_digit 0 (take l.byte-index l.bytes))
    × (l.number < 256 ^ l.byte-index)
    × All IsByte (take l.byte-index l.bytes)
