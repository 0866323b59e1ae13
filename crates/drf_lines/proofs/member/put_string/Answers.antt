use Rattle.std.proofs.Common.{ℕ, List, [], ◌∷◌, ◌++◌, ◌-◌, length, take, drop, take_all, ap, ◌∙◌, sym, arith}
use Rattle.json.specs.Print.{escape}
use Rattle.drf_lines.proofs.Appends.{appended, and_then}
use Rattle.drf_lines.proofs.ReplyTexts.{plain_is_kept, string_end_utf8}
use Rattle.drf_lines.proofs.member.put_string.Goals as goal

pub returns-then-is_plain : goal.returns-then-is_plain
returns-then-is_plain c =
    rw (plain_is_kept c.args.text.now (sym c.is_plain.ensures ∙ c.if-is_plain.true)) (and_then c.in_ok-put.ensures c.put_byte.ensures)

pub returns : goal.returns
returns c =
    let behind : List ℕ = escape c.args.text.now ++ 34 ∷ [] in
    appended c.extend_from_slice.result c.args.line.now.items behind c.extend_from_slice.ensures.items
    (ap (λ (bytes : List ℕ). take (length bytes - 1) (drop 1 bytes)) (c.deref.ensures.value ∙ c.in_ok-string.ensures) ∙ take_all _ behind (omega arith))
    (string_end_utf8 c.args.text.now c.utf8.text)
