use Rattle.std.proofs.Common.{subst}
use Rattle.drf_role.specs.LabelText.{IsNumbered}
use Rattle.drf_role.proofs.LabelTextLemmas.{numbered_long, numbered_short}
use Rattle.drf_role.proofs.label_text.text_number.Goals as goal

pub returns-then-bytes-gt-MAX_NUMBERED_LEN : goal.returns-then-bytes-gt-MAX_NUMBERED_LEN
returns-then-bytes-gt-MAX_NUMBERED_LEN c =
    subst (λ text. IsNumbered text 0) c.as_bytes-bytes.ensures.value
    (numbered_long c.as_bytes-bytes.result.now c.if-bytes-gt-MAX_NUMBERED_LEN.true)

pub returns : goal.returns
returns c =
    subst (λ text. IsNumbered text c.number_of.result) c.as_bytes-bytes.ensures.value
    (numbered_short c.as_bytes-bytes.result.now c.number_of.result c.if-bytes-gt-MAX_NUMBERED_LEN.false c.number_of.ensures.number c.number_of.ensures.bytes)
