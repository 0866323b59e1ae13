use Rattle.std.proofs.Common.{◌≡◌, ◌≢◌, ◌⊎◌, inl, inr, true, false, sym, ◌∙◌, ap, eqb}
use Rattle.std.specs.Prelude.{not}
use Rattle.std.proofs.lemmas.Bool.Decides.{eqb_tells}
use Rattle.drf_role.specs.LabelText.{bytes_of}
use Rattle.drf_role.specs.TextLaws.{test_from_same}
use Rattle.drf_role.proofs.LabelTextLemmas.{known_by_number}
use Rattle.drf_role.proofs.label_text.LabelTextPartialEq.eq.Goals as goal

pub returns-then-self-ne0 : goal.returns-then-self-ne0
returns-then-self-ne0 c =
    let a = c.self.inside in
    let b = c.other.inside in
    let same = known_by_number (bytes_of a.bytes) (bytes_of b.bytes) a.number b.number c.self.invariant c.other.invariant c.if-self-ne0.true c.if-self-other.false in
    rw (← c.self.view_is, ← c.other.view_is)
    (by (eqb_tells a.number 0) ∙ sym (test_from_same (bytes_of a.bytes) (bytes_of b.bytes) same))
  where
    by : ((eqb c.self.inside.number 0 ≡ true) × (c.self.inside.number ≡ 0)) ⊎ ((eqb c.self.inside.number 0 ≡ false) × (c.self.inside.number ≢ 0)) → not (eqb c.self.inside.number 0) ≡ true
    by w = elim w [
      | inl zero ↦ absurd (c.if-self-ne0.true zero.1)
      | inr some ↦ ap not some.0
    ]
