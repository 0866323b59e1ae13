use Rattle.std.proofs.Common.{◌+◌, length, drop, get_or, [], ◌∷◌, ◌++◌, refl, sym, ◌∙◌, ap, inl, inr, ⊎_elim, arith}
use Rattle.std.proofs.lemmas.Bool.{false≢true}
use Rattle.std.proofs.lemmas.Bool.Decides.{Decides-eqb}
use Rattle.std.proofs.lemmas.List.{append-nil, drop_more, drop_all, get_or_at}
use Rattle.std.proofs.lemmas.Slice.Eq.{starts_is}
use Rattle.drf_role.specs.Parts.{GoesOn}
use Rattle.drf_role.proofs.joined.goes_on.Goals.{else-text-prefix-via-then-text-prefix+else-text-prefix-ne47, else-text-prefix-via-else-text-prefix}
use Rattle.drf_role.proofs.joined.goes_on.Goals as goal

-- the text is longer, and the byte after the prefix is not `/`
pub returns-then-text-prefix-ne47 : goal.returns-then-text-prefix-ne47
returns-then-text-prefix-ne47 c =
    let text = c.args.text.now in
    let prefix = c.args.prefix.now in
    let is_longer = c.if-text-prefix.true in (
      λ e. absurd (false≢true e),
      λ h. ⊎_elim
          (λ e. absurd (let n = ap length e in omega arith))
          (λ m. absurd (c.if-text-prefix-ne47.true (ap (λ t. get_or t (length prefix) 0) m.1 ∙ get_or_at prefix 47 m.0 0 (length prefix) refl)))
          h,
    )

pub returns : goal.returns
returns c =
    let text = c.args.text.now in
    let prefix = c.args.prefix.now in
    let is = starts_is Decides-eqb text prefix _ c.starts_with.ensures.value in
    let has_prefix = λ (h : GoesOn text prefix). ⊎_elim (λ e. is.1 [] (e ∙ sym (append-nil prefix))) (λ m. is.1 (47 ∷ m.0) m.1) h in
    elim c.else-text-prefix.branch [
      | else-text-prefix-via-then-text-prefix+else-text-prefix-ne47 w ↦ (
        λ e. inr (drop (length prefix + 1) text, is.0 e ∙ ap (λ r. prefix ++ r) (drop_more text (length prefix) 0 w.if-text-prefix.true ∙ ap (λ b. b ∷ drop (length prefix + 1) text) w.if-text-prefix-ne47.false)),
        has_prefix,
      )
      | else-text-prefix-via-else-text-prefix w ↦ (
        λ e.
            let is_short = w.if-text-prefix.false in
            inl (is.0 e ∙ ap (λ r. prefix ++ r) (drop_all (length prefix) text (omega arith)) ∙ append-nil prefix),
        has_prefix,
      )
    ]
