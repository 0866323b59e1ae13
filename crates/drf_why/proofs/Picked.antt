-- The lines of those findings that pass a test.
use Rattle.std.specs.Prelude.{◌≡◌, ℕ, ◌+◌, ◌<◌, ◌≤◌, Bool, List, [], ◌∷◌, ◌++◌, length, filter, drop, get_or, if◌then◌else◌}
use Rattle.std.proofs.Common.{refl, sym, ap, ◌∙◌, inl, inr, append_assoc, append-nil}
use Rattle.std.proofs.lemmas.Bool.{cases_Bool}
use Rattle.std.proofs.lemmas.List.{at_drop_more, drop_all}
use Rattle.drf_explain.specs.ExplainedText.{finding_text, explained_text}
use Rattle.drf_explain.specs.declared.finding.Finding.{Finding}

one_more : (test : Finding → Bool) (finding : Finding) (findings : List Finding)
    → (if test finding then finding_text finding else []) ++ explained_text (filter test findings) ≡ explained_text (filter test (finding ∷ findings))
one_more test finding findings = elim (cases_Bool (test finding)) [ inl here ↦ rw here refl | inr past ↦ rw past refl ]

module _ (test : Finding → Bool) (whole : List ℕ) (findings : List Finding) (i : ℕ) where
  pub picked_more : (old new : List ℕ) (finding : Finding) → i < length findings → finding ≡ get_or findings i finding
      → new ≡ old ++ (if test finding then finding_text finding else [])
      → old ++ explained_text (filter test (drop i findings)) ≡ whole → new ++ explained_text (filter test (drop (i + 1) findings)) ≡ whole
  picked_more old new finding inside is added so_far =
      let later : List Finding = drop (i + 1) findings in
      ap (λ text. text ++ explained_text (filter test later)) added
      ∙ append_assoc old (if test finding then finding_text finding else []) (explained_text (filter test later))
      ∙ ap (λ text. old ++ text) (one_more test finding later)
      ∙ ap (λ f. old ++ explained_text (filter test (f ∷ later))) is
      ∙ sym (at_drop_more (λ fs. old ++ explained_text (filter test fs)) findings i finding inside)
      ∙ so_far

  pub picked_over : (text : List ℕ) → length findings ≤ i → text ++ explained_text (filter test (drop i findings)) ≡ whole → text ≡ whole
  picked_over text past so_far =
      sym (append-nil text) ∙ sym (ap (λ fs. text ++ explained_text (filter test fs)) (drop_all i findings past)) ∙ so_far
