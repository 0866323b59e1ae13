use Rattle.std.proofs.Common.{◌≡◌, ◌++◌, ◌∷◌, [], List, ℕ, Ok, sym, ap, subst, ◌∙◌}
use Rattle.hex.specs.Hex.{encode_lower}
use Rattle.sha2.specs.Sha256.{sha256}
use Rattle.drf_saved.specs.Saved.{saved_rows}
use Rattle.drf_saved.specs.declared.saved.StateLine.TheVariants as says
use Rattle.drf_lines.specs.StateLine.{end_line}
use Rattle.drf_lines.specs.StateMeaning.{state_line_meaning}
use Rattle.drf_state.specs.LinedText.{LinedBytes, begun_text, with_rows}
use Rattle.drf_state.specs.State.{body_text, closing, lines_before, state_in}
use Rattle.drf_state.proofs.Written.{text_of}
use Rattle.drf_state.proofs.writer.write_state.Goals as goal

pub returns-clause-text : goal.returns-clause-text
returns-clause-text c =
    let rows = c.args.rows.now in
    let text : c.push_rows.new.text ≡ with_rows (begun_text rows) (saved_rows rows) =
    c.in_ok-push_rows.ensures.ok ∙ ap (λ t. with_rows t (saved_rows rows)) c.in_ok-text.ensures.begun in
    let bytes : c.into_bytes-bytes.result.items ≡ body_text rows = c.into_bytes-bytes.ensures ∙ ap (λ (t : LinedBytes). t.bytes) text in
    let lines : c.lines-lines.result ≡ lines_before rows = c.lines-lines.ensures ∙ ap (λ (t : LinedBytes). t.lines) text in
    let read : c.deref.result.now ≡ c.into_bytes-bytes.result.items =
    c.deref.ensures.value ∙ ap (λ (t : LinedBytes). t.bytes) c.text.view_is ∙ sym c.into_bytes-bytes.ensures in
    let digest : c.as_str.result.now ≡ encode_lower (sha256 c.into_bytes-bytes.result.items) =
    c.as_str.ensures.value ∙ c.in_ok-digest.ensures ∙ ap (λ (b : List ℕ). encode_lower (sha256 b)) read in
    c.in_ok-push.ensures.items ∙ ap (λ (bs : List ℕ). bs ++ 10 ∷ []) c.in_ok-push_end.ensures.appends.ok
    ∙ text_of rows c.into_bytes-bytes.result.items c.lines-lines.result c.as_str.result.now bytes lines digest

pub returns-clause-said : goal.returns-clause-said
returns-clause-said c =
    let rows = c.args.rows.now in
    let text : c.push_rows.new.text ≡ with_rows (begun_text rows) (saved_rows rows) =
    c.in_ok-push_rows.ensures.ok ∙ ap (λ t. with_rows t (saved_rows rows)) c.in_ok-text.ensures.begun in
    let bytes : c.into_bytes-bytes.result.items ≡ body_text rows = c.into_bytes-bytes.ensures ∙ ap (λ (t : LinedBytes). t.bytes) text in
    let lines : c.lines-lines.result ≡ lines_before rows = c.lines-lines.ensures ∙ ap (λ (t : LinedBytes). t.lines) text in
    let read : c.deref.result.now ≡ c.into_bytes-bytes.result.items =
    c.deref.ensures.value ∙ ap (λ (t : LinedBytes). t.bytes) c.text.view_is ∙ sym c.into_bytes-bytes.ensures in
    let digest : c.as_str.result.now ≡ encode_lower (sha256 (body_text rows)) =
    c.as_str.ensures.value ∙ c.in_ok-digest.ensures ∙ ap (λ (b : List ℕ). encode_lower (sha256 b)) (read ∙ bytes) in
    let last : end_line c.lines-lines.result c.as_str.result.now ≡ closing (body_text rows) (lines_before rows) = (λ i. end_line (lines i) (digest i)) in
    λ limits can. ap (state_in limits) (returns-clause-text c)
    ∙ c.state_law.ensures.said limits rows can (record {
      head = c.in_ok-text.ensures.read;
      each = c.in_ok-push_rows.ensures.read;
      end = subst (λ (line : List ℕ). state_line_meaning line ≡ Ok says.End) last c.in_ok-push_end.ensures.read;
    })
