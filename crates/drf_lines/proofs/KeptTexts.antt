-- The text of each node is where it was written, even after more is appended.
use Rattle.std.proofs.Common.{◌≡◌, ℕ, zero, suc, ◌+◌, ◌-◌, ◌<◌, ◌≤◌, List, [], ◌∷◌, ◌++◌, Some, take, drop, length, refl, sym, ap, ◌∙◌, subst, inl, inr, length-append, arith}
use Rattle.std.specs.Prelude.{slice_get, slice_index_or, nat_lt, true}
use Rattle.std.proofs.lemmas.Bool.{cases_lt, ltb-true}
use Rattle.std.proofs.lemmas.List.{drop-append-le, take-append-le, take_all, length-drop}
use Rattle.std.proofs.lemmas.Option.{slice_get_within, slice_get_read}
use Rattle.serde_json.specs.Written.{compact_text}
use Rattle.drf_rows.specs.declared.report.NodeLine.{NodeLine}
use Rattle.drf_lines.specs.declared.last_report.Span.{Span}
use Rattle.drf_lines.specs.LastReport.{AreTexts, IsTextOf}
use Rattle.drf_lines.specs.ReportLine.{node_value}

text_more : (text more : List ℕ) (span : Span) (node : NodeLine) → IsTextOf text span node → IsTextOf (text ++ more) span node
text_more text more span node is =
    let inside : span.start ≤ length text = omega (arith, is.forward, is.within) in
    let count : span.end - span.start ≤ length (drop span.start text) = omega (arith, length-drop span.start text, is.forward, is.within) in
    record {
      forward = is.forward;
      within = omega (arith, length-append text more, is.within);
      same = ap (take (span.end - span.start)) (drop-append-le span.start text more inside)
          ∙ take-append-le (span.end - span.start) (drop span.start text) more count ∙ is.same;
    }

pub texts_more : (text more : List ℕ) {new : List ℕ} (spans : List Span) (nodes : List NodeLine) → new ≡ text ++ more → AreTexts text spans nodes → AreTexts new spans nodes
texts_more text more spans nodes is are i span node at its =
    subst (λ (bytes : List ℕ). IsTextOf bytes span node) (sym is) (text_more text more span node (are i span node at its))

pub text_written : (text : List ℕ) {new : List ℕ} (span : Span) (node : NodeLine) → new ≡ text ++ compact_text (node_value node)
    → span.start ≡ length text → span.end ≡ length new → IsTextOf new span node
text_written text {new} span node is start end =
    let added = compact_text (node_value node) in
    let long : length new ≡ length text + length added = ap length is ∙ length-append text added in
    record {
      forward = omega (arith, start, end, long);
      within = omega (arith, end);
      same =
          ap (take (span.end - span.start)) (ap (drop span.start) is ∙ drop-append-le span.start text added (omega (arith, start)))
          ∙ ap (λ (prefix : List ℕ). take (span.end - span.start) (prefix ++ added)) (nothing_left span.start text (omega (arith, start)))
          ∙ take_all (span.end - span.start) added (omega (arith, start, end, long));
    }
  where
    nothing_left : (n : ℕ) (bytes : List ℕ) → length bytes ≤ n → drop n bytes ≡ []
    nothing_left zero [] long = refl
    nothing_left zero (b ∷ bytes) long = absurd (omega arith)
    nothing_left (suc n) [] long = refl
    nothing_left (suc n) (b ∷ bytes) long = nothing_left n bytes (omega arith)

get_prefix : {A : Type 0} (xs : List A) (x : A) (i : ℕ) → i < length xs → slice_get (xs ++ x ∷ []) i ≡ slice_get xs i
get_prefix [] x i within = absurd (omega arith)
get_prefix (y ∷ xs) x zero within = refl
get_prefix (y ∷ xs) x (suc i) within = get_prefix xs x i (omega arith)

get_end : {A : Type 0} (xs : List A) (x : A) → slice_get (xs ++ x ∷ []) (length xs) ≡ Some x
get_end [] x = refl
get_end (y ∷ xs) x = get_end xs x

some_same : {A : Type 0} (x y : A) → Some x ≡ Some y → x ≡ y
some_same x y e = cc

pub texts_pushed : (text : List ℕ) (spans : List Span) (span : Span) (nodes : List NodeLine) (node : NodeLine)
    → slice_get nodes (length spans) ≡ Some node → AreTexts text spans nodes → IsTextOf text span node → AreTexts text (spans ++ span ∷ []) nodes
texts_pushed text spans span nodes node here are is i s n at its =
    elim (cases_lt i (length spans)) [
      | inl before ↦ are i s n (sym (get_prefix spans span i before) ∙ at) its
      | inr past ↦
          let last : i ≡ length spans =
          omega (arith, past, slice_get_within (spans ++ span ∷ []) i s at, length-append spans (span ∷ [])) in
          let same_span : span ≡ s = some_same span s (sym (get_end spans span) ∙ ap (slice_get (spans ++ span ∷ [])) (sym last) ∙ at) in
          let same_node : node ≡ n = some_same node n (sym here ∙ ap (slice_get nodes) (sym last) ∙ its) in
          subst (λ (other : Span). IsTextOf text other n) same_span (subst (λ (other : NodeLine). IsTextOf text span other) same_node is)
    ]

pub no_texts : (text : List ℕ) (spans : List Span) (nodes : List NodeLine) → spans ≡ [] → AreTexts text spans nodes
no_texts text spans nodes none i span node at its = absurd (omega (arith, slice_get_within spans i span at, ap length none))

-- the element that was found at an index
found_at : {A : Type 0} (xs its : List A) (i : ℕ) (x : A) → its ≡ xs → true ≡ nat_lt i (length its) → x ≡ slice_index_or its i x → slice_get xs i ≡ Some x
found_at {A} xs its i x same few here =
    subst (λ (l : List A). slice_get l i ≡ Some x) same (slice_get_read its (length its) i x refl (ltb-true i (length its) (sym few)) here)

pub text_there : (text : List ℕ) (spans its : List Span) (nodes rows : List NodeLine) (i : ℕ) (span : Span) (node : NodeLine)
    → its ≡ spans → true ≡ nat_lt i (length its) → span ≡ slice_index_or its i span
    → rows ≡ nodes → true ≡ nat_lt i (length rows) → node ≡ slice_index_or rows i node
    → AreTexts text spans nodes → IsTextOf text span node
text_there text spans its nodes rows i span node same few here rows_same rows_few rows_here are =
    are i span node (found_at spans its i span same few here) (found_at nodes rows i node rows_same rows_few rows_here)
