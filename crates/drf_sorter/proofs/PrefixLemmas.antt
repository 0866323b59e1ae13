-- Tests whether a path begins with a node, and whether it is the node.
use Rattle.std.proofs.Common.{◌≡◌, ◌<◌, ◌+◌, ℕ, true, false, List, [], Some, length, take, get_or, slice_get, sym, ap, ◌∙◌, arith}
use Rattle.std.specs.Cmp.Lexicographic.{pointwise_decides, bytes_decides}
use Rattle.std.proofs.lemmas.Bool.{false≢true, false_from_ne_true}
use Rattle.std.proofs.lemmas.List.{length-take, take_all, get_or-take, take_more_same}
use Rattle.std.proofs.lemmas.Option.{get_or_from_slice_get}
use Rattle.drf_role.specs.Text.{same_text}
use Rattle.drf_role.specs.Parts.{parts_of, text_of}
use Rattle.drf_role.specs.Path.{same_path, begins_with}
use Rattle.drf_role.specs.PathLaws.{path_decides}
use Rattle.std.proofs.lemmas.Bool.Decides.{same_from_decides, Decides-like}

module _ (path node : List (List ℕ)) where
  whole : take (length node) node ≡ node
  whole = take_all (length node) node (omega arith)

  pub begins_from : take (length node) path ≡ take (length node) node → begins_with path node ≡ true
  begins_from same = (pointwise_decides bytes_decides node (take (length node) path)).1 (sym (same ∙ whole))

  pub begins_to : begins_with path node ≡ true → take (length node) path ≡ node
  begins_to begins = sym ((pointwise_decides bytes_decides node (take (length node) path)).0 begins)

  pub begins_short : length path < length node → begins_with path node ≡ false
  begins_short short = false_from_ne_true (begins_with path node)
      (λ begins. omega (arith, ap length (begins_to begins), length-take (length node) path))

  pub begins_differ : (i : ℕ) (a b : List ℕ) → i < length node → slice_get path i ≡ Some a → slice_get node i ≡ Some b
      → same_text a b ≡ false → begins_with path node ≡ false
  begins_differ i a b below here there differ = false_from_ne_true (begins_with path node)
      (λ begins.
      let heads : get_or path i [] ≡ get_or node i [] =
      sym (get_or-take (length node) path i [] below) ∙ ap (λ n. get_or n i []) (begins_to begins) in
      let same : a ≡ b =
      sym (get_or_from_slice_get path i a [] here) ∙ heads ∙ get_or_from_slice_get node i b [] there in
      false≢true (sym differ ∙ (bytes_decides a b).1 same))

  pub heads_more : (i : ℕ) (a b : List ℕ) → i < length path → i < length node → slice_get path i ≡ Some a
      → slice_get node i ≡ Some b → same_text a b ≡ true → take i path ≡ take i node
      → take (i + 1) path ≡ take (i + 1) node
  heads_more i a b inside below here there same heads =
      take_more_same path node i [] inside (omega arith) heads
      (get_or_from_slice_get path i a [] here ∙ (bytes_decides a b).0 same
      ∙ sym (get_or_from_slice_get node i b [] there))

-- paths are equal if and only if their texts are
pub same_as_texts : (a b : List (List ℕ)) (s t : List ℕ) → s ≡ text_of a → t ≡ text_of b → parts_of s ≡ a
    → parts_of t ≡ b → same_text s t ≡ same_path a b
same_as_texts a b s t text_a text_b parts_a parts_b =
    same_from_decides (same_text s t) (same_path a b) (bytes_decides s t)
    (Decides-like (same_path a b) (λ same. text_a ∙ ap text_of same ∙ sym text_b)
    (λ same. sym parts_a ∙ ap parts_of same ∙ parts_b) (path_decides a b))
