-- Bytes that are written in several calls.
use Rattle.std.proofs.Common.{◌≡◌, ℕ, List, ◌++◌, length, take, drop, Option, sym, ap, ◌∙◌, subst, append_assoc, take-append-drop}
use Rattle.std.proofs.Math.Seq.{take-append_seam}
use Rattle.std.specs.Io.KnownBytes.{Appends, Keeps}
use Rattle.std.proofs.KnownBytes.{Appends-trans, Appends-kept}
use Rattle.drf_journal.specs.Device.{AppendsPrefixOf}

-- a prefix of the bytes was written, and the rest remains
pub record WrotePrefix (old now : Option (List ℕ)) (bytes rest : List ℕ) : Type 0 where
  pub prefix : List ℕ
  pub whole : bytes ≡ prefix ++ rest
  pub appended : Appends old now prefix

pub wrote-more : (old now next : Option (List ℕ)) (bytes rest : List ℕ) (count : ℕ) → WrotePrefix old now bytes rest
    → Appends now next (take count rest)
    → WrotePrefix old next bytes (drop count rest)
wrote-more old now next bytes rest count wrote more = record {
  prefix = wrote.prefix ++ take count rest;
  whole = wrote.whole ∙ ap (λ l. wrote.prefix ++ l) (sym (take-append-drop count rest))
      ∙ sym (append_assoc wrote.prefix (take count rest) (drop count rest));
  appended = Appends-trans old now next wrote.prefix (take count rest) wrote.appended more;
}

pub wrote-kept : (old now next : Option (List ℕ)) (bytes rest : List ℕ) → WrotePrefix old now bytes rest → Keeps now next
    → WrotePrefix old next bytes rest
wrote-kept old now next bytes rest wrote kept =
    record {
      prefix = wrote.prefix;
      whole = wrote.whole;
      appended =
          Appends-kept old now next wrote.prefix wrote.appended kept;
    }

pub wrote-prefix : (old now : Option (List ℕ)) (bytes rest : List ℕ) → WrotePrefix old now bytes rest
    → AppendsPrefixOf old now bytes
wrote-prefix old now bytes rest wrote =
    let cut : wrote.prefix ≡ take (length wrote.prefix) bytes =
    sym (ap (take (length wrote.prefix)) wrote.whole ∙ take-append_seam wrote.prefix rest) in
    (length wrote.prefix, subst (Appends old now) cut wrote.appended)
