-- Lemmas about a journal that is written in chunks.
use Rattle.std.proofs.Common.{◌≡◌, ℕ, ◌+◌, ◌<◌, List, [], ◌∷◌, ◌++◌, length, get_or, take, drop, Option, sym, ap, ◌∙◌, subst, append_assoc, append-nil, take-append-drop}
use Rattle.std.proofs.Math.Seq.{take-append_seam}
use Rattle.std.proofs.lemmas.Grind.{flat_map-append}
use Rattle.std.specs.Io.KnownBytes.{Appends}
use Rattle.std.proofs.KnownBytes.{Appends-nil, Appends-trans}
use Rattle.drf_board.specs.declared.entry.Entry.{Entry}
use Rattle.drf_journal.specs.Device.{AppendsPrefixOf}
use Rattle.drf_drive.specs.JournalText.{HasSent, entry_text, journal_text}
use Rattle.drf_drive.proofs.Contents.{take-next}

pub sent-begins : (old : Option (List ℕ)) (text waits : List ℕ) → text ≡ waits → HasSent old old text waits
sent-begins old text waits same = record { sent = []; appended = Appends-nil old; whole = same }

-- more text is collected
pub sent-waits : (old now : Option (List ℕ)) (text waits more next waiting : List ℕ) → HasSent old now text waits → next ≡ text ++ more
    → waiting ≡ waits ++ more → HasSent old now next waiting
sent-waits old now text waits more next waiting sent longer waits_longer = record {
  sent = sent.sent;
  appended = sent.appended;
  whole = longer ∙ ap (λ l. l ++ more) sent.whole ∙ append_assoc sent.sent waits more ∙ ap (λ l. sent.sent ++ l) (sym waits_longer);
}

-- a part of the collected text is written
pub sent-more : (old now next : Option (List ℕ)) (text waits rest : List ℕ) → HasSent old now text waits → HasSent now next waits rest
    → HasSent old next text rest
sent-more old now next text waits rest sent more = record {
  sent = sent.sent ++ more.sent;
  appended = Appends-trans old now next sent.sent more.sent sent.appended more.appended;
  whole = sent.whole ∙ ap (λ l. sent.sent ++ l) more.whole ∙ sym (append_assoc sent.sent more.sent rest);
}

-- all collected text is written
pub sent-whole : (old now next : Option (List ℕ)) (text waits : List ℕ) → HasSent old now text waits → Appends now next waits
    → Appends old next text
sent-whole old now next text waits sent appended =
    subst (Appends old next) (sym sent.whole) (Appends-trans old now next sent.sent waits sent.appended appended)

-- a prefix of the collected text is written, and more text was to come
pub sent-prefix : (old now next : Option (List ℕ)) (text waits more whole : List ℕ) → HasSent old now text waits
    → AppendsPrefixOf now next waits → whole ≡ text ++ more → AppendsPrefixOf old next whole
sent-prefix old now next text waits more whole sent prefix longer =
    let part = take prefix.0 waits in
    let tail = drop prefix.0 waits ++ more in
    let parted : whole ≡ (sent.sent ++ part) ++ tail =
    longer ∙ ap (λ l. l ++ more) (sent.whole ∙ ap (λ l. sent.sent ++ l) (sym (take-append-drop prefix.0 waits))
    ∙ sym (append_assoc sent.sent part (drop prefix.0 waits)))
    ∙ append_assoc (sent.sent ++ part) (drop prefix.0 waits) more in
    let cut : sent.sent ++ part ≡ take (length (sent.sent ++ part)) whole =
    sym (ap (take (length (sent.sent ++ part))) parted ∙ take-append_seam (sent.sent ++ part) tail) in (
      length (sent.sent ++ part),
      subst (Appends old next) cut (Appends-trans old now next sent.sent part sent.appended prefix.1),
    )

-- nothing more is written
pub prefix-nothing : (now : Option (List ℕ)) (text : List ℕ) → AppendsPrefixOf now now text
prefix-nothing now text = (0, Appends-nil now)

-- ---- the entries

module _ (entries : List Entry) (i : ℕ) (entry : Entry) (inside : i < length entries) (is : entry ≡ get_or entries i entry) where
  pub text-next : journal_text (take (i + 1) entries) ≡ journal_text (take i entries) ++ entry_text entry
  text-next =
      ap journal_text (take-next entries i entry inside is) ∙ flat_map-append entry_text (take i entries) (entry ∷ [])
      ∙ ap (λ l. journal_text (take i entries) ++ l) (append-nil (entry_text entry))

pub text-parts : (entries : List Entry) (i : ℕ) → journal_text entries ≡ journal_text (take i entries) ++ journal_text (drop i entries)
text-parts entries i = ap journal_text (sym (take-append-drop i entries)) ∙ flat_map-append entry_text (take i entries) (drop i entries)
