use Rattle.std.proofs.Common.{◌≡◌, ◌++◌, ◌∷◌, [], List, ℕ, refl, sym, ap, ◌∙◌, append_assoc, append-nil}
use Rattle.drf_lines.specs.Meaning.{meaning_of}
use Rattle.drf_journal.specs.JournalLaws.{LineFeedEndsLine, LineGoesOn, EndedLinesStay, OutputLineByLine}
use Rattle.drf_journal.specs.Lines.{ended_lines_of, open_line_of}
use Rattle.drf_journal.specs.State.{machine_after, answer_to}
use Rattle.drf_journal.proofs.Texts.{text-lines}
use Rattle.drf_journal.proofs.Cuts.{goes_on, ended-feed, open-feed, ended-within, open-within, within-nil, within-append}
use Rattle.drf_journal.proofs.Kept.{kept-append, meaning-kept, answer-kept}
use Rattle.drf_journal.proofs.laws.line_law.Goals as goal

feed : LineFeedEndsLine
feed read end within =
    let on = goes_on read (end ++ 10 ∷ []) in
    let line = open_line_of read ++ end in
    let one = within-append (open_line_of read) end on.within within in
    let whole : open_line_of read ++ (end ++ 10 ∷ []) ≡ line ++ 10 ∷ [] = sym (append_assoc (open_line_of read) end (10 ∷ [])) in (
      on.lines ∙ ap (λ (l : List ℕ). ended_lines_of read ++ ended_lines_of l) whole
          ∙ ap (λ ls. ended_lines_of read ++ ls)
          (ended-feed line 10 [] one refl ∙ ap (λ ls. line ∷ ls) (ended-within [] within-nil)),
      on.line ∙ ap open_line_of whole ∙ open-feed line 10 [] one refl ∙ open-within [] within-nil,
    )

more : LineGoesOn
more read bytes within =
    let on = goes_on read bytes in
    let one = within-append (open_line_of read) bytes on.within within in (
      on.lines ∙ ap (λ ls. ended_lines_of read ++ ls) (ended-within (open_line_of read ++ bytes) one)
          ∙ append-nil (ended_lines_of read),
      on.line ∙ open-within (open_line_of read ++ bytes) one,
    )

stay : EndedLinesStay
stay read bytes = (ended_lines_of (open_line_of read ++ bytes), (goes_on read bytes).lines)

output : OutputLineByLine
output machine echo line lines =
    text-lines machine echo (line ∷ lines)
    ∙ ap (λ text. answer_to echo machine line ++ text) (sym (text-lines (machine_after machine (meaning_of line)) echo lines))

pub returns : goal.returns
returns c = record {
  feed = feed;
  within = more;
  ended = stay;
  kept = kept-append;
  meaning = meaning-kept;
  answer = answer-kept;
  output = output;
}
