use Rattle.std.proofs.Common.{sym, subst, ◌∙◌, List}
use Rattle.drf_board.specs.Sheets.{IsSheet}
use Rattle.drf_board.specs.declared.entry.Entry.{Entry}
use Rattle.drf_board.proofs.board.Board.open.Goals as goal

pub new-requires : goal.new-requires
new-requires g c =
    subst (λ (l : List Entry). IsSheet g.K.Naming.slate.limits g.K.Naming.start l c.args.first_sheet)
    (sym (c.again.ensures ∙ (c.known-prefix.ensures ∙ c.into_author-author.ensures))) c.requires.sheet
