use Rattle.std.proofs.Common.{◌≡◌, [], List, length, sym, ap, subst, ◌∙◌}
use Rattle.drf_board.specs.Chains.{entries_of, end_of}
use Rattle.drf_board.specs.History.{IsLegal}
use Rattle.drf_board.specs.declared.entry.Entry.{Entry}
use Rattle.drf_board.proofs.HistoryLaws.{legal-nil}
use Rattle.drf_board.proofs.author.Author.new.Goals as goal

pub invariant_of-result : goal.invariant_of-result
invariant_of-result g c =
    let slate = g.K.Naming.slate in
    let none : entries_of slate.chain c.args.seen.log ≡ [] = ap (entries_of slate.chain) c.requires.seen.1 in (
      sym (ap length none),
      c.requires.seen.0,
      subst (λ (l : List Entry). IsLegal slate.limits g.K.Naming.start l) (sym none) (legal-nil slate.limits g.K.Naming.start),
      c.requires.head,
      c.requires.root,
      record {
        book = c.requires.pen.0;
        right = c.requires.pen.1;
        key = c.requires.pen.2 ∙ sym (ap (end_of slate.chain) c.requires.seen.1);
      },
    )
