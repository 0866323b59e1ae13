use Rattle.std.proofs.Common.{lit<, refl, sym, subst, Result, Option}
use Rattle.std.proofs.lemmas.Str.Pattern.{split_once_first, strip_suffix_char}
use Rattle.drf_text.proofs.Names.{Text, IsCutAs, view_head, TextFault}
use Rattle.drf_text.proofs.Cuts.{head_without_role, head_with_role, head_open}
use Rattle.drf_text.proofs.piece.cut_head.Goals as goal

pub returns-in-None : goal.returns-in-None
returns-in-None c =
    let split = split_once_first 40 c.args.head.now c.split_once.result c.split_once.ensures.cases (lit< tt) in
    subst (λ (meaning : Result (Text × Option Text) TextFault). IsCutAs view_head c.cut_plain_head.result meaning)
    (sym (head_without_role c.args.head.now (rw c.in-None.is at split))) c.cut_plain_head.ensures

pub returns-in-Some-strip_suffix : goal.returns-in-Some-strip_suffix
returns-in-Some-strip_suffix c =
    let split = rw c.in-Some.is at (split_once_first 40 c.args.head.now c.split_once.result c.split_once.ensures.cases (lit< tt)) in
    let closed = rw c.in-Some-strip_suffix.is at (strip_suffix_char 41 c.in-Some.rest.now c.strip_suffix.result c.strip_suffix.ensures.cases (lit< tt)) in
    rw (c.trim.ensures, c.trim-in-Some-strip_suffix.ensures, split.1) (head_with_role c.args.head.now c.in-Some.rest.now _ split.0 split.2 closed)

pub returns-in-None-strip_suffix : goal.returns-in-None-strip_suffix
returns-in-None-strip_suffix c =
    let split = rw c.in-Some.is at (split_once_first 40 c.args.head.now c.split_once.result c.split_once.ensures.cases (lit< tt)) in
    let open_end = rw c.in-None-strip_suffix.is at (strip_suffix_char 41 c.in-Some.rest.now c.strip_suffix.result c.strip_suffix.ensures.cases (lit< tt)) in
    (refl, head_open c.args.head.now c.in-Some.rest.now split.0 split.2 open_end)
