use Rattle.std.proofs.Common.{List, sym, ap, subst, ◌+◌, ◌∙◌, arith}
use Rattle.indexmap.specs.IndexMap.{insert_entry}
use Rattle.drf_role.specs.Path.{Path, same_path}
use Rattle.drf_bundle.specs.declared.quantities.Entry.{Entry}
use Rattle.drf_gates.specs.quota.Allowance.{Usage, AreSome, counted, row_of, used_by, used_where}
use Rattle.drf_gates.proofs.quota.Something.{added_something, some_put}
use Rattle.drf_gates.proofs.quota.Used.{row_le, put_raises}
use Rattle.drf_gates.proofs.quota.usage.raise.Goals as goal

pub row_with-requires : goal.row_with-requires
row_with-requires c = λ label.
    let role : Path = c.args.role.now in
    let there : List Usage = c.raise_there.new.used.entries in
    let same = c.raise_there.ensures.not c.if-raise_there.false in
    omega (arith, row_le there role label, ap (λ (us : List Usage). used_by us role label) same, c.requires label)

pub returns-clause-ok : goal.returns-clause-ok
returns-clause-ok c = λ test label.
    let role : Path = c.args.role.now in
    let amounts : List Entry = c.args.amounts.now in
    let there : List Usage = c.raise_there.new.used.entries in
    let sum : List Entry = c.in_ok-sum.sum in
    let same = c.raise_there.ensures.not c.if-raise_there.false in
    ap (λ (us : List Usage). used_where test us label)
    (c.in_ok-insert.ensures.entries ∙ ap (λ (r : Path). insert_entry same_path there r sum) c.in_ok-role.ensures)
    ∙ put_raises there role sum amounts c.in_ok-sum.ensures test label
    ∙ ap (λ (us : List Usage). used_where test us label + counted test role amounts label) same

pub returns-clause-some : goal.returns-clause-some
returns-clause-some c = λ all.
    let role : Path = c.args.role.now in
    let amounts : List Entry = c.args.amounts.now in
    let there : List Usage = c.raise_there.new.used.entries in
    let sum : List Entry = c.in_ok-sum.sum in
    let its = added_something (row_of there role) amounts sum c.in_ok-sum.ensures (c.is_something.ensures.some c.if-not-is_something.false) in
    let put = c.in_ok-insert.ensures.entries ∙ ap (λ (r : Path). insert_entry same_path there r sum) c.in_ok-role.ensures in
    subst AreSome (sym put) (some_put role there sum its (c.raise_there.ensures.some all))
