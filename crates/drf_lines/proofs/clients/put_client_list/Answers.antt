use Rattle.std.proofs.Common.{All, subst, take_all, arith}
use Rattle.std.proofs.lemmas.List.Elements.{All-more}
use Rattle.json.specs.Print.{escape_byte}
use Rattle.drf_lines.specs.FrameworkRows.{IsClientRead}
use Rattle.drf_lines.proofs.Appends.{opened, one_more, closed}
use Rattle.drf_lines.proofs.Texts.{holds_at_ok}
use Rattle.drf_lines.proofs.clients.put_client_list.Goals as goal

pub loop-i-init : goal.loop-i-init
loop-i-init c = record {
  written = opened c.in_ok-put_byte.ensures;
  read = λ k x below. absurd (omega (arith, below));
}

pub loop-i-preserved : goal.loop-i-preserved
unfolding escape_byte
loop-i-preserved c =
    let inside = c.loop-i-test.true in
    let is = c.index-clients-i.is in
    record {
      written = one_more c.loop-i.invariant.written inside is c.in_ok-put_comma.ensures c.in_ok-put_client.ensures.appends;
      read = All-more IsClientRead c.args.clients.now c.loop-i.i c.index-clients-i.result inside c.loop-i.invariant.read (subst IsClientRead is c.in_ok-put_client.ensures.read);
    }

pub returns-clause-appends : goal.returns-clause-appends
returns-clause-appends c = closed c.loop-i.invariant.written c.loop-i-test.false c.put_byte-2.ensures

pub returns-clause-read : goal.returns-clause-read
returns-clause-read c =
    holds_at_ok c.put_byte-2.result _ (subst (All IsClientRead) (take_all _ _ c.loop-i-test.false) c.loop-i.invariant.read)
