use Rattle.std.proofs.Common.{All, subst, take_all, arith}
use Rattle.std.proofs.lemmas.List.Elements.{All-more}
use Rattle.json.specs.Print.{escape_byte}
use Rattle.drf_lines.proofs.Appends.{opened, one_more, closed}
use Rattle.drf_lines.proofs.Texts.{IsRoleRead, holds_at_ok, roles_read}
use Rattle.drf_lines.proofs.frameworks.put_role_list.Goals as goal

pub loop-i-init : goal.loop-i-init
loop-i-init c = record {
  written = opened c.in_ok-put_byte.ensures;
  read = λ k x below. absurd (omega (arith, below));
}

pub loop-i-preserved : goal.loop-i-preserved
unfolding escape_byte
loop-i-preserved c =
    let inside = c.loop-i-test.true in
    let is = c.index-roles-i.is in
    record {
      written = one_more c.loop-i.invariant.written inside is c.in_ok-put_comma.ensures c.in_ok-put_role.ensures.appends;
      read = All-more IsRoleRead c.args.roles.now c.loop-i.i c.index-roles-i.result inside c.loop-i.invariant.read (subst IsRoleRead is c.in_ok-put_role.ensures.read);
    }

pub returns-clause-appends : goal.returns-clause-appends
returns-clause-appends c = closed c.loop-i.invariant.written c.loop-i-test.false c.put_byte-2.ensures

pub returns-clause-read : goal.returns-clause-read
returns-clause-read c =
    holds_at_ok c.put_byte-2.result _ (roles_read c.args.roles.now (subst (All IsRoleRead) (take_all _ _ c.loop-i-test.false) c.loop-i.invariant.read))
