use Rattle.std.proofs.Common.{◌<◌, ◌^◌, refl, sym}
use Rattle.std.specs.Cmp.{nat_cmp_total}
use Rattle.std.specs.FinSet as set
use Rattle.drf_kinds.specs.Sets.{is_kept}
use Rattle.drf_kinds.proofs.Answered.{kept_answer}
use Rattle.drf_kinds.proofs.Members.{contains-view}
use Rattle.drf_kinds.proofs.ranges.Ranges.combined.Goals as goal

pub returns : goal.returns
returns c =
    kept_answer nat_cmp_total set.nat_cmp-IsAntisymmetric (λ n. n < 2 ^ 32) (is_kept c.args.united) _ _ _ _ _ _
    (contains-view _ _ _ c.deref.ensures c.self.view_is) (contains-view _ _ _ c.deref-2.ensures c.other.view_is) (contains-view c.in_ok-combined.field-0.items c.in_ok-combined.field-0.items _ refl (sym c.new.ensures)) c.in_ok-combined.ensures.members
