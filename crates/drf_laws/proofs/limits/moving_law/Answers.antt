use Rattle.drf_laws.proofs.MovingLaws.{moved_only, reserved_can_be_given_back, given_back_can_be_reserved, within_limits_it_is_admitted}
use Rattle.drf_laws.proofs.limits.moving_law.Goals as goal

pub returns : goal.returns
returns c = record {
  only = moved_only;
  back = reserved_can_be_given_back;
  again = given_back_can_be_reserved;
  admitted = within_limits_it_is_admitted;
}
