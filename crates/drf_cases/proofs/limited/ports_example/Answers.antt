use Rattle.drf_worked.proofs.PortExamples.{ports_are_not_limited, some_ports_are_reserved, no_port_is_shared, some_port_is_shared}
use Rattle.drf_cases.proofs.limited.ports_example.Goals as goal

pub returns : goal.returns
returns c = record {
  limited = ports_are_not_limited;
  reserved = some_ports_are_reserved;
  shared = no_port_is_shared;
  four = some_port_is_shared;
}
