use Rattle.std.proofs.Common.{ℕ, List, subst}
use Rattle.std.proofs.lemmas.Result.{on_ok_weaker}
use Rattle.drf_rows.specs.declared.event.Event.TheVariants.{AddFramework, SetFramework}
use Rattle.drf_lines.proofs.Events.{add_agent_read, remove_agent_read, activate_agent_read, deactivate_agent_read, set_agent_read, add_framework_read, set_framework_read, remove_framework_read, suppress_read, revive_read, reserve_read, unreserve_read}
use Rattle.drf_lines.specs.EventLine.{event_line}
use Rattle.drf_lines.specs.Spelled.{IsSpelled}
use Rattle.drf_lines.proofs.event_line.push_event.Goals as goal

pub returns-in-AddAgent-clause-read : goal.returns-in-AddAgent-clause-read
returns-in-AddAgent-clause-read c =
    rw c.in-AddAgent.is (on_ok_weaker c.put_of_total.result
    (λ read. add_agent_read c.in-AddAgent.agent c.in-AddAgent.total read.0 read.1) c.put_of_total.ensures.read)

pub returns-in-RemoveAgent-clause-read : goal.returns-in-RemoveAgent-clause-read
returns-in-RemoveAgent-clause-read c =
    rw c.in-RemoveAgent.is (on_ok_weaker c.put_of_agent.result (remove_agent_read c.in-RemoveAgent.agent) c.put_of_agent.ensures.read)

pub returns-in-ActivateAgent-clause-read : goal.returns-in-ActivateAgent-clause-read
returns-in-ActivateAgent-clause-read c =
    rw c.in-ActivateAgent.is (on_ok_weaker c.put_of_agent-in-ActivateAgent.result (activate_agent_read c.in-ActivateAgent.agent) c.put_of_agent-in-ActivateAgent.ensures.read)

pub returns-in-DeactivateAgent-clause-read : goal.returns-in-DeactivateAgent-clause-read
returns-in-DeactivateAgent-clause-read c =
    rw c.in-DeactivateAgent.is (on_ok_weaker c.put_of_agent-in-DeactivateAgent.result (deactivate_agent_read c.in-DeactivateAgent.agent) c.put_of_agent-in-DeactivateAgent.ensures.read)

pub returns-in-SetAgent-clause-read : goal.returns-in-SetAgent-clause-read
returns-in-SetAgent-clause-read c =
    rw c.in-SetAgent.is (on_ok_weaker c.put_of_total-in-SetAgent.result
    (λ read. set_agent_read c.in-SetAgent.agent c.in-SetAgent.total read.0 read.1) c.put_of_total-in-SetAgent.ensures.read)

pub returns-in-AddFramework-clause-read : goal.returns-in-AddFramework-clause-read
returns-in-AddFramework-clause-read c =
    rw c.in-AddFramework.is (on_ok_weaker c.put_of_roles.result
    (λ read. subst (λ (rs : List (List (List ℕ))). IsSpelled (AddFramework c.in-AddFramework.framework rs)) c.as_slice.ensures
    (add_framework_read c.in-AddFramework.framework c.as_slice.result.now read.0 read.1)) c.put_of_roles.ensures.read)

pub returns-in-SetFramework-clause-read : goal.returns-in-SetFramework-clause-read
returns-in-SetFramework-clause-read c =
    rw c.in-SetFramework.is (on_ok_weaker c.put_of_roles-in-SetFramework.result
    (λ read. subst (λ (rs : List (List (List ℕ))). IsSpelled (SetFramework c.in-SetFramework.framework rs)) c.as_slice-in-SetFramework.ensures
    (set_framework_read c.in-SetFramework.framework c.as_slice-in-SetFramework.result.now read.0 read.1)) c.put_of_roles-in-SetFramework.ensures.read)

pub returns-in-RemoveFramework-clause-read : goal.returns-in-RemoveFramework-clause-read
returns-in-RemoveFramework-clause-read c =
    rw c.in-RemoveFramework.is (on_ok_weaker c.put_of_framework.result (remove_framework_read c.in-RemoveFramework.framework) c.put_of_framework.ensures.read)

pub returns-in-Suppress-clause-read : goal.returns-in-Suppress-clause-read
returns-in-Suppress-clause-read c =
    rw c.in-Suppress.is (on_ok_weaker c.put_of_client.result
    (λ read. suppress_read c.in-Suppress.framework c.in-Suppress.role read.0 read.1) c.put_of_client.ensures.read)

pub returns-in-Revive-clause-read : goal.returns-in-Revive-clause-read
returns-in-Revive-clause-read c =
    rw c.in-Revive.is (on_ok_weaker c.put_of_client-in-Revive.result
    (λ read. revive_read c.in-Revive.framework c.in-Revive.role read.0 read.1) c.put_of_client-in-Revive.ensures.read)

pub returns-in-Reserve-clause-read : goal.returns-in-Reserve-clause-read
returns-in-Reserve-clause-read c =
    rw c.in-Reserve.is (on_ok_weaker c.put_of_reservation.result
    (λ read. reserve_read c.in-Reserve.agent c.in-Reserve.role c.in-Reserve.resources read.0 read.1 read.2) c.put_of_reservation.ensures.read)

pub returns-in-Unreserve-clause-read : goal.returns-in-Unreserve-clause-read
returns-in-Unreserve-clause-read c =
    rw c.in-Unreserve.is (on_ok_weaker c.put_of_reservation-in-Unreserve.result
    (λ read. unreserve_read c.in-Unreserve.agent c.in-Unreserve.role c.in-Unreserve.resources read.0 read.1 read.2)
    c.put_of_reservation-in-Unreserve.ensures.read)

pub returns-in-RemoveAgent-clause-appends : goal.returns-in-RemoveAgent-clause-appends
unfolding event_line
returns-in-RemoveAgent-clause-appends c = rw c.in-RemoveAgent.is c.put_of_agent.ensures.appends
