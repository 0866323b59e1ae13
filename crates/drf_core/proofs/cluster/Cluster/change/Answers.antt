use Rattle.std.proofs.Common.{◌≡◌, true≢false, None, subst, sym, ap, ◌∙◌}
use Rattle.drf_rows.specs.Step.{refusal_of}
use Rattle.drf_rows.specs.declared.event.Event.{Event}
use Rattle.drf_core.specs.events.Answered.{has_answer}
use Rattle.drf_laws.proofs.theorems.Offers.{can_accept}
use Rattle.drf_laws.proofs.theorems.Welcome.{known_framework, known_suppressed, known_reviving, early_accept, welcome_decline}
use Rattle.drf_core.proofs.cluster.Cluster.change.Goals as goal

pub remove_framework-requires-clause-known : goal.remove_framework-requires-clause-known
remove_framework-requires-clause-known g c =
    known_framework c.args.limits.now c.args.self.now.rows c.in-RemoveFramework.framework
    (subst (λ (e : Event). refusal_of c.args.limits.now c.args.self.now.rows e ≡ None) c.in-RemoveFramework.is c.requires.welcome)

pub suppress-requires : goal.suppress-requires
suppress-requires g c =
    known_suppressed c.args.limits.now c.args.self.now.rows c.in-Suppress.framework c.in-Suppress.role
    (subst (λ (e : Event). refusal_of c.args.limits.now c.args.self.now.rows e ≡ None) c.in-Suppress.is c.requires.welcome)

pub revive-requires : goal.revive-requires
revive-requires g c =
    known_reviving c.args.limits.now c.args.self.now.rows c.in-Revive.framework c.in-Revive.role
    (subst (λ (e : Event). refusal_of c.args.limits.now c.args.self.now.rows e ≡ None) c.in-Revive.is c.requires.welcome)

pub accept-requires-clause-can : goal.accept-requires-clause-can
accept-requires-clause-can g c =
    can_accept c.args.limits.now c.args.self.now.rows c.in-Accept.event
    (subst (λ (e : Event). refusal_of c.args.limits.now c.args.self.now.rows e ≡ None) c.in-Accept.is c.requires.welcome)

pub accept-requires-clause-early : goal.accept-requires-clause-early
accept-requires-clause-early g c =
    early_accept c.args.limits.now c.args.self.now.rows c.in-Accept.event
    (subst (λ (e : Event). refusal_of c.args.limits.now c.args.self.now.rows e ≡ None) c.in-Accept.is c.requires.welcome)

pub decline-requires-clause-offer : goal.decline-requires-clause-offer
decline-requires-clause-offer g c =
    (welcome_decline c.args.limits.now c.args.self.now.rows c.in-Decline.event
    (subst (λ (e : Event). refusal_of c.args.limits.now c.args.self.now.rows e ≡ None) c.in-Decline.is c.requires.welcome)).1

pub decline-requires-clause-early : goal.decline-requires-clause-early
decline-requires-clause-early g c =
    (welcome_decline c.args.limits.now c.args.self.now.rows c.in-Decline.event
    (subst (λ (e : Event). refusal_of c.args.limits.now c.args.self.now.rows e ≡ None) c.in-Decline.is c.requires.welcome)).0

pub unreachable-requires : goal.unreachable-requires
unreachable-requires g c = true≢false (ap has_answer (sym c.in-Cycle.is) ∙ c.requires.plain)

pub unreachable-requires-in-Report : goal.unreachable-requires-in-Report
unreachable-requires-in-Report g c = true≢false (ap has_answer (sym c.in-Report.is) ∙ c.requires.plain)
