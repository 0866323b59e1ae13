use Rattle.std.proofs.Common.{◌≡◌, ◌-◌, ◌<◌, ◌==◌, ℕ, true, false, length, get_or, ap, refl, subst, sym, ◌∙◌, arith}
use Rattle.std.proofs.lemmas.Bool.Decides.{nat_tests}
use Rattle.drf_rows.specs.Filters.{is_of_client}
use Rattle.drf_rows.specs.Client.{Client}
use Rattle.drf_gates.specs.filters.Index.{befores, client_hash, hash_bucket}
use Rattle.drf_gates.specs.filters.Slots.{slot_passes}
use Rattle.drf_gates.specs.declared.filters.slots.Slots.{Slots}
use Rattle.drf_gates.specs.declared.filters.index.Key.TheVariants.{Client as ByClient}
use Rattle.drf_gates.proofs.filters.FreeSlots.{no_slot}
use Rattle.drf_gates.proofs.filters.Held.{IsRevived, of_client_hash, revived-more, walk-start, walk-less}
use Rattle.drf_gates.proofs.filters.slots.Slots.drop_client.Goals as goal

pub loop-after-init : goal.loop-after-init
loop-after-init c =
    let s = c.args.self.now in
    let client : Client = record { role = c.args.role.now; framework = c.args.framework.now } in
    let not_empty : (s.rows.len == 0) ≡ false = sym c.is_empty.ensures ∙ c.if-is_empty.false in
    let some : 0 < length s.clients.heads.items = grind (arith, nat_tests, not_empty, s.rows.ok.0, c.requires.clients.marked.enough) in
    record {
      slots = c.requires;
      others = refl;
      walked = walk-start s.rows.items s.clients (slot_passes (is_of_client client)) (client_hash s.clients.start client.role client.framework) ByClient
          c.requires.clients (of_client_hash s.clients.start client) some c.last-after.result
          (c.last-after.ensures ∙ ap (λ (h : ℕ). get_or s.clients.heads.items (hash_bucket (length s.clients.heads.items) h) 0) c.client_hash.ensures);
    }

-- the chain goes on before
less : (client : Client) (start s : Slots) (after before : ℕ) → IsRevived client start s after → 0 < after → before ≡ get_or (befores s.clients) (after - 1) 0 → before < after
less client start s after before inv going is =
    let some : 0 < length s.clients.heads.items = omega (arith, inv.walked.within, going, inv.slots.clients.marked.enough) in
    walk-less s.rows.items s.clients (slot_passes (is_of_client client)) (client_hash s.clients.start client.role client.framework) ByClient inv.slots.clients
    (of_client_hash s.clients.start client) some after (after - 1) before (omega (arith, going)) is inv.walked

pub loop-after-smaller : goal.loop-after-smaller
loop-after-smaller c =
    less (record { role = c.args.role.now; framework = c.args.framework.now }) c.args.self.now c.loop-after.self c.loop-after.after c.link-after.result.before
    c.loop-after.invariant c.loop-after-test.true c.link-after.ensures.before

pub loop-after-smaller-then-is_slot_of_client : goal.loop-after-smaller-then-is_slot_of_client
loop-after-smaller-then-is_slot_of_client c =
    less (record { role = c.args.role.now; framework = c.args.framework.now }) c.args.self.now c.loop-after.self c.loop-after.after c.link-after.result.before
    c.loop-after.invariant c.loop-after-test.true c.link-after.ensures.before

pub loop-after-preserved-then-is_slot_of_client : goal.loop-after-preserved-then-is_slot_of_client
loop-after-preserved-then-is_slot_of_client c =
    let client : Client = record { role = c.args.role.now; framework = c.args.framework.now } in
    let after = c.loop-after.after in
    let revived = subst (λ (a : ℕ). IsRevived client c.args.self.now c.loop-after.self a) (omega (arith, c.loop-after-test.true)) c.loop-after.invariant in
    revived-more client c.args.self.now c.loop-after.self c.take_out.new.self (after - 1) c.link-after.result.before c.index.result.now true revived c.index.ensures
    (sym c.if-is_slot_of_client.true ∙ c.is_slot_of_client.ensures) c.take_out.ensures.rows c.take_out.ensures.slots c.take_out.ensures.heads
    c.take_out.ensures.start c.link-after.ensures.before

pub loop-after-preserved : goal.loop-after-preserved
loop-after-preserved c =
    let client : Client = record { role = c.args.role.now; framework = c.args.framework.now } in
    let after = c.loop-after.after in
    let revived = subst (λ (a : ℕ). IsRevived client c.args.self.now c.loop-after.self a) (omega (arith, c.loop-after-test.true)) c.loop-after.invariant in
    revived-more client c.args.self.now c.loop-after.self c.loop-after.self (after - 1) c.link-after.result.before c.index.result.now false revived c.index.ensures
    (sym c.if-is_slot_of_client.false ∙ c.is_slot_of_client.ensures) refl c.loop-after.invariant.slots refl refl c.link-after.ensures.before

pub returns-clause-others : goal.returns-clause-others
returns-clause-others c =
    let s = c.loop-after.self in
    let client : Client = record { role = c.args.role.now; framework = c.args.framework.now } in
    let inv = c.loop-after.invariant in
    sym (no_slot (is_of_client client) s.rows.items
    (λ k d below. inv.walked.passed k d (omega (arith, c.loop-after-test.false)) below)) ∙ inv.others
