-- Reading the printed text of a value gives this value.
use Rattle.std.proofs.Common.{◌≡◌, ℕ, ◌<◌, ◌≤◌, ◌^◌, ◌==◌, Bool, true, false, cond, List, [], ◌∷◌, map, Some, option_and_then, refl, sym, ap, ◌∙◌, append-nil, codes, decimal, arith}
use Rattle.json.specs.Lex.{tokens}
use Rattle.json.specs.Print.{IsNumber}
use Rattle.json.specs.Json as json
use Rattle.json.specs.Tree.{json_tokens, HasNumbers, ItemsHaveNumbers}
use Rattle.json.specs.Tree as tree
use Rattle.json.proofs.Printed.Decimals.{IsNumber-decimal}
use Rattle.json.proofs.Printed.Tokens.{tokens-print}
use Rattle.json.proofs.Printed.Trees.{value-json_tokens, ArePrintable-json_tokens}
use Rattle.serde_json.specs.Data.{Data, Members, member, no_members, number, unsigned, string, object}
use Rattle.serde_json.specs.Read.{of_json, of_items, read, max_depth}
use Rattle.serde_json.specs.View.{items_of}
use Rattle.serde_json.specs.Written.{outline, items_outline, compact_text}
use Rattle.serde_json.proofs.Numbers.{number_of-decimal}
use Rattle.serde_json.proofs.Texts.{print-outline}
use Rattle.drf_bundle.specs.declared.quantities.Entry.{Entry}
use Rattle.drf_bundle.specs.declared.resource.Resource.{Resource}
use Rattle.drf_rows.specs.Tasks.{Start}
use Rattle.drf_lines.specs.AgentEvents.{of_total, of_agent}
use Rattle.drf_lines.specs.FrameworkEvents.{role_value, of_roles, of_framework, of_client}
use Rattle.drf_lines.specs.OfferEvents.{usual_refusal, answer_members, rescind_value, finish_value}
use Rattle.drf_lines.specs.TaskTexts.{task_value, task_members, several_members, tasks_members}
use Rattle.drf_lines.specs.ReservationEvents.{of_reservation}
use Rattle.drf_lines.specs.WeightEvents.{weight_value}
use Rattle.drf_lines.specs.LimitEvents.{limit_value}
use Rattle.drf_lines.specs.EventLine.{cycle_value, report_request}

-- the value can be printed and read back: its numbers are JSON numbers, and it has few levels
pub record IsPrinted (value : Data) : Type 0 where
  pub numbers : HasNumbers (outline value)
  pub shallow : tree.depth (outline value) ≤ max_depth
  pub same : of_json (outline value) ≡ Some value

pub text_read : (value : Data) → IsPrinted value → read (compact_text value) ≡ Some value
text_read value is =
    let printed = json_tokens (outline value) in
    let lexed : tokens (compact_text value) ≡ printed =
    ap tokens (sym (print-outline value)) ∙ tokens-print printed (ArePrintable-json_tokens (outline value) is.numbers) in
    ap (λ ts. option_and_then of_json (option_and_then (λ p. json.if_last p.0 p.1) (json.value max_depth ts))) (lexed ∙ sym (append-nil printed))
    ∙ ap (λ found. option_and_then of_json (option_and_then (λ p. json.if_last p.0 p.1) found))
    (value-json_tokens (outline value) max_depth [] is.shallow)
    ∙ is.same

-- ---- the values of events

pub total_printed : (event agent : List ℕ) (total : List Resource) → IsPrinted (of_total event agent total)
total_printed event agent total = record { numbers = (tt, (tt, (tt, tt))); shallow = omega arith; same = refl }

pub agent_printed : (event agent : List ℕ) → IsPrinted (of_agent event agent)
agent_printed event agent = record { numbers = (tt, (tt, tt)); shallow = omega arith; same = refl }

pub framework_printed : (event framework : List ℕ) → IsPrinted (of_framework event framework)
framework_printed event framework = record { numbers = (tt, (tt, tt)); shallow = omega arith; same = refl }

pub client_printed : (event framework : List ℕ) (role : List (List ℕ)) → IsPrinted (of_client event framework role)
client_printed event framework role = record { numbers = (tt, (tt, (tt, tt))); shallow = omega arith; same = refl }

pub reservation_printed : (event agent : List ℕ) (role : List (List ℕ)) (resources : List Resource)
    → IsPrinted (of_reservation event agent role resources)
reservation_printed event agent role resources = record { numbers = (tt, (tt, (tt, (tt, tt)))); shallow = omega arith; same = refl }

pub finish_printed : (framework task : List ℕ) → IsPrinted (finish_value framework task)
finish_printed framework task = record { numbers = (tt, (tt, (tt, tt))); shallow = omega arith; same = refl }

pub weight_printed : (role : List (List ℕ)) (weight : ℕ) → IsPrinted (weight_value role weight)
weight_printed role weight = record { numbers = (tt, (tt, (tt, tt))); shallow = omega arith; same = refl }

pub limit_printed : (role : List (List ℕ)) (limit : List Entry) → IsPrinted (limit_value role limit)
limit_printed role limit = record { numbers = (tt, (tt, (tt, tt))); shallow = omega arith; same = refl }

pub report_printed : IsPrinted report_request
report_printed = record { numbers = (tt, tt); shallow = omega arith; same = refl }

pub rescind_printed : (offer : ℕ) → offer < 2 ^ 64 → IsPrinted (rescind_value offer)
rescind_printed offer small =
    record { numbers = (tt, (IsNumber-decimal offer small, tt)); shallow = omega arith; same = rw (number_of-decimal offer small) refl }

pub cycle_printed : (at : ℕ) → at < 2 ^ 64 → IsPrinted (cycle_value at)
cycle_printed at small =
    record { numbers = (IsNumber-decimal at small, (tt, tt)); shallow = omega arith; same = rw (number_of-decimal at small) refl }

-- ---- lists

roles_have_numbers : (roles : List (List (List ℕ))) → ItemsHaveNumbers (items_outline (items_of (map role_value roles)))
roles_have_numbers [] = tt
roles_have_numbers (role ∷ roles) = (tt, roles_have_numbers roles)

roles_are_flat : (roles : List (List (List ℕ))) → tree.items_depth (items_outline (items_of (map role_value roles))) ≤ 0
roles_are_flat [] = omega arith
roles_are_flat (role ∷ roles) = omega (arith, roles_are_flat roles)

roles_are_same : (roles : List (List (List ℕ)))
    → of_items (items_outline (items_of (map role_value roles))) ≡ Some (items_of (map role_value roles))
roles_are_same [] = refl
roles_are_same (role ∷ roles) = rw (roles_are_same roles) refl

pub roles_printed : (event framework : List ℕ) (roles : List (List (List ℕ))) → IsPrinted (of_roles event framework roles)
roles_printed event framework roles = record {
  numbers = (tt, (tt, (roles_have_numbers roles, tt)));
  shallow = omega (arith, roles_are_flat roles);
  same = rw (roles_are_same roles) refl;
}

tasks_have_numbers : (starts : List Start) → ItemsHaveNumbers (items_outline (items_of (map task_value starts)))
tasks_have_numbers [] = tt
tasks_have_numbers (s ∷ starts) = ((tt, (tt, tt)), tasks_have_numbers starts)

tasks_are_low : (starts : List Start) → tree.items_depth (items_outline (items_of (map task_value starts))) ≤ 1
tasks_are_low [] = omega arith
tasks_are_low (s ∷ starts) = omega (arith, tasks_are_low starts)

tasks_are_same : (starts : List Start)
    → of_items (items_outline (items_of (map task_value starts))) ≡ Some (items_of (map task_value starts))
tasks_are_same [] = refl
tasks_are_same (s ∷ starts) = rw (tasks_are_same starts) refl

-- ---- accept and decline

module _ (event framework : List ℕ) (offer at refuse_ms : ℕ) (small_offer : offer < 2 ^ 64) (small_at : at < 2 ^ 64)
    (small_time : refuse_ms < 2 ^ 64) where
  -- `refuse_ms` is printed unless it is the default
  abbrev answer : Bool → Members → Data
  answer usual more = object (
      member (codes "at") (number (unsigned at))
      (member (codes "event") (string event)
      (member (codes "framework") (string framework)
      (member (codes "offer") (number (unsigned offer))
      (cond usual more (member (codes "refuse_ms") (number (unsigned refuse_ms)) more))))))

  is_at : IsNumber (decimal at)
  is_at = IsNumber-decimal at small_at

  is_offer : IsNumber (decimal offer)
  is_offer = IsNumber-decimal offer small_offer

  is_time : IsNumber (decimal refuse_ms)
  is_time = IsNumber-decimal refuse_ms small_time

  pub decline_printed : IsPrinted (object (answer_members event framework offer at refuse_ms no_members))
  decline_printed = by_test (refuse_ms == usual_refusal)
    where
      by_test : (usual : Bool) → IsPrinted (answer usual no_members)
      by_test true = record {
        numbers = (is_at, (tt, (tt, (is_offer, tt))));
        shallow = omega arith;
        same = rw (number_of-decimal at small_at, number_of-decimal offer small_offer) refl;
      }
      by_test false = record {
        numbers = (is_at, (tt, (tt, (is_offer, (is_time, tt)))));
        shallow = omega arith;
        same = rw (number_of-decimal at small_at, number_of-decimal offer small_offer, number_of-decimal refuse_ms small_time) refl;
      }

  several_printed : (starts : List Start) (usual : Bool) → IsPrinted (answer usual (several_members starts))
  several_printed starts true = record {
    numbers = (is_at, (tt, (tt, (is_offer, (tasks_have_numbers starts, tt)))));
    shallow = omega (arith, tasks_are_low starts);
    same = rw (number_of-decimal at small_at, number_of-decimal offer small_offer, tasks_are_same starts) refl;
  }
  several_printed starts false = record {
    numbers = (is_at, (tt, (tt, (is_offer, (is_time, (tasks_have_numbers starts, tt))))));
    shallow = omega (arith, tasks_are_low starts);
    same = rw (number_of-decimal at small_at, number_of-decimal offer small_offer, number_of-decimal refuse_ms small_time, tasks_are_same starts) refl;
  }

  one_printed : (start : Start) (usual : Bool) → IsPrinted (answer usual (task_members start))
  one_printed start true = record {
    numbers = (is_at, (tt, (tt, (is_offer, (tt, (tt, tt))))));
    shallow = omega arith;
    same = rw (number_of-decimal at small_at, number_of-decimal offer small_offer) refl;
  }
  one_printed start false = record {
    numbers = (is_at, (tt, (tt, (is_offer, (is_time, (tt, (tt, tt)))))));
    shallow = omega arith;
    same = rw (number_of-decimal at small_at, number_of-decimal offer small_offer, number_of-decimal refuse_ms small_time) refl;
  }

  pub accept_printed : (starts : List Start)
      → IsPrinted (object (answer_members event framework offer at refuse_ms (tasks_members starts)))
  accept_printed [] = several_printed [] (refuse_ms == usual_refusal)
  accept_printed (s ∷ []) = one_printed s (refuse_ms == usual_refusal)
  accept_printed (s ∷ next ∷ starts) = several_printed (s ∷ next ∷ starts) (refuse_ms == usual_refusal)
