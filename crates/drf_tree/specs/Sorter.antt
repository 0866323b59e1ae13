-- The value of a `TreeSorter` as contracts see it.
use Rattle.std.specs.Prelude.{◌≡◌, ℕ, Bool, true, List, refl}
use Rattle.std.specs.Coded.{Coded, code_by, coded×, coded_list, coded_ℕ}
use Rattle.drf_role.specs.Path.{Path}
use Rattle.drf_tree.specs.Ledger.{ledger_content}
use Rattle.drf_sorter.specs.Work.{Work}
use Rattle.drf_tree.specs.contracts.ledger.Ledger as ledger
use Rattle.drf_tree.specs.declared.ledger.Ledger.{Ledger}
use Rattle.drf_tree.specs.declared.tree.Tree.{Tree}
use Rattle.drf_tree.specs.declared.walk.Walk.{Walk}
use Rattle.drf_tree.specs.Queue.{AreFrames, IsSettled}
use Rattle.drf_tree.specs.Tidy.{IsTidy}
use Rattle.drf_tree.specs.Tree.{IsTotalFree, IsTreeOf}

-- the ledger, the clients of the last order that are still to be served, and the work that was done
pub record Sorted : Type 0 where
  pub ledger : Ledger
  pub queue : List Path
  pub work : Work

-- the code by which the prover decides equality of these values
abbrev pub sorted_code : Coded Sorted
sorted_code =
    code_by (Ledger × (List Path × (ℕ × ℕ)))
    (coded× ledger.the_row.coded (coded× (coded_list (coded_list (coded_list coded_ℕ))) (coded× coded_ℕ coded_ℕ)))
    (λ s. (s.ledger, (s.queue, (s.work.made, s.work.marked))))
    (λ p. record { ledger = p.0; queue = p.1.0; work = record { made = p.1.1.0; marked = p.1.1.1 } }) (λ _. refl)

-- the invariant of a `TreeSorter`: its tree has the clients of its ledger and no other nodes, and its walk is at an active client or has
-- ended
pub record AreInStep (ledger : Ledger) (tree : Tree) (walk : Walk) (is_total_free : Bool) : Type 0 where
  pub of_ledger : IsTreeOf (ledger_content ledger) tree
  pub free : is_total_free ≡ true → IsTotalFree (ledger_content ledger) tree
  pub tidy : IsTidy (ledger_content ledger) tree.places.items
  pub frames : AreFrames tree.places.items walk.frames.items
  pub settled : IsSettled (ledger_content ledger) tree.places.items tree.families.items walk.frames.items
