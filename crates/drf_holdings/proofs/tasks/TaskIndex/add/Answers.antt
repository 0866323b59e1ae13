use Rattle.std.proofs.Common.{◌≡◌, [], ◌&&◌, true, sym, ◌∙◌}
use Rattle.std.proofs.lemmas.Bool.{and_parts}
use Rattle.drf_role.specs.Text.{same_text}
use Rattle.drf_role.specs.TextLaws.{same_from_test}
use Rattle.drf_holdings.specs.Listed.{TaskKey, serials_in}
use Rattle.drf_holdings.proofs.Named.{undone}
use Rattle.drf_holdings.proofs.tasks.TaskIndex.add.Goals as goal

pub returns-in-Err-clause-err : goal.returns-in-Err-clause-err
returns-in-Err-clause-err c tasks listed =
    let row = c.args.task.now.row in
    let names = c.args.self.now.names in
    let free : (key : TaskKey) → (same_text row.framework key.0 && same_text row.name key.1) ≡ true → serials_in names key ≡ [] =
    λ key here.
    let parts = and_parts (same_text row.framework key.0) (same_text row.name key.1) here in
    let framework = same_from_test row.framework key.0 parts.0 in
    let name = same_from_test row.name key.1 parts.1 in
    (λ i. serials_in names (sym framework i, sym name i)) ∙ c.requires in
    record {
      agents = λ n. c.in-Err.ensures.err n ∙ listed.agents n;
      names = λ key.
          undone (same_text row.framework key.0 && same_text row.name key.1) c.args.task.now.serial
          (serials_in names key) (serials_in c.add.new.self key) (serials_in c.take.new.self key)
          (c.take.ensures.left key) (c.in_ok-add.ensures.ok key) (free key)
          ∙ listed.names key;
    }
