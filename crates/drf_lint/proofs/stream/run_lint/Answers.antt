use Rattle.drf_lint.proofs.stream.run_lint.Goals as goal

pub returns-clause-linted : goal.returns-clause-linted
returns-clause-linted g c = rw c.begin-linter.ensures.write at c.lint.ensures.linted
