use Rattle.marked_runs.proofs.Examples.{marked}
use Rattle.marked_runs.proofs.marked_runs_table.Goals as goal

pub returns-clause-holds : goal.returns-clause-holds
returns-clause-holds c = marked
