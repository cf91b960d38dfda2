use Rattle.marked.proofs.Examples.{marked}
use Rattle.marked.proofs.marked_tables.Goals as goal

pub returns-clause-holds : goal.returns-clause-holds
returns-clause-holds c = marked
