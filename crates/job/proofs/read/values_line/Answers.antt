use Rattle.std.proofs.Common.{codes}
use Rattle.job.proofs.Lines.{list_line_by}
use Rattle.job.proofs.read.values_line.Goals as goal

pub returns-in-None : goal.returns-in-None
returns-in-None c =
    list_line_by c.args.text.now (codes "values=") c.in_ok-list.list.now (λ _. c.joined_values.new.values.items) (λ rest. rest.now) c.joined_values.result c.in_ok-list.ensures c.in-None.ensures c.joined_values.ensures
