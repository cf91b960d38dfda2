use Rattle.job.proofs.Cuts.{no_line, unended}
use Rattle.job.proofs.numbers.number_line.Goals as goal

pub returns-in_err-value : goal.returns-in_err-value
returns-in_err-value c =
    let none = no_line c.args.text.now c.args.key.now c.in_ok-behind.field-0.now c.in_ok-behind.ensures c.in_err-value.ensures in
    simp c.from_residual-in_err-value.ensures none

pub returns-in_err-behind-2 : goal.returns-in_err-behind-2
returns-in_err-behind-2 c =
    let none = unended c.args.text.now c.args.key.now c.in_ok-behind.field-0.now c.in_ok-behind.ensures c.in_ok-value.value c.in_ok-value.rest.now c.in_ok-value.ensures c.in_err-behind-2.ensures in
    simp c.from_residual-in_err-behind-2.ensures none
