use Rattle.std.proofs.Common.{arith}
use Rattle.std.proofs.lemmas.Fmt.{decimal_digit, decimal_is_IsNumeral, first_decimal}
use Rattle.job.specs.Text.{PlainNumbers}
use Rattle.job.proofs.Grammar.{one_bad_line, one_job}
use Rattle.job.proofs.Reporting.{one_report}
use Rattle.job.proofs.call.report.Goals as goal

pub returns-clause-one_job : goal.returns-clause-one_job
returns-clause-one_job c = one_job

pub returns-clause-one_bad_line : goal.returns-clause-one_bad_line
returns-clause-one_bad_line c = one_bad_line

pub returns-clause-one_report : goal.returns-clause-one_report
returns-clause-one_report c = one_report one_job one_bad_line

-- by lemmas of std on decimal digits
plain_numbers : PlainNumbers
plain_numbers n small = ((decimal_is_IsNumeral n small).1, (λ some. first_decimal n some small), decimal_digit 0 (omega arith))

pub returns-clause-plain : goal.returns-clause-plain
returns-clause-plain c = plain_numbers
