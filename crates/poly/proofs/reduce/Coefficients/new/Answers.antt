use Rattle.std.proofs.Common.{arith, rules}
use Rattle.poly.specs.Powers.{too_large}
use Rattle.poly.proofs.reduce.Coefficients.new.Goals as goal

pub returns-in-Some : goal.returns-in-Some
returns-in-Some c = too_large (omega arith) c.in-Some.place (search rules) (search rules) (search rules)
