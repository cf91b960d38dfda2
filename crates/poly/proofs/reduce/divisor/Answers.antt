use Rattle.std.proofs.Common.{arith}
use Rattle.modulus.proofs.Bounds.{w-positive}
use Rattle.poly.proofs.reduce.divisor.Goals as goal

pub returns-clause-some : goal.returns-clause-some
returns-clause-some c = grind (arith, w-positive)
