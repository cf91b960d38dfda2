use Rattle.std.proofs.Common.{◌+◌}
use Rattle.poly.specs.Polynomial.{falling}
use Rattle.poly.specs.Powers.{Holds}
use Rattle.poly.proofs.powers.falling_powers.Given as goal

abbrev pub invariant-loop-j : goal.invariant-loop-j
invariant-loop-j l = Holds l.modulus.value (falling l.j) (l.j + 1) l.list
