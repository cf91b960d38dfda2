use Rattle.std.proofs.Common.{◌≡◌}
use Rattle.modulus.specs.Bounds.{v, open_digits}
use Rattle.modulus.proofs.listed.Modulus.digits_below.Given as goal

abbrev pub invariant-loop-i : goal.invariant-loop-i
invariant-loop-i l = record { reached : l.reached ≡ v l.self.prime l.i; digits : l.digits ≡ open_digits l.self.prime l.self.exponent l.i }
