use Rattle.std.proofs.Common.{◌≡◌, ◌%◌}
use Rattle.modulus.specs.Bounds.{v}
use Rattle.modulus.proofs.Division.{unit}
use Rattle.modulus.proofs.listed.Modulus.factorial.Given as goal

abbrev pub invariant-loop-j : goal.invariant-loop-j
invariant-loop-j l = record { exponent : l.exponent ≡ v l.self.prime l.j; rest : l.rest ≡ unit l.self.prime l.j % l.self.value }
