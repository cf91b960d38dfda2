use Rattle.std.proofs.Common.{◌-◌, ◌*◌, ◌^◌, ◌<◌, ◌≤◌, min, pos}
use Rattle.modulus.specs.Congruence.{Cong}
use Rattle.modulus.proofs.listed.Modulus.inverse.Given as goal

abbrev pub invariant-loop-right : goal.invariant-loop-right
invariant-loop-right l = record {
  small : l.r < l.self.value;
  some : 0 < l.right;
  few : l.right ≤ 32;
  digits : Cong (l.self.prime ^ min l.right l.self.exponent) (pos (l.u * l.r)) (pos 1);
}

abbrev pub decreases-loop-right : goal.decreases-loop-right
decreases-loop-right l = l.self.exponent - l.right
