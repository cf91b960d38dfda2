use Rattle.std.proofs.Common.{◌≡◌, ℕ, ◌-◌, ◌<◌, ◌≤◌}
use Rattle.modulus.specs.Bounds.{v}
use Rattle.modulus.proofs.listed.open_places.Given as goal

abbrev pub invariant-loop-reached : goal.invariant-loop-reached
invariant-loop-reached l = record { is : l.reached ≡ v l.p l.i; least : (j : ℕ) → j < l.i → v l.p j < l.e; few : l.i ≤ 52 }

abbrev pub decreases-loop-reached : goal.decreases-loop-reached
decreases-loop-reached l = 53 - l.i
