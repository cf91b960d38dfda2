use Rattle.std.proofs.Common.{◌≡◌, ◌-◌, ◌%◌}
use Rattle.poly.specs.Reduced.{falls, sum_to}
use Rattle.poly.proofs.newton.sum_of_terms.Given as goal

abbrev pub invariant-loop-c : goal.invariant-loop-c
invariant-loop-c l =
    (l.sum ≡ sum_to l.coefficients l.x l.c-index % l.modulus.value)
    × (l.product ≡ falls l.x l.c-index % l.modulus.value)
    × (l.factor ≡ l.x - l.c-index)
