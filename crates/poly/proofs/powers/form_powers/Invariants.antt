use Rattle.std.proofs.Common.{ℕ, ◌+◌, get_or, pos}
use Rattle.poly.specs.Polynomial.{falling}
use Rattle.poly.specs.Powers.{Holds}
use Rattle.poly.proofs.Coefficients.{sum_of}
use Rattle.poly.proofs.powers.form_powers.Given as goal

abbrev pub invariant-loop-i : goal.invariant-loop-i
invariant-loop-i l =
    Holds l.modulus.value (sum_of (λ (i : ℕ). pos (get_or l.coefficients i 0)) l.i) l.i l.sum
    × Holds l.modulus.value (falling l.i) (l.i + 1) l.term
