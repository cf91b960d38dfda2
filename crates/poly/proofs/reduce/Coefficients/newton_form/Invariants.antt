use Rattle.std.proofs.Common.{◌≡◌, ℕ, ◌≤◌, List, ◌++◌, length, get_or, pos}
use Rattle.modulus.specs.Congruence.{Cong}
use Rattle.poly.specs.Basis.{ordinary, to_newton}
use Rattle.poly.specs.Equivalents.{ints}
use Rattle.poly.proofs.reduce.Coefficients.newton_form.Given as goal

abbrev pub invariant-loop-c : goal.invariant-loop-c
invariant-loop-c l =
    (done : List ℕ)
    × (l.self.list.now ≡ l.c-iterator.iter.rest.now ++ done)
    × ((k : ℕ) → Cong l.self.modulus.now.value (pos (get_or l.newton k 0)) (to_newton ordinary (ints done) k))
    × ((k : ℕ) → length done ≤ k → get_or l.newton k 0 ≡ 0)
