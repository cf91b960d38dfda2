use Rattle.std.proofs.Common.{◌≡◌, ℕ, ◌<◌, ◌≤◌, length, take}
use Rattle.plan.specs.Steps.{GoodAt}
use Rattle.plan.proofs.Checks.{Marks}
use Rattle.plan.proofs.check.first_bad.Given as goal

abbrev pub invariant-loop-i : goal.invariant-loop-i
invariant-loop-i l =
    (length l.readable ≡ 64)
    × (l.i ≤ 160)
    × ((j : ℕ) → j < l.i → GoodAt l.modulus.value l.steps j)
    × Marks (take l.i l.steps) l.readable
