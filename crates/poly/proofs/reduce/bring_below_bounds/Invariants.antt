use Rattle.std.proofs.Common.{◌≡◌, ℕ, ◌%◌, ◌<◌, length, slice_index}
use Rattle.modulus.specs.Bounds.{w}
use Rattle.poly.proofs.reduce.bring_below_bounds.Given as goal

abbrev pub invariant-loop-i : goal.invariant-loop-i
invariant-loop-i l =
    (length l.reduced ≡ length l.form)
    × ((k : ℕ) → k < l.i → slice_index l.reduced k ≡ slice_index l.form k % w l.modulus.prime l.modulus.exponent k)
