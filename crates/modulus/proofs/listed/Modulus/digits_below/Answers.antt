use Rattle.std.proofs.Common.{ℕ, suc, ◌*◌, ◌≤◌, arith}
use Rattle.modulus.specs.Bounds.{open_digits}
use Rattle.modulus.specs.Moduli.{greatest}
use Rattle.modulus.proofs.Bounds.{greatest-small}
use Rattle.modulus.proofs.listed.Modulus.digits_below.Goals as goal

few : (p e i : ℕ) → e ≤ 16 → open_digits p e i ≤ 16 * i
few p e Prim.Native.Nat.zero h = omega arith
few p e (suc i) h = omega (arith, few p e i h)

pub overflow_add-digits : goal.overflow_add-digits
overflow_add-digits c =
    let m = c.args.self.now in
    let top : greatest m.prime ≤ 16 = greatest-small m.prime (omega (arith, m.listed.0, m.listed.1)) in
    let small = few m.prime m.exponent c.loop-i.i (omega (arith, m.listed.1)) in
    record { fits = omega (arith, c.loop-i.invariant.digits, c.requires, m.few, c.exponent.ensures, m.listed.1) }
