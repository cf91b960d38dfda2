use Rattle.std.proofs.Common.{◌≡◌, ℕ, length, get_or, ℤ, pos, refl, subst, arith}
use Rattle.poly.specs.Powers.{Holds}
use Rattle.poly.proofs.Coefficients.{sum_of}
use Rattle.poly.proofs.Held.{sum-none, sum-next, form-held}
use Rattle.poly.proofs.powers.form_powers.Goals as goal

pub loop-i-init : goal.loop-i-init
loop-i-init c =
    let m = c.args.modulus.now in
    (sum-none m.value 65 (λ (i : ℕ). pos (get_or c.args.coefficients.now i 0)) m.large, c.falling_powers-term.ensures)

pub loop-i-preserved : goal.loop-i-preserved
loop-i-preserved c =
    let inv = c.loop-i.invariant in
    let m = c.args.modulus.now in
    let cs = c.args.coefficients.now in
    let g : ℕ → ℤ = λ i. pos (get_or cs i 0) in (
      sum-next m.value c.loop-i.i (get_or cs c.loop-i.i 0) g c.loop-i.sum c.loop-i.term c.add_scaled-sum.result m.large refl inv.0 inv.1 c.add_scaled-sum.ensures,
      c.next_falling.ensures,
    )

pub returns : goal.returns
returns c =
    let m = c.args.modulus.now.value in
    let cs = c.args.coefficients.now in
    let all : c.loop-i.i ≡ length cs = omega arith in
    form-held m cs c.loop-i.sum (subst (λ (n : ℕ). Holds m (sum_of (λ (i : ℕ). pos (get_or cs i 0)) n) n c.loop-i.sum) all c.loop-i.invariant.0)
