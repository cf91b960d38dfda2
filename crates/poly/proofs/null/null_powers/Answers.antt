use Rattle.std.proofs.Common.{ℕ, ◌+◌, ◌*◌, ◌%◌, get_or, pos, ap, ◌∙◌}
use Rattle.modulus.specs.Bounds.{w}
use Rattle.modulus.specs.Congruence.{Cong}
use Rattle.modulus.proofs.Congruences.{cong_mod, cong_path, cong_sym, cong_trans}
use Rattle.poly.specs.Polynomial.{falling}
use Rattle.poly.proofs.Held.{scaled-held}
use Rattle.poly.proofs.Standing.{zeros}
use Rattle.poly.proofs.null.null_powers.Goals as goal

pub returns : goal.returns
returns c =
    let mo = c.args.modulus.now in
    let m = mo.value in
    let xs = c.falling_powers.result in
    let factor = c.bound.result % c.value.result in
    let same : Cong m (pos factor) (pos (w mo.prime mo.exponent c.args.i)) =
    cong_trans (cong_path m (ap (λ (n : ℕ). pos (c.bound.result % n)) c.value.ensures.is)) (cong_trans (cong_sym (cong_mod m c.bound.result)) (cong_path m (ap pos c.bound.ensures))) in
    scaled-held m (c.args.i + 1) factor (pos (w mo.prime mo.exponent c.args.i)) (falling c.args.i) xs c.add_scaled.result mo.large same c.falling_powers.ensures
    (λ k. c.add_scaled.ensures k ∙ ap (λ (a : ℕ). (a + factor * get_or xs k 0) % m) (zeros 65 k))
