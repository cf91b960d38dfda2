use Rattle.std.proofs.Common.{◌≡◌, ◌<◌, None, Some, refl, arith}
use Rattle.modulus.specs.declared.refusal.Refusal.TheVariants.{NoPolynomial}
use Rattle.modulus.proofs.Exits.{err_is}
use Rattle.fit.specs.Standing.{power_of}
use Rattle.fit.proofs.Offers.{Grown, grown, offered, is-unfit}
use Rattle.fit.proofs.table.Fit.fit_in.Goals as goal

pub returns-in_err-coefficient-clause-cases : goal.returns-in_err-coefficient-clause-cases
returns-in_err-coefficient-clause-cases c =
    let f = c.args.self.now in
    let m = f.modulus in
    let none : c.next_coefficient.result ≡ None = grind arith in
    let refusal : c.in_err-coefficient.field-0.0 ≡ NoPolynomial f.count = grind arith in
    rw (err_is _ _ c.from_residual.ensures.1, refusal) (is-unfit f c.args.value (omega (arith, c.requires.0, m.power)) (omega (arith, c.requires.1, m.power)) (rw none at c.next_coefficient.ensures), refl)

pub returns-clause-cases : goal.returns-clause-cases
returns-clause-cases c =
    let f = c.args.self.now in
    let y = c.args.value in
    let d = c.in_ok-coefficient.coefficient in
    let some : c.next_coefficient.result ≡ Some d = grind arith in
    let solves = rw some at c.next_coefficient.ensures in
    let h : Grown f c.append.new.self d = record { modulus = c.append.ensures.modulus; count = c.append.ensures.count; same = c.append.ensures.same; last = c.append.ensures.last } in
    let small : y < power_of f.modulus = omega (arith, c.requires.1, f.modulus.power) in
    let room : f.count < power_of f.modulus = omega (arith, c.requires.0, f.modulus.power) in
    (offered f c.append.new.self y d h small room solves.1, grown f c.append.new.self y d h small solves.1)
