use Rattle.std.proofs.Common.{ℕ, refl, ap}
use Rattle.poly.specs.Reduced.{standing}
use Rattle.fit.specs.Rules.{none}
use Rattle.fit.specs.Standing.{power_of}
use Rattle.fit.proofs.table.Fit.withdraw.Goals as goal

pub returns-then-self-eq0-clause-cases : goal.returns-then-self-eq0-clause-cases
returns-then-self-eq0-clause-cases c =
    let f = c.args.self.now in
    (none (ap (λ (n : ℕ). standing (power_of f.modulus) f.coefficients n) c.if-self-eq0.true), refl)
