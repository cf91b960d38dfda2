use Rattle.std.proofs.Common.{ℕ, ◌%◌, ap, ◌∙◌}
use Rattle.poly.specs.Reduced.{value_at}
use Rattle.fit.proofs.Tables.{past-mu, front_value}
use Rattle.fit.proofs.table.Fit.value_at.Goals as goal

pub returns : goal.returns
returns c =
    let f = c.args.self.now in
    let m = f.modulus in
    let mu = c.mu-mu.result in
    c.evaluate.ensures.is
    ∙ ap (λ (n : ℕ). n % m.value) (front_value f.coefficients mu c.args.x (past-mu m.prime m.exponent mu f.coefficients c.mu-mu.ensures.least f.reduced))
    ∙ ap (λ (n : ℕ). value_at f.coefficients c.args.x % n) m.power
