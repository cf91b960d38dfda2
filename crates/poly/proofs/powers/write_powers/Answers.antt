use Rattle.std.proofs.Common.{length, rules}
use Rattle.poly.specs.Polynomial.{form}
use Rattle.poly.proofs.Held.{held_copy}
use Rattle.poly.proofs.powers.write_powers.Goals as goal

pub returns-clause-written : goal.returns-clause-written
returns-clause-written c =
    let cs = c.args.coefficients.now in
    held_copy c.args.modulus.now.value (form cs) (length cs) c.form_powers-sum.result c.copy_front.new.out (search rules) c.form_powers-sum.ensures c.copy_front.ensures.written
