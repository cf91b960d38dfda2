use Rattle.modulus.proofs.Exits.{err_is}
use Rattle.rack.proofs.Refusing.{first_bad, unlisted, value-is}
use Rattle.rack.proofs.run.checked.Goals as goal

pub returns-in_err-modulus : goal.returns-in_err-modulus
returns-in_err-modulus c =
    let got = c.in_err-modulus.ensures in
    rw (err_is _ _ c.from_residual.ensures.1) (unlisted c.args.p c.args.e c.args.steps.now _ got.0 got.1)

pub returns-in_err-check_steps : goal.returns-in_err-check_steps
returns-in_err-check_steps c =
    let made = c.in_ok-modulus.ensures in
    let got = c.in_err-check_steps.ensures in
    rw (err_is _ _ c.from_residual-in_err-check_steps.ensures.1) (first_bad c.args.p c.args.e _ c.args.steps.now _ got.0 made.0 (value-is c.in_ok-modulus.modulus c.args.p c.args.e made.1 made.2) got.1 got.2)
