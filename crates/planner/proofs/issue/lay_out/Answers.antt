use Rattle.modulus.proofs.Exits.{err_is}
use Rattle.planner.specs.Plans.{no_size}
use Rattle.planner.proofs.issue.lay_out.Goals as goal

pub returns-in_err-new-in-Block : goal.returns-in_err-new-in-Block
returns-in_err-new-in-Block c =
    let got = c.in_err-new-in-Block.ensures in
    rw (err_is _ _ c.from_residual.ensures.1, got.1, c.in-Block.is) (λ room. no_size got.0)
