use Rattle.std.proofs.Common.{refl}
use Rattle.modulus.proofs.Exits.{err_is}
use Rattle.fit.proofs.Offers.{out_of_range}
use Rattle.fit.proofs.table.Fit.offer.Goals as goal

pub returns-in_err-check_range-clause-cases : goal.returns-in_err-check_range-clause-cases
returns-in_err-check_range-clause-cases c =
    let no_room = c.in_err-check_range.ensures in
    rw (err_is _ _ c.from_residual.ensures.1) (out_of_range c.args.self.now c.args.value _ no_room.0 no_room.1, refl)
