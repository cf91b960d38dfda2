use Rattle.fit.specs.Standing.{stands}
use Rattle.job.proofs.Making.{answered, ladder-fits}
use Rattle.job.proofs.figures.ladder_multiplications.Goals as goal

pub unwrap-price-requires : goal.unwrap-price-requires
unwrap-price-requires c =
    let f = c.args.fit.now in
    answered c.plan.result _ _ c.plan.ensures (λ r no. ladder-fits f.modulus.prime f.modulus.exponent f.modulus.listed (stands f) r no.0)
