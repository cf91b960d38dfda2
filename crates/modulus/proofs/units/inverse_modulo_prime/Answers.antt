use Rattle.std.proofs.Common.{arith}
use Rattle.modulus.proofs.Primes.{prime, inverse_is, inverse_fits}
use Rattle.modulus.proofs.units.inverse_modulo_prime.Goals as goal

pub pow-requires : goal.pow-requires
pow-requires c = grind (arith, inverse_fits c.args.p c.args.u c.requires.listed)

pub returns-clause-one : goal.returns-clause-one
returns-clause-one c = grind (arith, inverse_is c.args.p (prime c.args.p c.requires.listed) c.args.u c.requires.unit)
