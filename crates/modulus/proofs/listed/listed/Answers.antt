use Rattle.modulus.proofs.Bounds.{listed-prime, above_one, power_small, mu-small}
use Rattle.modulus.proofs.listed.listed.Goals as goal

pub invariant_of-result-clause-above : goal.invariant_of-result-clause-above
invariant_of-result-clause-above c = (listed-prime c.args.p c.args.e c.requires).above

pub invariant_of-result-clause-large : goal.invariant_of-result-clause-large
invariant_of-result-clause-large c = rw c.pow.ensures (above_one c.args.p c.args.e c.requires)

pub invariant_of-result-clause-small : goal.invariant_of-result-clause-small
invariant_of-result-clause-small c = rw c.pow.ensures (power_small c.args.p c.args.e c.requires.1)

pub invariant_of-result-clause-few : goal.invariant_of-result-clause-few
invariant_of-result-clause-few c = mu-small c.args.p c.args.e c.open_places.result c.requires c.open_places.ensures
