use Rattle.std.proofs.Common.{arith}
use Rattle.std.proofs.lemmas.Grind.{common_steps}
use Rattle.rack.proofs.Meant.{last_at, last_none, last_within}
use Rattle.rack.proofs.rack.last_tray.Goals as goal

pub returns-clause-is : goal.returns-clause-is
returns-clause-is c = grind (arith, common_steps, last_at, last_none)

pub returns-clause-within : goal.returns-clause-within
returns-clause-within c = omega (arith, returns-clause-is c, last_within 0 c.args.steps.now)
