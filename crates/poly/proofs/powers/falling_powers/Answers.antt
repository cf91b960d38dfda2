use Rattle.poly.proofs.Held.{falling-none}
use Rattle.poly.proofs.powers.falling_powers.Goals as goal

pub loop-j-init : goal.loop-j-init
loop-j-init c = falling-none c.args.modulus.now.value 64 c.args.modulus.now.large
