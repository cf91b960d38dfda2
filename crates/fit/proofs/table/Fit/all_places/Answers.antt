use Rattle.std.proofs.Common.{refl}
use Rattle.fit.proofs.Offers.{reports}
use Rattle.fit.proofs.table.Fit.all_places.Goals as goal

pub returns : goal.returns
returns c = reports c.args.self.now _ (λ i. refl)
