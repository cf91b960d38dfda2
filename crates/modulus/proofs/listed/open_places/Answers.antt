use Rattle.std.proofs.Common.{◌≡◌, ℕ, ◌+◌, ◌<◌, add-one, arith, below_more}
use Rattle.modulus.specs.Bounds.{v, exponent}
use Rattle.modulus.proofs.Bounds.{below-52}
use Rattle.modulus.proofs.listed.open_places.Goals as goal

pub loop-reached-preserved : goal.loop-reached-preserved
loop-reached-preserved c =
    let inv = c.loop-reached.invariant in
    let p = c.args.p in
    let i = c.loop-reached.i in
    let step : v p (i + 1) ≡ v p i + exponent p (i + 1) = rw add-one in
    let small : i < 52 = below-52 p c.args.e i c.requires (omega (arith, inv.is)) in
    record {
      is = omega (arith, c.split-reached.ensures.exponent, inv.is);
      least = below_more (λ (j : ℕ). v p j < c.args.e) i inv.least (omega (arith, inv.is));
      few = omega arith;
    }
