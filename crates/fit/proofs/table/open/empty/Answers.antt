use Rattle.std.proofs.Common.{arith}
use Rattle.modulus.proofs.Bounds.{w-positive}
use Rattle.poly.proofs.Standing.{zeros}
use Rattle.fit.proofs.table.open.empty.Goals as goal

pub invariant_of-result : goal.invariant_of-result
invariant_of-result c =
    let m = c.args.modulus in
    record { within = omega arith; reduced = λ k. rw (zeros 52 k) (w-positive m.prime m.exponent k m.listed); clear = λ k h. zeros 52 k }
