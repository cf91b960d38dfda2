use Rattle.std.proofs.Common.{ℕ, arith}
use Rattle.modulus.specs.Bounds.{Exponent, factorial, v}
use Rattle.modulus.specs.declared.listed.Modulus.{Modulus}
use Rattle.modulus.proofs.Bounds.{v-mono, prime_of}
use Rattle.modulus.proofs.Exponents.{exponent-is}
use Rattle.modulus.proofs.listed.Modulus.digits_at.Goals as goal

-- the exponent at either way out
exponent : (m : Modulus) (i : ℕ) → Exponent m.prime (factorial i) (v m.prime i)
exponent m i = exponent-is m.prime (prime_of m) i

pub returns-then-i-mu-clause-is : goal.returns-then-i-mu-clause-is
returns-then-i-mu-clause-is c =
    let m = c.args.self.now in
    omega (arith, c.mu.ensures.least.0, v-mono m.prime c.mu.result c.args.i (omega (arith, c.if-i-mu.true)))

pub returns-then-i-mu-clause-exponent : goal.returns-then-i-mu-clause-exponent
returns-then-i-mu-clause-exponent c = exponent c.args.self.now c.args.i

pub returns-clause-exponent : goal.returns-clause-exponent
returns-clause-exponent c = exponent c.args.self.now c.args.i
