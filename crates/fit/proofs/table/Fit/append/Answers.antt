use Rattle.std.proofs.Common.{◌≡◌, ℕ, ◌<◌, ◌≤◌, length, arith, rules}
use Rattle.modulus.specs.Bounds.{w}
use Rattle.modulus.proofs.Bounds.{w-past}
use Rattle.fit.specs.declared.table.Fit.{Fit}
use Rattle.fit.proofs.Tables.{set_here}
use Rattle.fit.proofs.table.Fit.append.Goals as goal

-- past the list the bound is 1
past : (f : Fit) (d : ℕ) → length f.coefficients ≡ 52 → d < w f.modulus.prime f.modulus.exponent f.count → length f.coefficients ≤ f.count → d ≡ 0
past f d len lt le =
    let m = f.modulus in
    omega (arith, w-past m.prime m.exponent m.mu f.count m.least (omega (arith, m.few)))

pub returns-clause-last : goal.returns-clause-last
returns-clause-last c =
    let f = c.args.self.now in
    let d = c.args.coefficient in
    let len : length f.coefficients ≡ 52 = search rules in
    rw c.put.ensures (set_here f.coefficients f.count d (past f d len c.requires.small))
