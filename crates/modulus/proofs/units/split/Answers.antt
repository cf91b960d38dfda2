use Rattle.std.proofs.Common.{◌≡◌, ℕ, suc, ◌+◌, ◌*◌, ◌/◌, ◌^◌, ◌<◌, sym, ap, ◌∙◌, pow-suc, add-one, arith}
use native.Mathlib.Nat.{div-add-mod, div-lt_self}
use Rattle.modulus.proofs.Exponents.{exponent-from}
use Rattle.modulus.proofs.units.split.Goals as goal

whole : (p k x n q : ℕ) → n ≡ p ^ k * x → p * q ≡ x → n ≡ p ^ (k + 1) * q
whole p k x n q h e = rw (add-one, pow-suc) (h ∙ ap (λ (y : ℕ). p ^ k * y) (sym e) ∙ (let f : p ^ k * (p * q) ≡ p ^ k * p * q = omega arith in f))

positive : (p x q : ℕ) → p * q ≡ x → 0 < x → 0 < q
positive p x Prim.Native.Nat.zero e h = absurd (omega arith)
positive p x (suc q) e h = omega arith

pub loop-rest-preserved : goal.loop-rest-preserved
loop-rest-preserved c =
    let x = c.loop-rest.rest in
    let p = c.args.p in
    let inv = c.loop-rest.invariant in
    let even : p * (x / p) ≡ x = omega (arith, div-add-mod x p) in
    let less : x / p < x = div-lt_self inv.some c.requires.above in
    record { whole = whole p c.loop-rest.exponent x c.args.n (x / p) inv.whole even; some = positive p x (x / p) even inv.some; small = omega arith }

pub returns-clause-exponent : goal.returns-clause-exponent
returns-clause-exponent c =
    sym (exponent-from c.args.p c.args.n c.loop-rest.exponent c.loop-rest.rest c.requires.above c.requires.some c.loop-rest.invariant.whole (omega (arith, c.loop-rest-test.false)))
