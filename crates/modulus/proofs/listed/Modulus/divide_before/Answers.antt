use Rattle.std.proofs.Common.{◌≡◌, ℕ, ◌*◌, ◌/◌, ◌%◌, ◌^◌, ◌<◌, pos, sym, ap, ◌∙◌, mod-lt, mod-eq_of_lt, arith}
use Rattle.modulus.specs.Congruence.{Cong}
use Rattle.modulus.specs.Bounds.{factorial, v, w}
use Rattle.modulus.specs.Moduli.{Listed}
use Rattle.modulus.proofs.Bounds.{listed-prime, w-positive, prime_of}
use Rattle.modulus.proofs.Congruences.{cong_from_mod}
use Rattle.modulus.proofs.Division.{unit, unit_left, never, divides, bound_is, mul_mod_left}
use Rattle.modulus.proofs.listed.Modulus.divide_before.Goals as goal

-- ---- the power of p in i!
shared : (p k i g : ℕ) → k ≡ v p i → g ≡ p ^ k → g ≡ p ^ v p i
shared p k i g b e = e ∙ ap (λ (n : ℕ). p ^ n) b

pub returns-then-rest-shared-ne0 : goal.returns-then-rest-shared-ne0
returns-then-rest-shared-ne0 c =
    let m = c.args.self.now in
    let k = c.factorial-part.ensures.exponent in
    let g = shared m.prime c.factorial-part.result.exponent c.args.i c.prime_power-shared.result k c.prime_power-shared.ensures in
    never m.prime m.exponent m.value c.args.i (v m.prime c.args.i) c.args.rest (prime_of m) m.power
    (omega (arith, c.factorial-part.ensures.below, k)) (omega arith)
    (λ h. c.if-rest-shared-ne0.true (ap (λ (n : ℕ). (c.args.rest % n) % c.prime_power-shared.result) c.value-m.ensures.is ∙ ap (λ (n : ℕ). (c.args.rest % m.value) % n) g ∙ h))

pub inverse_of_rest-inverse-requires-clause-unit : goal.inverse_of_rest-inverse-requires-clause-unit
inverse_of_rest-inverse-requires-clause-unit c =
    let m = c.args.self.now in
    rw (c.factorial-part.ensures.rest ∙ ap (λ (n : ℕ). unit m.prime c.args.i % n) m.power) (unit_left m.prime m.exponent (prime_of m) m.listed.0 c.args.i)

-- the bound of the place
bound : (p e i k m g : ℕ) → Listed p e → k ≡ v p i → k < e → m ≡ p ^ e → g ≡ p ^ k → m / g ≡ w p e i
bound p e i k m g listed same below power is =
    ap (λ (n : ℕ). m / n) (shared p k i g same is) ∙ bound_is p e (v p i) m (listed-prime p e listed).above power (omega arith)

pub quotient-requires-clause-bounded : goal.quotient-requires-clause-bounded
quotient-requires-clause-bounded c =
    let m = c.args.self.now in
    rw (bound m.prime m.exponent c.args.i c.factorial-part.result.exponent c.value-m.result c.prime_power-shared.result m.listed c.factorial-part.ensures.exponent c.factorial-part.ensures.below c.value-m.ensures.power c.prime_power-shared.ensures) (w-positive m.prime m.exponent c.args.i m.listed)

pub returns : goal.returns
returns c =
    let m = c.args.self.now in
    let p = m.prime in
    let e = m.exponent in
    let i = c.args.i in
    let n = m.value in
    let s = c.inverse_of_rest-inverse.result in
    let k = c.factorial-part.ensures.exponent in
    let g = shared p c.factorial-part.result.exponent i c.prime_power-shared.result k c.prime_power-shared.ensures in
    let same : c.quotient.result ≡ ((c.args.rest % n) / p ^ v p i * s) % w p e i =
    c.quotient.ensures
    ∙ ap (λ (b : ℕ). ((c.args.rest % c.value-m.result) / c.prime_power-shared.result * s) % b)
    (bound p e i c.factorial-part.result.exponent c.value-m.result c.prime_power-shared.result m.listed k c.factorial-part.ensures.below c.value-m.ensures.power c.prime_power-shared.ensures)
    ∙ ap (λ (b : ℕ). ((c.args.rest % b) / c.prime_power-shared.result * s) % w p e i) c.value-m.ensures.is
    ∙ ap (λ (b : ℕ). ((c.args.rest % n) / b * s) % w p e i) g in
    let even : (c.args.rest % n) % p ^ v p i ≡ 0 =
    ap (λ (b : ℕ). (c.args.rest % n) % b) (sym g) ∙ ap (λ (b : ℕ). (c.args.rest % b) % c.prime_power-shared.result) (sym c.value-m.ensures.is) ∙ c.if-rest-shared-ne0.false in
    let one : Cong n (pos (unit p i * s)) (pos 1) =
    cong_from_mod n (unit p i * s) 1 (sym (mul_mod_left n (unit p i) s) ∙ ap (λ (b : ℕ). (b * s) % n) (sym c.factorial-part.ensures.rest) ∙ c.inverse_of_rest-inverse.ensures.one ∙ sym (mod-eq_of_lt (omega (arith, c.value-m.ensures.is, c.value-m.ensures.above)))) in
    (rw same (mod-lt ((c.args.rest % n) / p ^ v p i * s) (w-positive p e i m.listed)), ap (λ (b : ℕ). (b * factorial i) % n) same ∙ divides p e n i c.args.rest s (prime_of m) m.power (omega (arith, c.factorial-part.ensures.below, k)) even one)
