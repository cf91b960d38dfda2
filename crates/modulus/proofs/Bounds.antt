-- Bounds and the number of places that they leave open. Assumes nothing.
use Rattle.std.proofs.Common.{◌≡◌, ℕ, zero, suc, ◌+◌, ◌-◌, ◌*◌, ◌^◌, ◌<◌, ◌≤◌, ap, ◌∙◌, subst, le_trans, le_refl, pow-suc, arith, lit≤}
use native.Mathlib.Nat.{pow-zero, pow-le-pow_right}
use Rattle.modulus.specs.declared.listed.Modulus.{Modulus}
use Rattle.modulus.specs.Moduli.{greatest, Listed}
use Rattle.modulus.specs.Bounds.{v, w, Mu}
use Rattle.modulus.proofs.Primes.{Prime, prime, by_prime}
use Rattle.modulus.proofs.Exponents.{power_positive}

pub listed-prime : (p e : ℕ) → Listed p e → Prime p
listed-prime p e h = prime p (omega (arith, h.0, h.1))

-- p ^ e is at most 65,536
pub greatest-power : (p : ℕ) → 1 ≤ greatest p → p ^ greatest p ≤ 65536
greatest-power =
    by_prime (λ (p : ℕ). p ^ greatest p ≤ 65536) (lit≤ tt) (lit≤ tt) (lit≤ tt) (lit≤ tt) (lit≤ tt) (lit≤ tt) (lit≤ tt)

pub power_small : (p k : ℕ) → k ≤ greatest p → p ^ k ≤ 65536
power_small p zero le = rw pow-zero (lit≤ tt)
power_small p (suc k) le =
    let g : 1 ≤ greatest p = omega arith in
    le_trans (pow-le-pow_right (omega (arith, (prime p g).above)) le) (greatest-power p g)

-- so it fits the machine's numbers
pub power_fits : (p k : ℕ) → k ≤ greatest p → p ^ k < 2 ^ 32
power_fits p k le = omega (arith, power_small p k le)

pub prime-small : (p : ℕ) → 1 ≤ greatest p → p ≤ 17
prime-small = by_prime (λ (p : ℕ). p ≤ 17) (lit≤ tt) (lit≤ tt) (lit≤ tt) (lit≤ tt) (lit≤ tt) (lit≤ tt) (lit≤ tt)

pub greatest-small : (p : ℕ) → 1 ≤ greatest p → greatest p ≤ 16
greatest-small = by_prime (λ (p : ℕ). greatest p ≤ 16) (lit≤ tt) (lit≤ tt) (lit≤ tt) (lit≤ tt) (lit≤ tt) (lit≤ tt) (lit≤ tt)

-- v never falls
pub v-rises : (p i j : ℕ) → v p i ≤ v p (i + j)
v-rises p i zero = subst (λ (n : ℕ). v p i ≤ v p n) (omega arith) (le_refl (v p i))
v-rises p i (suc j) =
    let step : i + suc j ≡ suc (i + j) = omega arith in
    rw step (omega (arith, v-rises p i j))

pub v-mono : (p i j : ℕ) → i ≤ j → v p i ≤ v p j
v-mono p i j h = let e : i + (j - i) ≡ j = omega arith in subst (λ (n : ℕ). v p i ≤ v p n) e (v-rises p i (j - i))

-- by place 52 every listed exponent is reached
pub v-at_52 : (p : ℕ) → 1 ≤ greatest p → greatest p ≤ v p 52
v-at_52 = by_prime (λ (p : ℕ). greatest p ≤ v p 52) (lit≤ tt) (lit≤ tt) (lit≤ tt) (lit≤ tt) (lit≤ tt) (lit≤ tt) (lit≤ tt)

pub below-52 : (p e i : ℕ) → Listed p e → v p i < e → i < 52
below-52 p e i h lt = go (native.Mathlib.Decide.dec_lt i 52)
  where
    go : Dec (i < 52) → i < 52
    go (yes y) = y
    go (no n) = absurd (omega (arith, v-mono p 52 i (omega arith), v-at_52 p (omega (arith, h.0, h.1)), h.1))

pub mu-small : (p e k : ℕ) → Listed p e → Mu p e k → k ≤ 52
mu-small p e zero h m = omega arith
mu-small p e (suc k) h m = below-52 p e k h (m.1 k (omega arith))

pub mu-unique : (p e j k : ℕ) → Mu p e j → Mu p e k → j ≡ k
mu-unique p e j k a b = go (native.Mathlib.Decide.dec_lt j k) (native.Mathlib.Decide.dec_lt k j)
  where
    go : Dec (j < k) → Dec (k < j) → j ≡ k
    go (yes y) d = absurd (omega (arith, b.1 j y, a.0))
    go (no n) (yes y) = absurd (omega (arith, a.1 k y, b.0))
    go (no n) (no n') = omega arith

-- from place μ on every bound is 1, and before it none is
pub w-past : (p e k i : ℕ) → Mu p e k → k ≤ i → w p e i ≡ 1
w-past p e k i m h =
    let gone : e - v p i ≡ 0 = omega (arith, m.0, v-mono p k i h) in
    ap (λ (n : ℕ). p ^ n) gone ∙ pow-zero p

pub w-positive : (p e i : ℕ) → Listed p e → 0 < w p e i
w-positive p e i h = power_positive p (e - v p i) (listed-prime p e h).above

pub w-small : (p e i : ℕ) → Listed p e → w p e i ≤ p ^ e
w-small p e i h = pow-le-pow_right (omega (arith, (listed-prime p e h).above)) (omega arith)

pub power_one : (p : ℕ) → p ^ 1 ≡ p
power_one p = pow-suc p 0 ∙ ap (λ (n : ℕ). n * p) (pow-zero p) ∙ (let f : 1 * p ≡ p = omega arith in f)

pub above_one : (p e : ℕ) → Listed p e → 1 < p ^ e
above_one p zero h = absurd (omega (arith, h.0))
above_one p (suc e) h =
    let P = listed-prime p (suc e) h in
    let least : p ^ 1 ≤ p ^ suc e = pow-le-pow_right (omega (arith, P.above)) (omega arith) in
    omega (arith, P.above, power_one p)

pub prime_of : (m : Modulus) → Prime m.prime
prime_of m = listed-prime m.prime m.exponent m.listed
