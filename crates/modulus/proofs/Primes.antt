-- What the proofs know of the listed primes: that there are seven, that p ^ e stays below 65,537, and that what p does not divide has an inverse.
-- Assumes nothing.
use Rattle.std.proofs.Common.{◌≡◌, ℕ, zero, suc, ◌-◌, ◌*◌, ◌%◌, ◌^◌, ◌<◌, ◌≤◌, Bool, true, false, cond, ◌&&◌, T, eqb, ℤ, pos, ◌+ℤ◌, ◌-ℤ◌, ◌*ℤ◌, neg_ℤ, sym, refl, ap, ◌∙◌, subst, mod-lt, lt_of_le_of_lt, pow-suc, arith, lit<, eqb→eq}
use native.Mathlib.Nat.{pow-zero, pow-le-pow_left}
use Rattle.std.proofs.lemmas.Nat.{mul-mod_first}
use native.Mathlib.Decide.{ℕ_discrete}
use Rattle.modulus.specs.Congruence.{Cong}
use Rattle.modulus.specs.Moduli.{greatest}
use Rattle.modulus.proofs.Integers.{zring, zlin}
use Rattle.modulus.proofs.Congruences.{cong_path, cong_trans, cong_mul, cong_one}

-- ---- the seven primes
pick : (P : ℕ → Type 0) (p k a rest : ℕ) → (1 ≤ rest → P p) → P k → 1 ≤ cond (eqb p k) a rest → P p
pick P p k a rest other here h = go (eqb p k) refl h
  where
    go : (b : Bool) → eqb p k ≡ b → 1 ≤ cond b a rest → P p
    go true e h = subst P (sym (eqb→eq p k (subst T (sym e) tt))) here
    go false e h = other h

pub by_prime : (P : ℕ → Type 0) → P 2 → P 3 → P 5 → P 7 → P 11 → P 13 → P 17 → (p : ℕ) → 1 ≤ greatest p → P p
by_prime P at2 at3 at5 at7 at11 at13 at17 p =
    pick P p 2 _ _
    (pick P p 3 _ _ (pick P p 5 _ _ (pick P p 7 _ _ (pick P p 11 _ _ (pick P p 13 _ _ (pick P p 17 _ _ (λ h. absurd (omega arith)) at17) at13) at11) at7) at5) at3)
    at2

-- ---- tests over all numbers below a bound
both : (a b : Bool) → T (a && b) → T a × T b
both true b t = (tt, t)
both false b t = absurd t

abbrev pub all-below : (ℕ → Bool) → ℕ → Bool
all-below f zero = true
all-below f (suc n) = f n && all-below f n

pub all-below_at : (f : ℕ → Bool) (n : ℕ) → T (all-below f n) → (k : ℕ) → k < n → T (f k)
all-below_at f zero t k h = absurd (omega arith)
all-below_at f (suc n) t k h = go (ℕ_discrete k n) (all-below_at f n ((both (f n) (all-below f n) t).1) k)
  where
    go : Dec (k ≡ n) → (k < n → T (f k)) → T (f k)
    go (yes e) below = subst (λ (j : ℕ). T (f j)) (sym e) ((both (f n) (all-below f n) t).0)
    go (no ne) below = below (omega arith)

-- ---- inverses
abbrev inverts : ℕ → ℕ → Bool
inverts p r = eqb ((suc r * (suc r ^ (p - 2) % p)) % p) 1

-- what the proofs know of p
pub record Prime (p : ℕ) : Type 0 where
  pub above : 1 < p
  pub inverse : (r : ℕ) → 0 < r → r < p → (r * (r ^ (p - 2) % p)) % p ≡ 1

from_test : (p : ℕ) → 1 < p → T (all-below (inverts p) (p - 1)) → Prime p
from_test p h t = record { above = h; inverse = at }
  where
    at : (r : ℕ) → 0 < r → r < p → (r * (r ^ (p - 2) % p)) % p ≡ 1
    at zero a b = absurd (omega arith)
    at (suc r) a b = eqb→eq _ _ (all-below_at (inverts p) (p - 1) t r (omega arith))

pub prime : (p : ℕ) → 1 ≤ greatest p → Prime p
prime = by_prime Prime (from_test 2 (lit< tt) tt) (from_test 3 (lit< tt) tt) (from_test 5 (lit< tt) tt) (from_test 7 (lit< tt) tt) (from_test 11 (lit< tt) tt) (from_test 13 (lit< tt) tt) (from_test 17 (lit< tt) tt)

-- u ^ (p − 2) inverts u
pub inverse_is : (p : ℕ) → Prime p → (u : ℕ) → 0 < u % p → (u * ((u % p) ^ (p - 2) % p)) % p ≡ 1
inverse_is p P u some =
    sym (mul-mod_first u ((u % p) ^ (p - 2) % p) p) ∙ P.inverse (u % p) some (mod-lt u (omega (arith, P.above)))

-- and needs 64 bits
pub inverse_fits : (p u : ℕ) → 1 ≤ greatest p → (u % p) ^ (p - 2) < 2 ^ 64
inverse_fits p u h =
    let P : Prime p = prime p h in
    let small : u % p ≤ p = omega arith in
    lt_of_le_of_lt (pow-le-pow_left small (p - 2)) (by_prime (λ (p : ℕ). p ^ (p - 2) < 2 ^ 64) (lit< tt) (lit< tt) (lit< tt) (lit< tt) (lit< tt) (lit< tt) (lit< tt) p h)

-- u has an inverse modulo m
pub record Inverse (m : ℕ) (u : ℤ) : Type 0 where
  pub by : ℤ
  pub one : Cong m (u *ℤ by) (pos 1)

product_ring : (a b s t : ℤ) → (a *ℤ b) *ℤ (s *ℤ t) ≡ (a *ℤ s) *ℤ (b *ℤ t)
product_ring a b s t = simp zring

pub inverse_product : {m : ℕ} {a b : ℤ} → Inverse m a → Inverse m b → Inverse m (a *ℤ b)
inverse_product {m} {a} {b} h k =
    record { by = h.by *ℤ k.by; one = cong_trans (cong_path m (product_ring a b h.by k.by)) (cong_mul h.one k.one) }

-- if u·s is 1 + t·a and u·r is 1 + q·b, then u·(s + r − u·s·r) is 1 − t·q·a·b
lift_ring : (u s r : ℤ) → u *ℤ ((s +ℤ r) -ℤ u *ℤ (s *ℤ r)) ≡ (u *ℤ s +ℤ u *ℤ r) -ℤ (u *ℤ s) *ℤ (u *ℤ r)
lift_ring u s r = simp zring

lift_sum : (x y a b : ℤ) → ((pos 1 +ℤ x *ℤ a) +ℤ (pos 1 +ℤ y *ℤ b)) -ℤ (pos 1 +ℤ x *ℤ a) *ℤ (pos 1 +ℤ y *ℤ b) ≡ pos 1 +ℤ (neg_ℤ (x *ℤ y)) *ℤ (a *ℤ b)
lift_sum x y a b = simp zring (omega zlin)

inverse_more : (a b : ℕ) (u : ℤ) → Inverse a u → Inverse b u → Inverse (a * b) u
inverse_more a b u h k =
    record {
      by = (h.by +ℤ k.by) -ℤ u *ℤ (h.by *ℤ k.by);
      one = record {
        times = neg_ℤ (h.one.times *ℤ k.one.times);
        is = lift_ring u h.by k.by ∙ ap (λ (z : ℤ). (z +ℤ u *ℤ k.by) -ℤ z *ℤ (u *ℤ k.by)) h.one.is ∙ ap (λ (z : ℤ). ((pos 1 +ℤ h.one.times *ℤ pos a) +ℤ z) -ℤ (pos 1 +ℤ h.one.times *ℤ pos a) *ℤ z) k.one.is ∙ lift_sum h.one.times k.one.times (pos a) (pos b);
      };
    }

-- an inverse modulo p lifts to every power of p
pub inverse_lift : (p e : ℕ) (u : ℤ) → Inverse p u → Inverse (p ^ e) u
inverse_lift p zero u h = rw pow-zero (record { by = pos 0; one = cong_one (u *ℤ pos 0) (pos 1) })
inverse_lift p (suc e) u h = rw pow-suc (inverse_more (p ^ e) p u (inverse_lift p e u h) h)
