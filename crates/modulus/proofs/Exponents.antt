-- The exponent of p in a number and in i!, with what is left of the number: a unit modulo p.
--     exponent-unique      two ways to take out p are one
--     factorial-parts      i! is p ^ v(i) times a unit
--     exponent-is          v(i) is the exponent of p in i!
-- Assumes nothing.
use Rattle.std.proofs.Common.{◌≡◌, ℕ, zero, suc, ◌+◌, ◌-◌, ◌*◌, ◌/◌, ◌%◌, ◌^◌, ◌<◌, ◌≤◌, pos, sym, refl, ap, ◌∙◌, subst, mod-eq_of_lt, pow-suc, arith, pow-add}
use mathlib.Core.Logic.{∥∥₁_elim}
use mathlib.Core.HLevel.{⊥_prop}
use Prim.Native.Nat.{◌∣◌}
use native.Mathlib.Nat.{zero-mod, pow-zero, div-add-mod, mul-mod_right, div-lt_self, dvd-mul_right, one-le-pow, eq_of_mul-eq-mul_left}
use lib.IntN.{zero-*ℤ}
use Rattle.modulus.specs.Congruence.{Cong}
use Rattle.modulus.specs.Bounds.{Exponent, factorial, more, exponent_within, exponent, v}
use Rattle.modulus.proofs.Congruences.{cong_refl, cong_path, cong_sym, cong_trans, cong_mul, cong_from_mod, same-from_cong}
use Rattle.modulus.proofs.Primes.{Prime, Inverse, inverse_is, inverse_product}

-- what p does not divide has an inverse modulo p
pub residue_inverse : (p : ℕ) → Prime p → (u : ℕ) → 0 < u % p → Inverse p (pos u)
residue_inverse p P u h =
    let s : ℕ = (u % p) ^ (p - 2) % p in
    record { by = pos s; one = cong_from_mod p (u * s) 1 (inverse_is p P u h ∙ sym (mod-eq_of_lt P.above)) }

-- what is left of n once p is taken out
strip : (d p n : ℕ) → 1 < p → 0 < n → n ≤ d → (u : ℕ) × (n ≡ p ^ exponent_within d p n * u) × (0 < u % p)
strip zero p n above pn le = absurd (omega arith)
strip (suc d) p n above pn le = go (n % p) refl (strip d p (n / p) above)
  where
    split : p * (n / p) + n % p ≡ n
    split = div-add-mod n p

    below : n / p < n
    below = div-lt_self pn above

    go : (r : ℕ) → n % p ≡ r → (0 < n / p → n / p ≤ d → (u : ℕ) × (n / p ≡ p ^ exponent_within d p (n / p) * u) × (0 < u % p)) → (u : ℕ) × (n ≡ p ^ more r (exponent_within d p (n / p)) * u) × (0 < u % p)
    go zero e rec =
        let pos-part : 0 < n / p = some (n / p) (omega arith) in
        let got = rec pos-part (omega (arith, below)) in
        (got.0, (let step : p * (n / p) ≡ p * (p ^ exponent_within d p (n / p) * got.0) = ap (λ (m : ℕ). p * m) got.1 in rw pow-suc (omega (arith, split))), got.2)
      where
        some : (q : ℕ) → p * q ≡ n → 0 < q
        some zero h = absurd (omega arith)
        some (suc q) h = omega arith
    go (suc r) e rec = (n, rw pow-zero (omega arith), omega arith)

pub part : (p n : ℕ) → 1 < p → 0 < n → (u : ℕ) × (n ≡ p ^ exponent p n * u) × (0 < u % p)
part p n above pn = strip n p n above pn (omega arith)

-- ---- two ways to take out p are one
pub power_positive : (p k : ℕ) → 1 < p → 0 < p ^ k
power_positive p k h = one-le-pow k p (omega arith)

divided : (p u n : ℕ) → u ≡ p * n → u % p ≡ 0
divided p u n e = rw e (mul-mod_right p n)

pub exponent-unique : (p j k a b : ℕ) → 1 < p → p ^ j * a ≡ p ^ k * b → 0 < a % p → 0 < b % p → j ≡ k
exponent-unique p zero zero a b above e ha hb = refl
exponent-unique p zero (suc k) a b above e ha hb =
    let flat : a ≡ p ^ suc k * b = omega (arith, rw pow-zero at e) in
    let z : a % p ≡ 0 = divided p a (p ^ k * b) (flat ∙ rw pow-suc (omega arith)) in
    absurd (omega arith)
exponent-unique p (suc j) zero a b above e ha hb =
    let flat : b ≡ p ^ suc j * a = omega (arith, rw (pow-zero p) at e) in
    let z : b % p ≡ 0 = divided p b (p ^ j * a) (flat ∙ rw pow-suc (omega arith)) in
    absurd (omega arith)
exponent-unique p (suc j) (suc k) a b above e ha hb =
    ap suc (exponent-unique p j k a b above (eq_of_mul-eq-mul_left p (omega arith) (p ^ j * a) (p ^ k * b) (shift p (p ^ j) (p ^ k) a b (simp pow-suc at e))) ha hb)
  where
    shift : (p x y a b : ℕ) → x * p * a ≡ y * p * b → p * (x * a) ≡ p * (y * b)
    shift p x y a b h = omega arith

pub exponent-from : (p n k u : ℕ) → 1 < p → 0 < n → n ≡ p ^ k * u → 0 < u % p → exponent p n ≡ k
exponent-from p n k u above pn e hu =
    let got = part p n above pn in
    exponent-unique p (exponent p n) k got.0 u above (sym got.1 ∙ e) got.2 hu

-- ---- i! is p ^ v(i) times a unit
pub record Parts (p n k : ℕ) : Type 0 where
  pub unit : ℕ
  pub is : n ≡ p ^ k * unit
  pub inverse : Inverse p (pos unit)

one_parts : (p : ℕ) → Parts p 1 0
one_parts p = record { unit = 1; is = rw pow-zero; inverse = record { by = pos 1; one = cong_refl p (pos 1) } }

pub factorial-parts : (p : ℕ) → Prime p → (i : ℕ) → Parts p (factorial i) (v p i)
factorial-parts p P zero = one_parts p
factorial-parts p P (suc i) =
    let below = factorial-parts p P i in
    let here = part p (suc i) P.above (omega arith) in
    let product : suc i * factorial i ≡ (p ^ exponent p (suc i) * here.0) * (p ^ v p i * below.unit) =
    ap (λ (n : ℕ). n * factorial i) here.1 ∙ ap (λ (n : ℕ). (p ^ exponent p (suc i) * here.0) * n) below.is in
    record {
      unit = below.unit * here.0;
      is = product ∙ rw pow-add (omega arith);
      inverse = inverse_product below.inverse (residue_inverse p P here.0 here.2);
    }

-- a unit is no multiple of p
pub unit_not_divided : (p u : ℕ) → 1 < p → Inverse p (pos u) → 0 < u % p
unit_not_divided p u above h = go (u % p) refl
  where
    go : (r : ℕ) → u % p ≡ r → 0 < r
    go zero e =
        let none : Cong p (pos u) (pos 0) = cong_from_mod p u 0 (e ∙ sym (zero-mod p)) in
        let gone : Cong p (pos 0) (pos 1) = cong_trans (cong_sym (cong_trans (cong_mul none (cong_refl p h.by)) (cong_path p (zero-*ℤ h.by)))) h.one in
        absurd (omega (arith, same-from_cong gone (omega arith) above))
    go (suc r) e = omega arith

-- v(i) is the exponent of p in i!
pub exponent-is : (p : ℕ) → Prime p → (i : ℕ) → Exponent p (factorial i) (v p i)
exponent-is p P i =
    let h = factorial-parts p P i in
    (subst (λ (n : ℕ). p ^ v p i ∣ n) (sym h.is) (dvd-mul_right (p ^ v p i) h.unit), λ d. ∥∥₁_elim d ⊥_prop (none h))
  where
    none : Parts p (factorial i) (v p i) → (c : ℕ) × (factorial i ≡ p ^ suc (v p i) * c) → ⊥
    none h d =
        let both : p ^ v p i * h.unit ≡ p ^ v p i * (p * d.0) = sym h.is ∙ d.1 ∙ rw pow-suc (omega arith) in
        let left : h.unit ≡ p * d.0 = eq_of_mul-eq-mul_left (p ^ v p i) (power_positive p (v p i) P.above) h.unit (p * d.0) both in
        absurd (omega (arith, divided p h.unit d.0 left, unit_not_divided p h.unit P.above h.inverse))
