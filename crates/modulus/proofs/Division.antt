-- Division by i! modulo p ^ e: the unit that is left of i!, its inverse by doubling the digits that are right, and which numbers can be divided.
-- Assumes nothing.
use Rattle.std.proofs.Common.{◌≡◌, ℕ, zero, suc, ◌+◌, ◌-◌, ◌*◌, ◌/◌, ◌%◌, ◌^◌, ◌<◌, ◌≤◌, min, ℤ, pos, ◌+ℤ◌, ◌-ℤ◌, ◌*ℤ◌, neg_ℤ, sym, ap, ◌∙◌, subst, pow-suc, arith, pow-add}
use Prim.Native.Nat.{◌∣◌}
use native.Mathlib.Nat.{dvd-mul_right, dvd-mul_left, mod-eq-zero_of_dvd, dvd-mul_left_of_dvd, div-add-mod, mul-div_cancel_left, mod-mod, add-mod-mod, mod-mod_of_dvd, eq_of_mul-eq-mul_left}
use Rattle.std.proofs.lemmas.Nat.{mul-mod_first}
use Rattle.modulus.specs.Congruence.{Cong}
use Rattle.modulus.specs.declared.listed.Modulus.{Modulus}
use Rattle.modulus.specs.Bounds.{factorial, exponent, v}
use Rattle.modulus.proofs.Integers.{zring, zlin, *ℤ-assoc}
use Rattle.modulus.proofs.Congruences.{cong_refl, cong_path, cong_sym, cong_trans, cong_mul, cong_mod, cong_from_mod, mod_from_cong, cong_less, cong_lower, cong_scale}
use Rattle.modulus.proofs.Primes.{Prime, Inverse}
use Rattle.modulus.proofs.Exponents.{factorial-parts, power_positive, unit_not_divided}

pub mul_mod_left : (m a b : ℕ) → (a % m * b) % m ≡ (a * b) % m
mul_mod_left m a b = mul-mod_first a b m

-- what agrees modulo p ^ e agrees modulo each lower power
pub cong_down : {a b : ℤ} (p e k : ℕ) → k ≤ e → Cong (p ^ e) a b → Cong (p ^ k) a b
cong_down {a} {b} p e k le h =
    let same : e - (e - k) ≡ k = omega arith in
    subst (λ (n : ℕ). Cong (p ^ n) a b) same (cong_lower p e (e - k) h)

-- ---- the unit that is left of i!
abbrev pub unit : ℕ → ℕ → ℕ
unit p i = factorial i / p ^ v p i

unit_of : (p : ℕ) (P : Prime p) (i : ℕ) → unit p i ≡ (factorial-parts p P i).unit
unit_of p P i =
    let h = factorial-parts p P i in
    ap (λ (n : ℕ). n / p ^ v p i) h.is ∙ mul-div_cancel_left h.unit (power_positive p (v p i) P.above)

pub unit_is : (p : ℕ) → Prime p → (i : ℕ) → factorial i ≡ p ^ v p i * unit p i
unit_is p P i = (factorial-parts p P i).is ∙ ap (λ (n : ℕ). p ^ v p i * n) (sym (unit_of p P i))

pub unit_inverse : (p : ℕ) → Prime p → (i : ℕ) → Inverse p (pos (unit p i))
unit_inverse p P i = subst (λ (n : ℕ). Inverse p (pos n)) (sym (unit_of p P i)) (factorial-parts p P i).inverse

-- one factor more
pub unit_step : (p : ℕ) → Prime p → (i rest : ℕ) → suc i ≡ p ^ exponent p (suc i) * rest → unit p (suc i) ≡ unit p i * rest
unit_step p P i rest e =
    let whole : p ^ v p (suc i) * unit p (suc i) ≡ p ^ v p (suc i) * (unit p i * rest) =
    sym (unit_is p P (suc i)) ∙ ap (λ (n : ℕ). n * factorial i) e ∙ ap (λ (n : ℕ). p ^ exponent p (suc i) * rest * n) (unit_is p P i) ∙ rw pow-add (omega arith) in
    eq_of_mul-eq-mul_left (p ^ v p (suc i)) (power_positive p (v p (suc i)) P.above) (unit p (suc i)) (unit p i * rest) whole

-- p divides p ^ e, so remainders by p ^ e keep the remainder by p
pub mod_prime : (p e n : ℕ) → 1 ≤ e → (n % p ^ e) % p ≡ n % p
mod_prime p zero n h = absurd (omega arith)
mod_prime p (suc e) n h = mod-mod_of_dvd p n (rw pow-suc (dvd-mul_left p (p ^ e)))

pub unit_left : (p e : ℕ) → Prime p → 1 ≤ e → (i : ℕ) → 0 < (unit p i % p ^ e) % p
unit_left p e P h i = rw (mod_prime p e (unit p i) h) (unit_not_divided p (unit p i) P.above (unit_inverse p P i))

-- ---- each round doubles the number of right digits of an inverse
less-ring : (a : ℤ) → pos 2 -ℤ (pos 1 +ℤ a) ≡ pos 1 +ℤ neg_ℤ a
less-ring a = simp zring (omega zlin)

product_ring : (a : ℤ) → (pos 1 +ℤ a) *ℤ (pos 1 +ℤ neg_ℤ a) ≡ pos 1 +ℤ neg_ℤ (a *ℤ a)
product_ring a = simp zring (omega zlin)

out-ring : (t q : ℤ) → neg_ℤ (t *ℤ q *ℤ (t *ℤ q)) ≡ neg_ℤ (t *ℤ t) *ℤ (q *ℤ q)
out-ring t q = simp zring

square : (x t q : ℤ) → x ≡ pos 1 +ℤ t *ℤ q → x *ℤ (pos 2 -ℤ x) ≡ pos 1 +ℤ neg_ℤ (t *ℤ t) *ℤ (q *ℤ q)
square x t q e =
    ap (λ (z : ℤ). z *ℤ (pos 2 -ℤ z)) e ∙ ap (λ (z : ℤ). (pos 1 +ℤ t *ℤ q) *ℤ z) (less-ring (t *ℤ q)) ∙ product_ring (t *ℤ q) ∙ ap (λ (z : ℤ). pos 1 +ℤ z) (out-ring t q)

doubled : (p j : ℕ) (x : ℤ) → Cong (p ^ j) x (pos 1) → Cong (p ^ (j + j)) (x *ℤ (pos 2 -ℤ x)) (pos 1)
doubled p j x h =
    rw pow-add (record { times = neg_ℤ (h.times *ℤ h.times); is = square x h.times (pos (p ^ j)) h.is })

-- the code's r·((2 + n) mod m) mod m, where n is −u·r
pub inverse_round : (m : Modulus) (j u r n : ℕ) → j < m.exponent → n ≡ (m.value - (u * r) % m.value) % m.value
    → Cong (m.prime ^ min j m.exponent) (pos (u * r)) (pos 1)
    → Cong (m.prime ^ min (j * 2) m.exponent) (pos (u * ((r * ((2 + n) % m.value)) % m.value))) (pos 1)
inverse_round m j u r n lt is h =
    let k : ℕ = m.value in
    let x : ℕ = u * r in
    let s : ℕ = 2 + (k - x % k) in
    let less : (2 + n) % k ≡ s % k = ap (λ (y : ℕ). (2 + y) % k) is ∙ add-mod-mod 2 (k - x % k) k in
    let two : Cong k (pos ((2 + n) % k)) (pos 2 -ℤ pos x) =
    cong_trans (cong_path k (ap pos less)) (cong_trans (cong_sym (cong_mod k s)) (cong_less k 2 x (omega (arith, m.large)))) in
    let inner : Cong k (pos ((r * ((2 + n) % k)) % k)) (pos r *ℤ (pos 2 -ℤ pos x)) =
    cong_trans (cong_sym (cong_mod k (r * ((2 + n) % k)))) (cong_mul (cong_refl k (pos r)) two) in
    let all : Cong k (pos (u * ((r * ((2 + n) % k)) % k))) (pos x *ℤ (pos 2 -ℤ pos x)) =
    cong_trans (cong_mul (cong_refl k (pos u)) inner) (cong_path k (sym (*ℤ-assoc (pos u) (pos r) (pos 2 -ℤ pos x)))) in
    let whole = subst (λ (b : ℕ). Cong b (pos (u * ((r * ((2 + n) % k)) % k))) (pos x *ℤ (pos 2 -ℤ pos x))) m.power all in
    let same : min j m.exponent ≡ j = omega arith in
    let right : Cong (m.prime ^ j) (pos x) (pos 1) = subst (λ (i : ℕ). Cong (m.prime ^ i) (pos x) (pos 1)) same h in
    let next : ℕ = min (j * 2) m.exponent in
    cong_trans (cong_down m.prime m.exponent next (omega arith) whole) (cong_down m.prime (j + j) next (omega arith) (doubled m.prime j (pos x) right))

-- ---- which numbers can be divided by i!
-- where p ^ v divides n and m, a multiple of n agrees modulo m only with multiples of p ^ v
pub no_quotient : (p e k n rest d : ℕ) → k ≤ e → (p ^ k ∣ n) → Cong (p ^ e) (pos (d * n)) (pos rest) → rest % p ^ k ≡ 0
no_quotient p e k n rest d le div h =
    sym (mod_from_cong (cong_down p e k le h)) ∙ mod-eq-zero_of_dvd (p ^ k) (dvd-mul_left_of_dvd (p ^ k) div d)

scale_ring : (q s g u : ℤ) → (q *ℤ s) *ℤ g *ℤ u ≡ (q *ℤ g) *ℤ (u *ℤ s)
scale_ring q s g u = simp zring

-- q·s modulo p ^ (e − k) is the quotient of q·p ^ k by p ^ k·u, where s inverts u
pub quotient_is : (p e k u s q : ℕ) → k ≤ e → Cong (p ^ e) (pos (u * s)) (pos 1)
    → Cong (p ^ e) (pos (((q * s) % p ^ (e - k)) * (p ^ k * u))) (pos (q * p ^ k))
quotient_is p e k u s q le inv =
    let b : ℕ = p ^ (e - k) in
    let g : ℕ = p ^ k in
    let c : ℕ = (q * s) % b in
    let whole : b * g ≡ p ^ e = sym (pow-add p (e - k) k) ∙ ap (λ (n : ℕ). p ^ n) (let same : e - k + k ≡ e = omega arith in same) in
    let near : Cong (b * g) (pos c *ℤ pos g) (pos (q * s) *ℤ pos g) = cong_scale g (cong_sym (cong_mod b (q * s))) in
    let wide : Cong (p ^ e) (pos c *ℤ pos g) (pos (q * s) *ℤ pos g) = subst (λ (m : ℕ). Cong m (pos c *ℤ pos g) (pos (q * s) *ℤ pos g)) whole near in
    let turned : Cong (p ^ e) (pos (c * (g * u))) (pos (q * s) *ℤ pos g *ℤ pos u) =
    cong_trans (cong_path (p ^ e) (sym (*ℤ-assoc (pos c) (pos g) (pos u)))) (cong_mul wide (cong_refl (p ^ e) (pos u))) in
    let one : q * g * 1 ≡ q * g = omega arith in
    cong_trans turned
    (cong_trans (cong_path (p ^ e) (scale_ring (pos q) (pos s) (pos g) (pos u)))
    (cong_trans (cong_mul (cong_refl (p ^ e) (pos (q * g))) inv) (cong_path (p ^ e) (ap pos one))))

power_divides : (p : ℕ) → Prime p → (i k : ℕ) → k ≤ v p i → p ^ k ∣ factorial i
power_divides p P i k le =
    let split : v p i ≡ k + (v p i - k) = omega arith in
    let whole : factorial i ≡ p ^ k * (p ^ (v p i - k) * unit p i) =
    unit_is p P i ∙ ap (λ (n : ℕ). p ^ n * unit p i) split ∙ rw pow-add (omega arith) in
    subst (λ (n : ℕ). p ^ k ∣ n) (sym whole) (dvd-mul_right (p ^ k) (p ^ (v p i - k) * unit p i))

-- a number that p ^ k does not divide is no multiple of i! modulo p ^ e
pub never : (p e m i k rest : ℕ) → Prime p → m ≡ p ^ e → k ≤ e → k ≤ v p i → ¬ ((rest % m) % p ^ k ≡ 0) → (c : ℕ) → (c * factorial i) % m ≡ rest % m → ⊥
never p e m i k rest P is le lv not c h =
    not (no_quotient p e k (factorial i) (rest % m) c le (power_divides p P i k lv)
    (subst (λ (n : ℕ). Cong n (pos (c * factorial i)) (pos (rest % m))) is (cong_from_mod m (c * factorial i) (rest % m) (h ∙ sym (mod-mod rest m)))))

-- and where p ^ k divides it, this is the quotient
pub divides : (p e m i rest s : ℕ) → Prime p → m ≡ p ^ e → v p i ≤ e → (rest % m) % p ^ v p i ≡ 0 → Cong m (pos (unit p i * s)) (pos 1)
    → ((((rest % m) / p ^ v p i * s) % p ^ (e - v p i)) * factorial i) % m ≡ rest % m
divides p e m i rest s P is le even inv =
    let g : ℕ = p ^ v p i in
    let q : ℕ = (rest % m) / g in
    let back : q * g ≡ rest % m = omega (arith, div-add-mod (rest % m) g) in
    let got : Cong (p ^ e) (pos (((q * s) % p ^ (e - v p i)) * (g * unit p i))) (pos (q * g)) =
    quotient_is p e (v p i) (unit p i) s q le (subst (λ (n : ℕ). Cong n (pos (unit p i * s)) (pos 1)) is inv) in
    ap (λ (n : ℕ). (((q * s) % p ^ (e - v p i)) * n) % m) (unit_is p P i)
    ∙ mod_from_cong (subst (λ (n : ℕ). Cong n (pos (((q * s) % p ^ (e - v p i)) * (g * unit p i))) (pos (q * g))) (sym is) got)
    ∙ ap (λ (n : ℕ). n % m) back ∙ mod-mod rest m

pub bound_is : (p e k m : ℕ) → 1 < p → m ≡ p ^ e → k ≤ e → m / p ^ k ≡ p ^ (e - k)
bound_is p e k m above is le =
    let split : e ≡ k + (e - k) = omega arith in
    ap (λ (n : ℕ). n / p ^ k) (is ∙ ap (λ (n : ℕ). p ^ n) split ∙ pow-add p k (e - k)) ∙ mul-div_cancel_left (p ^ (e - k)) (power_positive p k above)
