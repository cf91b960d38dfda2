-- The laws of congruence: sums and products, remainders, other moduli, and what can be cancelled. Assumes nothing.
use Rattle.std.proofs.Common.{◌≡◌, ℕ, suc, ◌+◌, ◌-◌, ◌*◌, ◌/◌, ◌%◌, ◌^◌, ◌<◌, ◌≤◌, ℤ, pos, negsuc, ◌+ℤ◌, ◌-ℤ◌, ◌*ℤ◌, neg_ℤ, sym, ap, ◌∙◌, subst, mod-lt, mod-eq_of_lt, one-mul, arith, pow-add}
use native.Mathlib.Decide.{dec_le}
use native.Mathlib.Nat.{mod-add-div', add-mul-mod_self_right, pow-zero, one-le-pow, eq_of_mul-eq-mul_right}
use borrow.Author.Differences.{up, down, sum_is_lem, product_is, same_in, same_out}
use Rattle.modulus.specs.Congruence.{Cong}
use Rattle.modulus.proofs.Integers.{zring, zlin, *ℤ-assoc}

pub cong_refl : (m : ℕ) (a : ℤ) → Cong m a a
cong_refl m a = record { times = pos 0; is = simp zring }

pub cong_path : (m : ℕ) {a b : ℤ} → a ≡ b → Cong m a b
cong_path m {a} {b} h = record { times = pos 0; is = simp zring h }

sym_ring : (b t n : ℤ) → b ≡ (b +ℤ t *ℤ n) +ℤ neg_ℤ t *ℤ n
sym_ring b t n = simp zring (omega zlin)

pub cong_sym : {m : ℕ} {a b : ℤ} → Cong m a b → Cong m b a
cong_sym {m} {a} {b} h =
    record { times = neg_ℤ h.times; is = sym_ring b h.times (pos m) ∙ ap (λ (z : ℤ). z +ℤ neg_ℤ h.times *ℤ pos m) (sym h.is) }

trans_ring : (c t s n : ℤ) → (c +ℤ t *ℤ n) +ℤ s *ℤ n ≡ c +ℤ (s +ℤ t) *ℤ n
trans_ring c t s n = simp zring

pub cong_trans : {m : ℕ} {a b c : ℤ} → Cong m a b → Cong m b c → Cong m a c
cong_trans {m} {a} {b} {c} h k =
    record { times = h.times +ℤ k.times; is = h.is ∙ ap (λ (z : ℤ). z +ℤ h.times *ℤ pos m) k.is ∙ trans_ring c k.times h.times (pos m) }

add_ring : (b d s t n : ℤ) → (b +ℤ s *ℤ n) +ℤ (d +ℤ t *ℤ n) ≡ (b +ℤ d) +ℤ (s +ℤ t) *ℤ n
add_ring b d s t n = simp zring

pub cong_add : {m : ℕ} {a b c d : ℤ} → Cong m a b → Cong m c d → Cong m (a +ℤ c) (b +ℤ d)
cong_add {m} {a} {b} {c} {d} h k =
    record { times = h.times +ℤ k.times; is = ap (λ (z : ℤ). z +ℤ c) h.is ∙ ap (λ (z : ℤ). (b +ℤ h.times *ℤ pos m) +ℤ z) k.is ∙ add_ring b d h.times k.times (pos m) }

mul_ring : (b d s t n : ℤ) → (b +ℤ s *ℤ n) *ℤ (d +ℤ t *ℤ n) ≡ b *ℤ d +ℤ (s *ℤ d +ℤ (b +ℤ s *ℤ n) *ℤ t) *ℤ n
mul_ring b d s t n = simp zring

pub cong_mul : {m : ℕ} {a b c d : ℤ} → Cong m a b → Cong m c d → Cong m (a *ℤ c) (b *ℤ d)
cong_mul {m} {a} {b} {c} {d} h k =
    record { times = h.times *ℤ d +ℤ (b +ℤ h.times *ℤ pos m) *ℤ k.times; is = ap (λ (z : ℤ). z *ℤ c) h.is ∙ ap (λ (z : ℤ). (b +ℤ h.times *ℤ pos m) *ℤ z) k.is ∙ mul_ring b d h.times k.times (pos m) }

neg_ring : (b t n : ℤ) → neg_ℤ (b +ℤ t *ℤ n) ≡ neg_ℤ b +ℤ neg_ℤ t *ℤ n
neg_ring b t n = simp zring

pub cong_neg : {m : ℕ} {a b : ℤ} → Cong m a b → Cong m (neg_ℤ a) (neg_ℤ b)
cong_neg {m} {a} {b} h = record { times = neg_ℤ h.times; is = ap neg_ℤ h.is ∙ neg_ring b h.times (pos m) }

-- ---- congruence and remainders
pub cong_mod : (m a : ℕ) → Cong m (pos a) (pos (a % m))
cong_mod m a = record { times = pos (a / m); is = ap pos (sym (mod-add-div' a m)) }

pub cong_from_mod : (m a b : ℕ) → a % m ≡ b % m → Cong m (pos a) (pos b)
cong_from_mod m a b e = cong_trans (cong_mod m a) (cong_trans (cong_path m (ap pos e)) (cong_sym (cong_mod m b)))

mod_from_times : (m a b : ℕ) (t : ℤ) → pos a ≡ pos b +ℤ t *ℤ pos m → a % m ≡ b % m
mod_from_times m a b (pos k) e =
    let whole : a ≡ b + k * m = ap up e in
    ap (λ (n : ℕ). n % m) whole ∙ add-mul-mod_self_right b k m
mod_from_times m a b (negsuc k) e =
    let more : b ≡ a + suc k * m = omega (arith, ap up e, ap down e, sum_is_lem (pos b) (negsuc k *ℤ pos m), product_is (negsuc k) (pos m)) in
    sym (ap (λ (n : ℕ). n % m) more ∙ add-mul-mod_self_right a (suc k) m)

pub mod_from_cong : {m a b : ℕ} → Cong m (pos a) (pos b) → a % m ≡ b % m
mod_from_cong {m} {a} {b} h = mod_from_times m a b h.times h.is

-- two numbers below the modulus that agree are one
pub same-from_cong : {m a b : ℕ} → Cong m (pos a) (pos b) → a < m → b < m → a ≡ b
same-from_cong {m} {a} {b} h ha hb = sym (mod-eq_of_lt ha) ∙ mod_from_cong h ∙ mod-eq_of_lt hb

-- a − x, computed as a + (m − x mod m)
less-path : (m a t : ℕ) → t ≤ m → pos (a + (m - t)) ≡ pos a -ℤ pos t +ℤ pos m
less-path m a t h = omega zlin

pub cong_less : (m a x : ℕ) → 0 < m → Cong m (pos (a + (m - x % m))) (pos a -ℤ pos x)
cong_less m a x some =
    let small : x % m < m = mod-lt x some in
    let near : Cong m (pos (a + (m - x % m))) (pos a -ℤ pos (x % m)) = record { times = pos 1; is = less-path m a (x % m) (omega arith) ∙ ap (λ (n : ℕ). pos a -ℤ pos (x % m) +ℤ pos n) (sym (one-mul m)) } in
    cong_trans near (cong_add (cong_refl m (pos a)) (cong_neg (cong_sym (cong_mod m x))))

-- ---- other moduli
one_ring : (a b : ℤ) → a ≡ b +ℤ (a -ℤ b) *ℤ pos 1
one_ring a b = simp zring (omega zlin)

-- modulo 1 any two integers agree
pub cong_one : (a b : ℤ) → Cong 1 a b
cong_one a b = record { times = a -ℤ b; is = one_ring a b }

-- what agrees modulo a multiple of m agrees modulo m
pub cong_factor : {m : ℕ} {a b : ℤ} (k : ℕ) → Cong (k * m) a b → Cong m a b
cong_factor {m} {a} {b} k h = record { times = h.times *ℤ pos k; is = h.is ∙ ap (λ (z : ℤ). b +ℤ z) (sym (*ℤ-assoc h.times (pos k) (pos m))) }

-- what agrees modulo a power of p agrees modulo a lower one
pub cong_lower : {a b : ℤ} (p e n : ℕ) → Cong (p ^ e) a b → Cong (p ^ (e - n)) a b
cong_lower {a} {b} p e n h =
    let split : e ≡ e - (e - n) + (e - n) = omega arith in
    cong_factor (p ^ (e - (e - n))) (subst (λ (m : ℕ). Cong m a b) (ap (λ (i : ℕ). p ^ i) split ∙ pow-add p (e - (e - n)) (e - n)) h)

-- a positive factor can be cancelled from an equation
pub *ℤ-cancel : (a b : ℤ) (k : ℕ) → 0 < k → a *ℤ pos k ≡ b *ℤ pos k → a ≡ b
*ℤ-cancel a b k h e =
    let both : (up a + down b) * k ≡ (up b + down a) * k = omega (arith, product_is a (pos k), product_is b (pos k), same_out (a *ℤ pos k) (b *ℤ pos k) e) in
    same_in a b (eq_of_mul-eq-mul_right k h (up a + down b) (up b + down a) both)

pull_ring : (b t m k : ℤ) → b *ℤ k +ℤ t *ℤ (m *ℤ k) ≡ (b +ℤ t *ℤ m) *ℤ k
pull_ring b t m k = simp zring

-- a positive factor can be cancelled from both sides and the modulus
pub cong_cancel : {m : ℕ} {a b : ℤ} (k : ℕ) → 0 < k → Cong (m * k) (a *ℤ pos k) (b *ℤ pos k) → Cong m a b
cong_cancel {m} {a} {b} k l h =
    record { times = h.times; is = *ℤ-cancel a (b +ℤ h.times *ℤ pos m) k l (h.is ∙ pull_ring b h.times (pos m) (pos k)) }

-- and put back
pub cong_scale : {m : ℕ} {a b : ℤ} (k : ℕ) → Cong m a b → Cong (m * k) (a *ℤ pos k) (b *ℤ pos k)
cong_scale {m} {a} {b} k h =
    record { times = h.times; is = ap (λ (z : ℤ). z *ℤ pos k) h.is ∙ sym (pull_ring b h.times (pos m) (pos k)) }

-- p ^ n is cancelled modulo p ^ e: what is left agrees modulo p ^ (e - n)
pub cong_cancel_power : {a b : ℤ} (p e n : ℕ) → 0 < p → Cong (p ^ e) (a *ℤ pos (p ^ n)) (b *ℤ pos (p ^ n)) → Cong (p ^ (e - n)) a b
cong_cancel_power {a} {b} p e n l h = go (dec_le n e)
  where
    go : Dec (n ≤ e) → Cong (p ^ (e - n)) a b
    go (yes k) =
        let split : e ≡ e - n + n = omega arith in
        cong_cancel (p ^ n) (one-le-pow n p l) (subst (λ (m : ℕ). Cong m (a *ℤ pos (p ^ n)) (b *ℤ pos (p ^ n))) (ap (λ (i : ℕ). p ^ i) split ∙ pow-add p (e - n) n) h)
    go (no k) =
        let none : 0 ≡ e - n = omega arith in
        subst (λ (i : ℕ). Cong (p ^ i) a b) none (subst (λ (m : ℕ). Cong m a b) (sym (pow-zero p)) (cong_one a b))

take-ring : (s a : ℤ) → s +ℤ a +ℤ neg_ℤ s ≡ a
take-ring s a = simp zring (omega zlin)

-- equal sums with equal first parts have equal second parts
pub cong_rest : {m : ℕ} {s r a b : ℤ} → Cong m (s +ℤ a) (r +ℤ b) → Cong m s r → Cong m a b
cong_rest {m} {s} {r} {a} {b} h k =
    cong_trans (cong_path m (sym (take-ring s a))) (cong_trans (cong_add h (cong_neg k)) (cong_path m (take-ring r b)))
