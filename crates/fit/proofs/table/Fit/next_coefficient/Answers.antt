use Rattle.std.proofs.Common.{◌≡◌, ℕ, ◌+◌, ◌-◌, ◌*◌, ◌%◌, ◌<◌, pos, refl, sym, ap, ◌∙◌, subst, arith}
use native.Mathlib.Nat.{add-mod-mod, mod-mod}
use Rattle.modulus.specs.Bounds.{factorial}
use Rattle.modulus.specs.Congruence.{Cong}
use Rattle.modulus.proofs.Bounds.{w-small, power_small}
use Rattle.poly.specs.Reduced.{value_at}
use Rattle.poly.proofs.Reports.{no_fit}
use Rattle.fit.proofs.Tables.{rest_to_sum, sum_to_rest}
use Rattle.fit.proofs.table.Fit.next_coefficient.Goals as goal

-- the rest as the code computes it
rest_is : (m y s a : ℕ) → s ≡ a % m → (y + (m - s)) % m ≡ (y + (m - s % m) % m) % m
rest_is m y s a hs =
    let same : s ≡ s % m = hs ∙ sym (mod-mod a m) ∙ ap (λ (k : ℕ). k % m) (sym hs) in
    ap (λ (k : ℕ). (y + (m - k)) % m) same ∙ sym (add-mod-mod y (m - s % m) m)

pub overflow_cast-result : goal.overflow_cast-result
overflow_cast-result c =
    let m = c.args.self.now.modulus in
    record { fits = omega (arith, c.in_ok-c.ensures.0, w-small m.prime m.exponent c.args.self.now.count m.listed, power_small m.prime m.exponent m.listed.1) }

pub returns-in_err-c : goal.returns-in_err-c
returns-in_err-c c =
    let f = c.args.self.now in
    let m = f.modulus in
    let y = c.args.value in
    let a = value_at f.coefficients f.count in
    let sum = c.value_at-sum.ensures ∙ ap (λ (n : ℕ). a % n) (sym m.power) in
    let some : 0 < m.value = omega (arith, m.large) in
    let s = c.value_at-sum.result in
    let rest : (y + (c.value-m.result - s)) % m.value ≡ (y + (m.value - s % m.value) % m.value) % m.value = rw c.value-m.ensures.is (rest_is m.value y s a sum) in
    rw c.from_residual.ensures
    (no_fit m.prime m.exponent m.listed f.coefficients f.count y f.reduced f.clear
    (λ d h. c.in_err-c.ensures d (sum_to_rest m.value a y (d * factorial f.count) s ((m.value - s % m.value) % m.value) some sum refl
    (subst (λ (n : ℕ). Cong n (pos (a + d * factorial f.count)) (pos y)) (sym m.power) h) ∙ sym rest)))

pub returns : goal.returns
returns c =
    let f = c.args.self.now in
    let m = f.modulus in
    let y = c.args.value in
    let d = c.in_ok-c.c * factorial f.count in
    let a = value_at f.coefficients f.count in
    let sum = c.value_at-sum.ensures ∙ ap (λ (n : ℕ). a % n) (sym m.power) in
    let some : 0 < m.value = omega (arith, m.large) in
    let s = c.value_at-sum.result in
    let rest : (y + (c.value-m.result - s)) % m.value ≡ (y + (m.value - s % m.value) % m.value) % m.value = rw c.value-m.ensures.is (rest_is m.value y s a sum) in
    (c.in_ok-c.ensures.0, subst (λ (n : ℕ). Cong n (pos (a + d)) (pos y)) m.power (rest_to_sum m.value a y d s ((m.value - s % m.value) % m.value) some sum refl (c.in_ok-c.ensures.1 ∙ rest)))
