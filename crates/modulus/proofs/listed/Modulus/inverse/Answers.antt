use Rattle.std.proofs.Common.{◌≡◌, ℕ, ◌-◌, ◌*◌, ◌%◌, ◌^◌, ◌<◌, ◌≤◌, min, pos, refl, sym, ap, ◌∙◌, subst, mod-lt, mod-eq_of_lt, arith}
use native.Mathlib.Nat.{add-mod-mod, pow-le-pow_right}
use Rattle.modulus.specs.Congruence.{Cong}
use Rattle.modulus.specs.Moduli.{greatest}
use Rattle.modulus.proofs.Bounds.{greatest-small, power_one}
use Rattle.modulus.proofs.Congruences.{cong_from_mod, mod_from_cong}
use Rattle.modulus.proofs.Division.{inverse_round}
use Rattle.modulus.proofs.listed.Modulus.inverse.Goals as goal

-- one digit is right at first
first : (p e u r : ℕ) → 1 ≤ e → 1 < p → (u * r) % p ≡ 1 → Cong (p ^ min 1 e) (pos (u * r)) (pos 1)
first p e u r le above one =
    let n : min 1 e ≡ 1 = omega arith in
    rw (n, power_one p) (cong_from_mod p (u * r) 1 (one ∙ sym (mod-eq_of_lt above)))

pub loop-right-init : goal.loop-right-init
loop-right-init c =
    let m = c.args.self.now in
    let inv = c.inverse_modulo_prime-r in
    let least : m.prime ^ 1 ≤ m.prime ^ m.exponent = pow-le-pow_right (omega (arith, m.above)) m.listed.0 in
    let one : (c.args.u * inv.result) % m.prime ≡ 1 = ap (λ (p : ℕ). (c.args.u * inv.result) % p) (sym c.prime.ensures.is) ∙ inv.ensures.one in
    record {
      small = omega (arith, inv.ensures.small, c.prime.ensures.is, m.power, least, power_one m.prime);
      some = omega arith;
      few = omega arith;
      digits = first m.prime m.exponent c.args.u inv.result m.listed.0 m.above one;
    }

pub loop-right-preserved : goal.loop-right-preserved
loop-right-preserved c =
    let m = c.args.self.now in
    let inv = c.loop-right.invariant in
    let top : greatest m.prime ≤ 16 = greatest-small m.prime (omega (arith, m.listed.0, m.listed.1)) in
    let lt : c.loop-right.right < m.exponent = omega (arith, c.loop-right-test.true, c.exponent.ensures) in
    let less : ℕ = m.value - (c.args.u * c.loop-right.r) % m.value in
    rw c.value-m.ensures.is
    (record {
      small = mod-lt _ (omega (arith, m.large));
      some = omega (arith, inv.some);
      few = omega (arith, m.listed.1);
      digits = subst (λ (s : ℕ). Cong (m.prime ^ min (c.loop-right.right * 2) m.exponent) (pos (c.args.u * ((c.loop-right.r * s) % m.value))) (pos 1)) (add-mod-mod 2 less m.value)
          (inverse_round m c.loop-right.right c.args.u c.loop-right.r (less % m.value) lt refl inv.digits);
    })

pub returns-clause-one : goal.returns-clause-one
returns-clause-one c =
    let m = c.args.self.now in
    let all : min c.loop-right.right m.exponent ≡ m.exponent = omega (arith, c.loop-right-test.false, c.exponent.ensures) in
    let whole : Cong m.value (pos (c.args.u * c.loop-right.r)) (pos 1) = rw (m.power, ← all) c.loop-right.invariant.digits in
    mod_from_cong whole ∙ mod-eq_of_lt m.large
