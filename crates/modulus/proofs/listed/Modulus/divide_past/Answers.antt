use Rattle.std.proofs.Common.{◌≡◌, ℕ, ◌%◌, ◌≤◌, Bool, true, false, eqb, Option, sym, refl, ap, ◌∙◌, subst, zero-mul, arith}
use native.Mathlib.Nat.{mod-mod, zero-mod}
use Rattle.std.specs.Bool.{then_some}
use Rattle.std.proofs.lemmas.Bool.{eqb-true, eqb-false}
use Rattle.modulus.specs.declared.listed.Modulus.{Modulus}
use Rattle.modulus.specs.Bounds.{factorial, v}
use Rattle.modulus.specs.Quotient.{Quotient}
use Rattle.modulus.proofs.Bounds.{w-positive, v-mono, prime_of}
use Rattle.modulus.proofs.Division.{never}
use Rattle.modulus.proofs.listed.Modulus.divide_past.Goals as goal

-- 0 where the modulus divides the rest, and else none
past : (m : Modulus) (i rest : ℕ) → m.mu ≤ i → (even : Bool) → eqb (rest % m.value) 0 ≡ even → Quotient m i rest (then_some even 0)
past m i rest le true e = (w-positive m.prime m.exponent i m.listed, ap (λ (n : ℕ). n % m.value) (zero-mul (factorial i)) ∙ zero-mod m.value ∙ sym (eqb-true (rest % m.value) 0 e))
past m i rest le false e =
    let reached : m.exponent ≤ v m.prime i = omega (arith, m.least.0, v-mono m.prime m.mu i le) in
    never m.prime m.exponent m.value i m.exponent rest (prime_of m) m.power (omega arith) reached
    (λ h. eqb-false (rest % m.value) 0 e (sym (mod-mod rest m.value) ∙ ap (λ (n : ℕ). (rest % m.value) % n) m.power ∙ h))

pub returns : goal.returns
returns c =
    let m = c.args.self.now in
    subst (λ (r : Option ℕ). Quotient m c.args.i c.args.rest r)
    (sym (c.then_some.ensures ∙ ap (λ (n : ℕ). then_some (eqb (c.args.rest % n) 0) 0) c.value.ensures.is))
    (past m c.args.i c.args.rest c.requires (eqb (c.args.rest % m.value) 0) refl)
