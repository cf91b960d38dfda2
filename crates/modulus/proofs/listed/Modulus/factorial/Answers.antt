use Rattle.std.proofs.Common.{◌≡◌, ℕ, suc, ◌+◌, ◌*◌, ◌%◌, ◌^◌, sym, ap, ◌∙◌, add-one, arith}
use Rattle.std.proofs.lemmas.Nat.{mul-mod}
use Rattle.modulus.specs.Bounds.{exponent}
use Rattle.modulus.proofs.Bounds.{prime_of}
use Rattle.modulus.proofs.Division.{unit, unit_step}
use Rattle.modulus.proofs.listed.Modulus.factorial.Goals as goal

pub loop-j-preserved : goal.loop-j-preserved
loop-j-preserved c =
    let m = c.args.self.now in
    let p = m.prime in
    let n = m.value in
    let j = c.loop-j.j in
    let inv = c.loop-j.invariant in
    let rest = c.split-part.result.rest in
    let is : c.prime.result ≡ p = c.prime.ensures.is in
    let part : c.split-part.result.exponent ≡ exponent p (suc j) = rw add-one at (c.split-part.ensures.exponent ∙ ap (λ (q : ℕ). exponent q (j + 1)) is) in
    let whole : suc j ≡ p ^ exponent p (suc j) * rest = sym (add-one j) ∙ c.split-part.ensures.whole ∙ ap (λ (q : ℕ). q ^ c.split-part.result.exponent * rest) is ∙ ap (λ (k : ℕ). p ^ k * rest) part in
    let next = unit_step p (prime_of m) j rest whole in
    let product : (c.loop-j.rest * (rest % n)) % n ≡ (unit p j * rest) % n = ap (λ (r : ℕ). (r * (rest % n)) % n) inv.rest ∙ sym (mul-mod (unit p j) rest n) in
    record { exponent = rw add-one (omega (arith, inv.exponent)); rest = rw (add-one, next, c.value-m.ensures.is) product }
