use Rattle.std.proofs.Common.{◌≡◌, ℕ, ◌+◌, ◌-◌, ◌*◌, ◌%◌, List, length, get_or, pos, sym, ap, ◌∙◌, add-one, zero-add, arith}
use Rattle.modulus.proofs.Congruences.{cong_refl, cong_sym, cong_add, cong_mul, cong_mod, cong_path, cong_trans, mod_from_cong}
use Rattle.modulus.proofs.Division.{mul_mod_left}
use Rattle.poly.proofs.Standing.{value-is}
use Rattle.poly.specs.Reduced.{falls, sum_to, value_at}
use Rattle.poly.proofs.newton.sum_of_terms.Goals as goal

-- one term more
sum_more : (cs : List ℕ) (x i m s f a : ℕ) → s ≡ sum_to cs x i % m → f ≡ falls x i % m → a ≡ get_or cs i 0 → (s + a * f) % m ≡ sum_to cs x (i + 1) % m
sum_more cs x i m s f a hs hf ha =
    ap (λ (n : ℕ). (n + a * f) % m) hs ∙ ap (λ (n : ℕ). (sum_to cs x i % m + a * n) % m) hf ∙ ap (λ (n : ℕ). (sum_to cs x i % m + n * (falls x i % m)) % m) ha
    ∙ mod_from_cong (cong_add (cong_sym (cong_mod m (sum_to cs x i))) (cong_mul (cong_refl m (pos (get_or cs i 0))) (cong_sym (cong_mod m (falls x i))))) ∙ rw add-one

-- one factor more
product_more : (x i m f g : ℕ) → f ≡ falls x i % m → g ≡ x - i → (0 + f * g) % m ≡ falls x (i + 1) % m
product_more x i m f g hf hg =
    ap (λ (n : ℕ). n % m) (zero-add (f * g)) ∙ ap (λ (n : ℕ). (n * g) % m) hf ∙ mul_mod_left m (falls x i) g ∙ ap (λ (n : ℕ). (falls x i * n) % m) hg ∙ rw add-one

pub loop-c-preserved : goal.loop-c-preserved
loop-c-preserved c = grind (arith, sum_more, product_more)

pub returns : goal.returns
returns c =
    let cs = c.args.coefficients.now in
    let x = c.args.x in
    let m = c.args.modulus.now.value in
    let all : c.loop-c.c-index ≡ length cs = omega arith in
    let is : c.loop-c.sum ≡ value_at cs x % m = c.loop-c.invariant.0 ∙ ap (λ (n : ℕ). sum_to cs x n % m) all in
    record { is = is; polynomial = cong_trans (cong_path m (ap pos is)) (cong_trans (cong_sym (cong_mod m (value_at cs x))) (cong_path m (sym (value-is cs x)))) }
