-- What the trays have once a step has written one of them, and what that step writes modulo m. Assumes nothing.
use Rattle.std.proofs.Common.{◌≡◌, ℕ, ◌+◌, ◌*◌, ◌%◌, eqb, ℤ, pos, ◌+ℤ◌, ◌*ℤ◌, refl}
use lib.IntN.{*ℤ-zero}
use Rattle.std.proofs.lemmas.Bool.{eq-eqb, ne_eqb, cond-true, cond-false}
use Rattle.modulus.specs.Congruence.{Cong}
use Rattle.modulus.proofs.Congruences.{cong_refl, cong_path, cong_sym, cong_trans, cong_add, cong_mul, cong_mod}
use Rattle.plan.specs.Trays.{put}

-- ---- reading what was put
pub put_same : (trays : ℕ → ℕ) (t n : ℕ) → put trays t n t ≡ n
put_same trays t n = cond-true (eqb t t) n (trays t) (eq-eqb t t refl)

pub put_other : (trays : ℕ → ℕ) (t n u : ℕ) → (u ≡ t → ⊥) → put trays t n u ≡ trays u
put_other trays t n u apart = cond-false (eqb u t) n (trays u) (ne_eqb u t apart)

-- ---- what a step writes
pub sum_agrees : {m a b : ℕ} {x y : ℤ} → Cong m (pos a) x → Cong m (pos b) y → Cong m (pos ((a + b) % m)) (x +ℤ y)
sum_agrees {m} {a} {b} h k = cong_trans (cong_sym (cong_mod m (a + b))) (cong_add h k)

pub product_agrees : {m a b : ℕ} {x y : ℤ} → Cong m (pos a) x → Cong m (pos b) y → Cong m (pos ((a * b) % m)) (x *ℤ y)
product_agrees {m} {a} {b} h k = cong_trans (cong_sym (cong_mod m (a * b))) (cong_mul h k)

pub zero_agrees : (m a : ℕ) → Cong m (pos ((a * 0) % m)) (pos 0)
zero_agrees m a = cong_trans (product_agrees (cong_refl m (pos a)) (cong_refl m (pos 0))) (cong_path m (*ℤ-zero (pos a)))
