-- The ring of integers: the laws that the library lacks, and two sets of rules.
--     zring    for simp: closes an equation between sums and products
--     zlin     for omega: closes what is linear in the integers, with cancellation
-- Assumes nothing.
use Rattle.std.proofs.Common.{◌≡◌, ℕ, ◌+◌, ◌*◌, ℤ, pos, negsuc, ◌+ℤ◌, ◌*ℤ◌, neg_ℤ, ap, ◌∙◌, arith}
use lib.IntN.{+ℤ_idl, +ℤ_idr, +ℤ_assoc, +ℤ_comm, neg_ℤ-+ℤ, neg_ℤ-neg_ℤ, *ℤ_comm, *ℤ-zero, zero-*ℤ}
use borrow.Author.Differences.{up, down, sum_is_lem, neg_is, product_is, same_in, same_out}

up_mul : (a b : ℤ) → up (a *ℤ b) ≡ up a * up b + down a * down b
up_mul a b = (product_is a b).0

down_mul : (a b : ℤ) → down (a *ℤ b) ≡ up a * down b + down a * up b
down_mul a b = (product_is a b).1

pub *ℤ-assoc : (a b c : ℤ) → a *ℤ b *ℤ c ≡ a *ℤ (b *ℤ c)
*ℤ-assoc a b c = same_in (a *ℤ b *ℤ c) (a *ℤ (b *ℤ c)) (simp (up_mul, down_mul) (omega arith))

pub *ℤ-left_comm : (a b c : ℤ) → a *ℤ (b *ℤ c) ≡ b *ℤ (a *ℤ c)
*ℤ-left_comm a b c = same_in (a *ℤ (b *ℤ c)) (b *ℤ (a *ℤ c)) (simp (up_mul, down_mul) (omega arith))

pub +ℤ-left_comm : (a b c : ℤ) → a +ℤ (b +ℤ c) ≡ b +ℤ (a +ℤ c)
+ℤ-left_comm a b c = same_in (a +ℤ (b +ℤ c)) (b +ℤ (a +ℤ c)) (omega (arith, sum_is_lem))

pub *ℤ-add : (a b c : ℤ) → a *ℤ (b +ℤ c) ≡ a *ℤ b +ℤ a *ℤ c
*ℤ-add a b c =
    same_in (a *ℤ (b +ℤ c)) (a *ℤ b +ℤ a *ℤ c)
    (omega (arith, sum_is_lem (a *ℤ b) (a *ℤ c), product_is a (b +ℤ c), product_is a b, product_is a c, ap (λ (n : ℕ). up a * n) (sum_is_lem b c), ap (λ (n : ℕ). down a * n) (sum_is_lem b c)))

pub add_*ℤ : (a b c : ℤ) → (a +ℤ b) *ℤ c ≡ a *ℤ c +ℤ b *ℤ c
add_*ℤ a b c = *ℤ_comm (a +ℤ b) c ∙ *ℤ-add c a b ∙ ap (λ (z : ℤ). z +ℤ c *ℤ b) (*ℤ_comm c a) ∙ ap (λ (z : ℤ). a *ℤ c +ℤ z) (*ℤ_comm c b)

pub negℤ-*ℤ : (a b : ℤ) → neg_ℤ a *ℤ b ≡ neg_ℤ (a *ℤ b)
negℤ-*ℤ a b = same_in (neg_ℤ a *ℤ b) (neg_ℤ (a *ℤ b)) (omega (arith, product_is (neg_ℤ a) b, product_is a b, neg_is (a *ℤ b), ap (λ (n : ℕ). n * up b) (neg_is a).0, ap (λ (n : ℕ). n * down b) (neg_is a).0, ap (λ (n : ℕ). n * up b) (neg_is a).1, ap (λ (n : ℕ). n * down b) (neg_is a).1))

pub *ℤ-negℤ : (a b : ℤ) → a *ℤ neg_ℤ b ≡ neg_ℤ (a *ℤ b)
*ℤ-negℤ a b = *ℤ_comm a (neg_ℤ b) ∙ negℤ-*ℤ b a ∙ ap neg_ℤ (*ℤ_comm b a)

pub *ℤ-minus_one : (a : ℤ) → a *ℤ negsuc 0 ≡ neg_ℤ a
*ℤ-minus_one a = same_in (a *ℤ negsuc 0) (neg_ℤ a) (omega (arith, product_is a (negsuc 0), neg_is a))

pub *ℤ-unit : (a : ℤ) → a *ℤ pos 1 ≡ a
*ℤ-unit a = same_in (a *ℤ pos 1) a (omega (arith, product_is a (pos 1)))

pub unit_*ℤ : (a : ℤ) → pos 1 *ℤ a ≡ a
unit_*ℤ a = *ℤ_comm (pos 1) a ∙ *ℤ-unit a

pub ruleset zring = (*ℤ-add, add_*ℤ, neg_ℤ-+ℤ, neg_ℤ-neg_ℤ, negℤ-*ℤ, *ℤ-negℤ, *ℤ-minus_one, *ℤ-unit, unit_*ℤ, *ℤ-zero, zero-*ℤ, +ℤ_idl, +ℤ_idr, +ℤ_assoc, +ℤ_comm, +ℤ-left_comm, *ℤ-assoc, *ℤ_comm, *ℤ-left_comm)

pub ruleset zlin = (arith, sum_is_lem, neg_is, same_in, same_out)
