-- Equations between integers that several proofs use. Assumes nothing.
use Rattle.std.proofs.Common.{◌≡◌, ℤ, pos, ◌+ℤ◌, ◌-ℤ◌, ◌*ℤ◌}
use Rattle.modulus.proofs.Integers.{zring, zlin}

pub zeros_ring : (x : ℤ) → pos 0 +ℤ x *ℤ pos 0 ≡ pos 0
zeros_ring x = simp zring

pub none-ring : (s b : ℤ) → s +ℤ pos 0 *ℤ b ≡ s
none-ring s b = simp zring

pub drop-ring : (s q b : ℤ) → s +ℤ q *ℤ pos 0 *ℤ b ≡ s
drop-ring s q b = simp zring

pub start_ring : (b : ℤ) → b ≡ pos 0 +ℤ pos 1 *ℤ b
start_ring b = simp zring

pub back_ring : (a y : ℤ) → a +ℤ (y -ℤ a) ≡ y
back_ring a y = omega zlin

pub turn_ring : (a b : ℤ) → a *ℤ b ≡ b *ℤ a
turn_ring a b = simp zring

pub split_ring : (a b x : ℤ) → a *ℤ (b *ℤ x) ≡ a *ℤ b *ℤ x
split_ring a b x = simp zring

pub one_ring : (a q : ℤ) → a *ℤ q *ℤ pos 1 ≡ a *ℤ q
one_ring a q = simp zring

pub form-ring : (a b f s : ℤ) → a *ℤ b +ℤ f +ℤ s ≡ f +ℤ (s +ℤ a *ℤ b)
form-ring a b f s = simp zring
