-- Congruence of integers: a and b agree modulo m when m divides a − b. Rests on the integers alone.
use Rattle.std.specs.Prelude.{◌≡◌, ℕ, ℤ, pos, ◌+ℤ◌, ◌*ℤ◌}

pub record Cong (m : ℕ) (a b : ℤ) : Type 0 where
  pub times : ℤ
  pub is : a ≡ b +ℤ times *ℤ pos m
