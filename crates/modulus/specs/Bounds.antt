-- The exponent of p in i!, the bound of a place, and the number of places that a bound leaves open. Rests on nothing.
use Rattle.std.specs.Prelude.{ℕ, zero, suc, ◌+◌, ◌-◌, ◌*◌, ◌/◌, ◌%◌, ◌^◌, ◌<◌, ◌≤◌}
use Rattle.std.specs.Int.{◌∣◌}

-- k is the exponent of p in n: p ^ k divides n and no higher power of p does
abbrev pub Exponent : ℕ → ℕ → ℕ → Type 0
Exponent p n k = (p ^ k ∣ n) × (p ^ suc k ∣ n → ⊥)

abbrev pub factorial : ℕ → ℕ
factorial zero = 1
factorial (suc i) = suc i * factorial i

-- the exponent of p in n, counted by dividing at most as often as the first number says
abbrev pub more : ℕ → ℕ → ℕ
more zero k = suc k
more (suc r) k = 0

abbrev pub exponent_within : ℕ → ℕ → ℕ → ℕ
exponent_within zero p n = 0
exponent_within (suc d) p n = more (n % p) (exponent_within d p (n / p))

abbrev pub exponent : ℕ → ℕ → ℕ
exponent p n = exponent_within n p n

-- v(i), the exponent of p in i!
abbrev pub v : ℕ → ℕ → ℕ
v p zero = 0
v p (suc i) = v p i + exponent p (suc i)

-- w(i) = p ^ max(e − v(i), 0), the bound of place i
abbrev pub w : ℕ → ℕ → ℕ → ℕ
w p e i = p ^ (e - v p i)

-- k is μ, the least i with v(i) ≥ e: from place μ on every bound is 1
abbrev pub Mu : ℕ → ℕ → ℕ → Type 0
Mu p e k = (e ≤ v p k) × ((j : ℕ) → j < k → v p j < e)

-- the sum of max(e − v(i), 0) over i below k
abbrev pub open_digits : ℕ → ℕ → ℕ → ℕ
open_digits p e zero = 0
open_digits p e (suc i) = open_digits p e i + (e - v p i)
