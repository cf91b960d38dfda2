-- The moduli that the engine takes: p ^ e for seven primes p, each with its own greatest exponent. Rests on nothing.
use Rattle.std.specs.Prelude.{ℕ, ◌≤◌, cond, ◌==◌}

-- the greatest exponent listed with p; 0 where p is not listed
abbrev pub greatest : ℕ → ℕ
greatest p =
    cond (p == 2) 16
    (cond (p == 3) 10 (cond (p == 5) 6 (cond (p == 7) 5 (cond (p == 11) 4 (cond (p == 13) 4 (cond (p == 17) 3 0))))))

-- p ^ e is a listed modulus
abbrev pub Listed : ℕ → ℕ → Type 0
Listed p e = (1 ≤ e) × (e ≤ greatest p)
