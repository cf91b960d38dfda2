-- Division by a factorial modulo p ^ e. Rests on bounds.
use Rattle.std.specs.Prelude.{◌≡◌, ℕ, ◌*◌, ◌%◌, ◌<◌, Option, MatchOption, ◌≢◌}
use Rattle.modulus.specs.Bounds.{factorial, w}
use Rattle.modulus.specs.declared.listed.Modulus.{Modulus}

-- r is the number c below w(i) with c·i! = rest modulo m; none exactly where no number c has that
abbrev pub Quotient : Modulus → ℕ → ℕ → Option ℕ → Type 0
Quotient m i rest r =
    MatchOption r ((c : ℕ) → (c * factorial i) % m.value ≢ rest % m.value)
    (λ c. (c < w m.prime m.exponent i) × ((c * factorial i) % m.value ≡ rest % m.value))
