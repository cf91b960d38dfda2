-- What an offer has to pass before a polynomial is asked. Rests on the fit.
use Rattle.std.specs.Prelude.{ℕ, ◌<◌}
use Rattle.fit.specs.declared.table.Fit.{Fit}

-- the fit is not full, and y is below its modulus
abbrev pub InRange : Fit → ℕ → Type 0
InRange f y = (f.count < f.modulus.value) × (y < f.modulus.value)
