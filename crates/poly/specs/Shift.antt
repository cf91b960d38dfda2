-- One step of a change of basis on a list of coefficients. Rests on nothing.
use Rattle.std.specs.Prelude.{ℕ, ◌+◌, ◌*◌, ◌%◌, List, [], ◌∷◌}

-- each becomes, modulo m, the one before it plus its own times t, and t grows by a constant
abbrev pub shifted : ℕ → ℕ → ℕ → ℕ → List ℕ → List ℕ
shifted m before t by [] = []
shifted m before t by (c ∷ cs) = ((before + t * c) % m) ∷ shifted m c (t + by) by cs
