-- The change from powers of X to a Newton form over a sequence of points. Rests on the integers.
use Rattle.std.specs.Prelude.{ℕ, zero, suc, List, [], ◌∷◌, ℤ, pos, ◌+ℤ◌, ◌*ℤ◌}

-- the points 0, 1, 2, …
abbrev pub ordinary : ℕ → ℤ
ordinary k = pos k

-- the coefficients in the Newton basis of a polynomial that is given by its coefficients in powers of X:
-- X times the basis polynomial of place i is the one of place i + 1 and pt i times its own
abbrev pub to_newton : (ℕ → ℤ) → List ℤ → ℕ → ℤ
to_newton pt [] i = pos 0
to_newton pt (a ∷ f) zero = a +ℤ pt 0 *ℤ to_newton pt f 0
to_newton pt (a ∷ f) (suc i) = to_newton pt f i +ℤ pt (suc i) *ℤ to_newton pt f (suc i)
