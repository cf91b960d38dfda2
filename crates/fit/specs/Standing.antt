-- What stands in a fit. Rests on the values of Newton forms.
use Rattle.std.specs.Prelude.{ℕ, ◌^◌, ◌<◌, min, List, slice_index}
use Rattle.modulus.specs.declared.listed.Modulus.{Modulus}
use Rattle.poly.specs.Equivalents.{SamePolynomial, ints}
use Rattle.poly.specs.Polynomial.{form}
use Rattle.poly.specs.Reduced.{Reported, standing}
use Rattle.fit.specs.declared.table.Fit.{Fit}

-- p ^ e
abbrev pub power_of : Modulus → ℕ
power_of m = m.prime ^ m.exponent

-- the standing values, as many as the fit counts, the first of them in place 0
abbrev pub stands : Fit → List ℕ
stands f = standing (power_of f.modulus) f.coefficients f.count

-- how many coefficients a report has: as many as values stand, and at most μ
abbrev pub report_length : Fit → ℕ
report_length f = min f.count f.modulus.mu

-- xs are the coefficients of the form that is reported for the standing values
abbrev pub WrittenReport : Fit → List ℕ → Type 0
WrittenReport f xs = Reported f.modulus.prime f.modulus.exponent (stands f) xs

-- xs are the coefficients in powers of X of the reported polynomial: the reported form with the standing values is one polynomial modulo p ^ e with them,
-- coefficient by coefficient, and each is below p ^ e
pub record WrittenPowers (f : Fit) (xs : List ℕ) : Type 0 where
  pub form_of : List ℕ
  pub reported : Reported f.modulus.prime f.modulus.exponent (stands f) form_of
  pub is : SamePolynomial (power_of f.modulus) (ints xs) (form form_of)
  pub below : (k : ℕ) → slice_index xs k < power_of f.modulus
