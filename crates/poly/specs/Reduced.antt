-- Reduced Newton forms, and the one that is reported for a table of values. Rests on polynomials and bounds.
use Rattle.std.specs.Prelude.{◌≡◌, ℕ, zero, suc, ◌+◌, ◌-◌, ◌*◌, ◌%◌, ◌^◌, ◌<◌, ◌≤◌, List, [], ◌∷◌, ◌++◌, length, ℤ, slice_index}
use Rattle.modulus.specs.Bounds.{w}
use Rattle.poly.specs.Polynomial.{Takes, DegreeBelow, form}

-- every coefficient of the Newton form is below the bound of its place
abbrev pub Reduced : ℕ → ℕ → List ℕ → Type 0
Reduced p e c = (i : ℕ) → slice_index c i < w p e i

-- c and d are one form: they differ at most in zeros behind the last coefficient
abbrev pub SameForm : List ℕ → List ℕ → Type 0
SameForm c d = (i : ℕ) → slice_index c i ≡ slice_index d i

-- the length of a form: one more than the place of its last coefficient that is not 0, or 0 where there is none
abbrev pub longer : ℕ → ℕ → ℕ
longer zero zero = 0
longer (suc c) zero = 1
longer c (suc k) = suc (suc k)

abbrev pub form_length : List ℕ → ℕ
form_length [] = 0
form_length (c ∷ cs) = longer c (form_length cs)

-- c is what is reported for the values ys modulo p ^ e: a reduced form that takes them, of the least degree, and the only reduced one of its length
pub record Reported (p e : ℕ) (ys c : List ℕ) : Type 0 where
  pub reduced : Reduced p e c
  pub within : form_length c ≤ length ys
  pub takes : Takes (p ^ e) (form c) ys
  pub least : (f : List ℤ) → Takes (p ^ e) f ys → (k : ℕ) → DegreeBelow (p ^ e) f k → form_length c ≤ k
  pub only : (d : List ℕ) → Reduced p e d → form_length d ≤ length ys → Takes (p ^ e) (form d) ys → SameForm d c

-- ---- values of a form at whole numbers, for what computes
-- x(x − 1)…(x − i + 1), which is 0 where i is above x
abbrev pub falls : ℕ → ℕ → ℕ
falls x zero = 1
falls x (suc i) = falls x i * (x - i)

-- the sum of c_i·falls x i over i below k
abbrev pub sum_to : List ℕ → ℕ → ℕ → ℕ
sum_to c x zero = 0
sum_to c x (suc k) = sum_to c x k + slice_index c k * falls x k

-- the value of the form c at x
abbrev pub value_at : List ℕ → ℕ → ℕ
value_at c x = sum_to c x (length c)

-- its values at the first n whole numbers, modulo m
abbrev pub standing : ℕ → List ℕ → ℕ → List ℕ
standing m c zero = []
standing m c (suc n) = standing m c n ++ (value_at c n % m) ∷ []
