-- Integer polynomials, their values and what they take modulo m. Rests on the integers and on congruence.
use Rattle.std.specs.Prelude.{ℕ, zero, suc, ◌<◌, ◌≤◌, List, [], ◌∷◌, length, ℤ, pos, ◌+ℤ◌, ◌*ℤ◌, neg_ℤ, slice_index, slice_index_or}
use Rattle.modulus.specs.Congruence.{Cong}

-- a list of coefficients in powers of X, the constant one first, stands for a polynomial: its value at x
abbrev pub value : List ℤ → ℤ → ℤ
value [] x = pos 0
value (a ∷ f) x = a +ℤ x *ℤ value f x

-- f takes ys: modulo m its value at i is the i-th of ys, for each place i
abbrev pub Takes : ℕ → List ℤ → List ℕ → Type 0
Takes m f ys = (i : ℕ) → i < length ys → Cong m (value f (pos i)) (pos (slice_index ys i))

-- some integer polynomial, of whatever degree, takes ys
abbrev pub Fits : ℕ → List ℕ → Type 0
Fits m ys = (f : List ℤ) × Takes m f ys

-- read modulo m, f has no coefficient from place k on: its degree is below k
abbrev pub DegreeBelow : ℕ → List ℤ → ℕ → Type 0
DegreeBelow m f k = (i : ℕ) → k ≤ i → Cong m (slice_index_or f i (pos 0)) (pos 0)

-- sums and multiples of polynomials
abbrev pub plus : List ℤ → List ℤ → List ℤ
plus [] g = g
plus (a ∷ f) [] = a ∷ f
plus (a ∷ f) (b ∷ g) = (a +ℤ b) ∷ plus f g

abbrev pub scaled : ℤ → List ℤ → List ℤ
scaled c [] = []
scaled c (a ∷ f) = (c *ℤ a) ∷ scaled c f

-- (X − a)·f
abbrev pub times_less : ℤ → List ℤ → List ℤ
times_less a f = plus (pos 0 ∷ f) (scaled (neg_ℤ a) f)

-- the falling factorial (X)_i = X(X − 1)…(X − i + 1)
abbrev pub falling : ℕ → List ℤ
falling zero = pos 1 ∷ []
falling (suc i) = times_less (pos i) (falling i)

-- the sum of c_i·(X)_(k + i)
abbrev pub form_from : ℕ → List ℕ → List ℤ
form_from k [] = []
form_from k (c ∷ cs) = plus (scaled (pos c) (falling k)) (form_from (suc k) cs)

-- the Newton form with the coefficients c: the sum of c_i·(X)_i
abbrev pub form : List ℕ → List ℤ
form c = form_from 0 c
