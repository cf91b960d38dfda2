-- The two layouts of a plan, step for step. Rests on steps, polynomials and the length of a form.
use Rattle.std.specs.Prelude.{◌≡◌, ℕ, zero, suc, ◌+◌, ◌-◌, ◌*◌, ◌/◌, ◌%◌, ◌<◌, List, [], ◌∷◌, ◌++◌, slice_index}
use Rattle.poly.specs.Equivalents.{SamePolynomial, ints}
use Rattle.poly.specs.Polynomial.{form}
use Rattle.poly.specs.Reduced.{form_length}
use Rattle.plan.specs.declared.step.Op.TheVariants.{Add, Multiply, Scale, Shift}
use Rattle.plan.specs.declared.step.Step.{Step}
use Rattle.planner.specs.declared.kind.Kind.{Kind}
use Rattle.planner.specs.declared.kind.Kind.TheVariants.{Ladder, Block}

-- ---- single steps
-- tray `to` is the sum of the trays a and b
abbrev pub adds : ℕ → ℕ → ℕ → Step
adds to a b = record { op = Add; to = to; a = a; b = b; k = 0 }

-- tray `to` is tray a times tray b
abbrev pub multiplies : ℕ → ℕ → ℕ → Step
multiplies to a b = record { op = Multiply; to = to; a = a; b = b; k = 0 }

-- tray `to` is tray a times the number k
abbrev pub scales : ℕ → ℕ → ℕ → Step
scales to a k = record { op = Scale; to = to; a = a; b = 0; k = k }

-- tray `to` is tray a plus the number k
abbrev pub shifts : ℕ → ℕ → ℕ → Step
shifts to a k = record { op = Shift; to = to; a = a; b = 0; k = k }

-- the plan of the polynomial 0, of either kind
abbrev pub nothing : List Step
nothing = scales 1 0 0 ∷ []

-- ---- the ladder of a Newton form c with n coefficients
-- −i modulo m
abbrev pub minus : ℕ → ℕ → ℕ
minus m i = (m - i % m) % m

-- for i from n − 1 down to 0: tray 2 is tray 0 less i, tray 1 is tray 1 times tray 2, tray 1 is shifted by c_i
abbrev pub rungs : ℕ → List ℕ → ℕ → List Step
rungs m c zero = []
rungs m c (suc i) = shifts 2 0 (minus m i) ∷ multiplies 1 1 2 ∷ shifts 1 1 (slice_index c i) ∷ rungs m c i

abbrev pub ladder : ℕ → List ℕ → ℕ → List Step
ladder m c zero = nothing
ladder m c (suc zero) = scales 1 0 0 ∷ shifts 1 1 (slice_index c 0) ∷ []
ladder m c (suc (suc n)) = shifts 2 0 (minus m n) ∷ scales 1 2 (slice_index c (suc n)) ∷ shifts 1 1 (slice_index c n) ∷ rungs m c n

-- ---- the block plan of size s over n coefficients a in powers of X
-- for j from 2 to n: tray j − 1 is the product of the trays ⌊j/2⌋ − 1 and ⌈j/2⌉ − 1, and so has the j-th power of the input
abbrev pub powers : ℕ → List Step
powers zero = []
powers (suc zero) = []
powers (suc (suc i)) = powers (suc i) ++ multiplies (suc i) (suc (suc i) / 2 - 1) ((suc (suc i) + 1) / 2 - 1) ∷ []

-- for j from 1 to n: tray s + 1 is tray j − 1 scaled by the coefficient in place at + j, and is added to tray s
abbrev pub terms : ℕ → List ℕ → ℕ → ℕ → List Step
terms s a at zero = []
terms s a at (suc i) = terms s a at i ++ scales (s + 1) i (slice_index a (at + suc i)) ∷ adds s s (s + 1) ∷ []

-- one block: the s coefficients from place `at` on, the first by a shift
abbrev pub filled : ℕ → List ℕ → ℕ → List Step
filled s a at = shifts s s (slice_index a at) ∷ terms s a at (s - 1)

-- the b blocks below, the last of them first: each time tray s is multiplied by tray s − 1, which has the s-th power of the input
abbrev pub lower : ℕ → List ℕ → ℕ → List Step
lower s a zero = []
lower s a (suc b) = multiplies s s (s - 1) ∷ (filled s a (b * s) ++ lower s a b)

-- the blocks, the top one first: tray s starts as 0
abbrev pub blocks : ℕ → List ℕ → ℕ → List Step
blocks s a zero = []
blocks s a (suc b) = scales s 0 0 ∷ (filled s a (b * s) ++ lower s a b)

-- there are ⌈n/s⌉ blocks
abbrev pub block : ℕ → List ℕ → ℕ → List Step
block s a zero = nothing
block s a (suc n) = powers s ++ blocks s a ((n + s) / s)

-- ---- the plan of each kind
-- the steps are the plan of this kind for the Newton form c modulo m; a block plan goes over the coefficients in powers of X of the same polynomial, each below m
abbrev pub Layout : ℕ → List ℕ → Kind → List Step → Type 0
Layout m c Ladder steps = steps ≡ ladder m c (form_length c)
Layout m c (Block s) steps =
    (a : List ℕ) × SamePolynomial m (ints a) (form c) × ((k : ℕ) → slice_index a k < m) × (steps ≡ block s a (form_length c))
