-- The meaning of an element: its lanes and its level, and what the five operations make of them. Rests on nothing.
use Rattle.std.specs.Prelude.{◌≡◌, ℕ, zero, suc, ◌+◌, ◌*◌, ◌/◌, ◌%◌, ◌<◌, ◌≤◌, min, List, [], ◌∷◌, length, Option, MatchOption, slice_index}

-- a level: so many multiplications are left, or there is no end to them
pub data Level : Type 0 where
  left : ℕ → Level
  endless : Level

-- the smaller of two levels
abbrev pub least : Level → Level → Level
least (left a) (left b) = left (min a b)
least (left a) endless = left a
least endless b = b

-- one multiplication is taken off
abbrev pub spent : Level → Level
spent (left zero) = left 0
spent (left (suc n)) = left n
spent endless = endless

-- no multiplication is left
abbrev pub UsedUp : Level → Type 0
UsedUp (left zero) = Unit {0}
UsedUp (left (suc n)) = ⊥
UsedUp endless = ⊥

-- ---- lanes under a modulus m
abbrev pub sums : ℕ → List ℕ → List ℕ → List ℕ
sums m [] ys = []
sums m (x ∷ xs) [] = []
sums m (x ∷ xs) (y ∷ ys) = (x + y) % m ∷ sums m xs ys

abbrev pub products : ℕ → List ℕ → List ℕ → List ℕ
products m [] ys = []
products m (x ∷ xs) [] = []
products m (x ∷ xs) (y ∷ ys) = (x * y) % m ∷ products m xs ys

abbrev pub scaled : ℕ → ℕ → List ℕ → List ℕ
scaled m k [] = []
scaled m k (x ∷ xs) = (x * k) % m ∷ scaled m k xs

abbrev pub shifted : ℕ → ℕ → List ℕ → List ℕ
shifted m k [] = []
shifted m k (x ∷ xs) = (x + k) % m ∷ shifted m k xs

-- every lane is a multiple of p
abbrev pub Multiples : ℕ → List ℕ → Type 0
Multiples p [] = Unit {0}
Multiples p (x ∷ xs) = (x % p ≡ 0) × Multiples p xs

abbrev pub lowered : ℕ → List ℕ → List ℕ
lowered p [] = []
lowered p (x ∷ xs) = x / p ∷ lowered p xs

-- the lane with number i is shown; nothing where there is none
abbrev pub Shows : List ℕ → ℕ → Option ℕ → Type 0
Shows lanes i r = MatchOption r (length lanes ≤ i) (λ x. (i < length lanes) × (x ≡ slice_index lanes i))
