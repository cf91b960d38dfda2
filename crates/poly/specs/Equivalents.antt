-- Polynomials that are one function modulo m, null polynomials and what spans them. Rests on polynomials and reduced forms.
use Rattle.std.specs.Prelude.{ℕ, zero, suc, ◌^◌, ◌≤◌, List, [], map, length, ℤ, pos, negsuc, slice_index_or}
use Rattle.modulus.specs.Bounds.{w}
use Rattle.modulus.specs.Congruence.{Cong}
use Rattle.modulus.specs.Moduli.{Listed}
use Rattle.poly.specs.Polynomial.{value, plus, scaled, falling, form}
use Rattle.poly.specs.Reduced.{Reduced, SameForm}

-- f and g have the same value modulo m at every whole number
abbrev pub Alike : ℕ → List ℤ → List ℤ → Type 0
Alike m f g = (x : ℕ) → Cong m (value f (pos x)) (value g (pos x))

-- f is null: zero modulo m at every whole number
abbrev pub Null : ℕ → List ℤ → Type 0
Null m f = (x : ℕ) → Cong m (value f (pos x)) (pos 0)

-- f and g are one polynomial modulo m: they agree coefficient by coefficient
abbrev pub SamePolynomial : ℕ → List ℤ → List ℤ → Type 0
SamePolynomial m f g = (k : ℕ) → Cong m (slice_index_or f k (pos 0)) (slice_index_or g k (pos 0))

-- c is the reduced form of f: reduced, alike to f, and the only reduced one that is
pub record Reduces (p e : ℕ) (f : List ℤ) (c : List ℕ) : Type 0 where
  pub reduced : Reduced p e c
  pub alike : Alike (p ^ e) (form c) f
  pub only : (d : List ℕ) → Reduced p e d → Alike (p ^ e) (form d) f → SameForm d c

-- reducing a reduced form gives it back: f is the form c in powers of X, and what f reduces to is c again
abbrev pub GivesBack : Type 0
GivesBack = (p e : ℕ) (c d : List ℕ) (f : List ℤ) → Reduced p e c → SamePolynomial (p ^ e) (form c) f → Reduces p e f d → SameForm c d

-- a list of natural numbers as coefficients in powers of X
abbrev pub ints : List ℕ → List ℤ
ints xs = map pos xs

-- the null polynomial of place i: w(i)·(X)_i
abbrev pub null_at : ℕ → ℕ → ℕ → List ℤ
null_at p e i = scaled (pos (w p e i)) (falling i)

-- the sum of k_i·w(i)·(X)_i over i below n
abbrev pub combination : ℕ → ℕ → (ℕ → ℤ) → ℕ → List ℤ
combination p e k zero = []
combination p e k (suc n) = plus (combination p e k n) (scaled (k n) (null_at p e n))

-- f less g
abbrev pub difference : List ℤ → List ℤ → List ℤ
difference f g = plus f (scaled (negsuc 0) g)

-- a polynomial with at most 64 coefficients is null exactly when it is a sum of whole multiples of the w(i)·(X)_i for i up to 63
abbrev pub Span : Type 0
Span =
    (p e : ℕ) → Listed p e → (f : List ℤ) → length f ≤ 64
    → (Null (p ^ e) f → (k : ℕ → ℤ) × SamePolynomial (p ^ e) f (combination p e k 64))
    × (((k : ℕ → ℤ) × SamePolynomial (p ^ e) f (combination p e k 64)) → Null (p ^ e) f)

-- two polynomials are alike exactly when their difference is null, and exactly when their reduced forms are one
abbrev pub ToldApart : Type 0
ToldApart =
    (p e : ℕ) → Listed p e → (f g : List ℤ) (c d : List ℕ) → Reduces p e f c → Reduces p e g d
    → ((Alike (p ^ e) f g → Null (p ^ e) (difference f g)) × (Null (p ^ e) (difference f g) → Alike (p ^ e) f g))
    × ((Alike (p ^ e) f g → SameForm c d) × (SameForm c d → Alike (p ^ e) f g))
