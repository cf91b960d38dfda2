-- Lists of coefficients in powers of X as the calls take and write them, and what is refused of them. Rests on polynomials, bounds and the refusals.
use Rattle.std.specs.Prelude.{◌≡◌, ℕ, ◌+◌, ◌^◌, ◌<◌, ◌≤◌, List, length, ℤ, slice_index}
use Rattle.modulus.specs.Bounds.{Mu}
use Rattle.modulus.specs.Moduli.{Listed}
use Rattle.modulus.specs.declared.refusal.Refusal.{Refusal}
use Rattle.modulus.specs.declared.refusal.Refusal.TheVariants.{Unlisted, TooLarge, ShortBuffer, OutOfRange}
use Rattle.poly.specs.Equivalents.{SamePolynomial, ints}

-- xs has the coefficients of f modulo m, each below m, and none from place n on
pub record Holds (m : ℕ) (f : List ℤ) (n : ℕ) (xs : List ℕ) : Type 0 where
  pub is : SamePolynomial m (ints xs) f
  pub below : (k : ℕ) → slice_index xs k < m
  pub clear : (k : ℕ) → n ≤ k → slice_index xs k ≡ 0

-- the refusals of a form with n coefficients that is to be written into a buffer: it is longer than 64, or the buffer is too short
pub data NoPowers (n room : ℕ) : Refusal → Type 0 where
  long : 64 < n → NoPowers n room (OutOfRange n)
  short : n ≤ 64 → room < n → NoPowers n room (ShortBuffer n)

-- the refusals of a list of coefficients: it is longer than 64, or one is not below m, and then the first of them is named
pub data NoList (m : ℕ) (xs : List ℕ) : Refusal → Type 0 where
  too_many : 64 < length xs → NoList m xs (OutOfRange (length xs))
  too_large : length xs ≤ 64 → (i : ℕ) → i < length xs → m ≤ slice_index xs i → ((j : ℕ) → j < i → slice_index xs j < m) → NoList m xs (TooLarge i)

-- a list that is not refused
pub record Taken (m : ℕ) (xs : List ℕ) : Type 0 where
  pub few : length xs ≤ 64
  pub small : (k : ℕ) → k < length xs → slice_index xs k < m

-- the refusals of a reduction into a buffer
pub data NoReduction (p e : ℕ) (xs : List ℕ) (room : ℕ) : Refusal → Type 0 where
  off_list : (Listed p e → ⊥) → NoReduction p e xs room Unlisted
  bad_list : {f : Refusal} → Listed p e → NoList (p ^ e) xs f → NoReduction p e xs room f
  no_room : {k : ℕ} → Listed p e → Taken (p ^ e) xs → Mu p e k → room < k → NoReduction p e xs room (ShortBuffer k)

-- the refusals of a comparison: those of the first list come before those of the second
pub data NoComparison (p e : ℕ) (xs ys : List ℕ) : Refusal → Type 0 where
  off_list : (Listed p e → ⊥) → NoComparison p e xs ys Unlisted
  bad_first : {f : Refusal} → Listed p e → NoList (p ^ e) xs f → NoComparison p e xs ys f
  bad_second : {f : Refusal} → Listed p e → Taken (p ^ e) xs → NoList (p ^ e) ys f → NoComparison p e xs ys f

-- the refusals of a null polynomial's place and buffer
pub data NoNull (p e i room : ℕ) : Refusal → Type 0 where
  off_list : (Listed p e → ⊥) → NoNull p e i room Unlisted
  far : Listed p e → 63 < i → NoNull p e i room (OutOfRange i)
  no_room : Listed p e → i ≤ 63 → room < i + 1 → NoNull p e i room (ShortBuffer (i + 1))
