-- What an offer and a withdrawal owe, by the standing values alone. Rests on polynomials, reduced forms and the refusals.
use Rattle.std.specs.Prelude.{◌≡◌, ℕ, ◌^◌, ◌<◌, ◌≤◌, List, [], ◌∷◌, ◌++◌, length, slice_index}
use Rattle.modulus.specs.declared.refusal.Refusal.{Refusal}
use Rattle.modulus.specs.declared.refusal.Refusal.TheVariants.{TooLarge, Full, NoPolynomial, NothingStands}
use Rattle.poly.specs.Polynomial.{Fits}
use Rattle.poly.specs.Reduced.{Reported}

-- the refusals of an offer of y to the standing values ys, in their order: the table is full; y is not below m; no integer polynomial takes ys and, next in place, y
pub data NoOffer (m : ℕ) (ys : List ℕ) (y : ℕ) : Refusal → Type 0 where
  full : length ys ≡ m → NoOffer m ys y (Full (length ys))
  large : length ys < m → m ≤ y → NoOffer m ys y (TooLarge (length ys))
  unfit : length ys < m → y < m → (Fits m (ys ++ y ∷ []) → ⊥) → NoOffer m ys y (NoPolynomial (length ys))

-- what an accepted offer answers: its place, and the coefficient in that place of the form that is reported with y behind ys
pub record Offered (p e : ℕ) (ys : List ℕ) (y place coefficient : ℕ) : Type 0 where
  pub room : length ys < p ^ e
  pub small : y < p ^ e
  pub fits : Fits (p ^ e) (ys ++ y ∷ [])
  pub here : place ≡ length ys
  pub reports : (c : List ℕ) × Reported p e (ys ++ y ∷ []) c × (coefficient ≡ slice_index c place)

-- the refusal of a withdrawal: nothing stands
pub data NoWithdrawal (ys : List ℕ) : Refusal → Type 0 where
  none : ys ≡ [] → NoWithdrawal ys NothingStands
