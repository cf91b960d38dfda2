-- The marked examples, as one table of which every line holds. Rests on the rules of offers, on reduced forms and on bounds.
use Rattle.std.specs.Prelude.{◌≡◌, ℕ, ◌+◌, ◌^◌, List, [], ◌∷◌, length}
use Rattle.modulus.specs.Bounds.{Mu, open_digits}
use Rattle.modulus.specs.declared.refusal.Refusal.TheVariants.{NoPolynomial}
use Rattle.poly.specs.Equivalents.{Null, ints}
use Rattle.poly.specs.Reduced.{Reported}
use Rattle.fit.specs.Rules.{NoOffer, Offered}

-- values modulo prime ^ exponent, and the form that is reported for them
pub record Report : Type 0 where
  pub prime : ℕ
  pub exponent : ℕ
  pub values : List ℕ
  pub form : List ℕ

-- one more value offered behind others: its place, and where it is accepted its coefficient
pub record Next : Type 0 where
  pub prime : ℕ
  pub exponent : ℕ
  pub values : List ℕ
  pub offered : ℕ
  pub place : ℕ
  pub coefficient : ℕ

-- the count of a modulus
pub record Counted : Type 0 where
  pub prime : ℕ
  pub exponent : ℕ
  pub mu : ℕ
  pub digits : ℕ

abbrev pub reports : List Report
reports =
    record { prime = 2; exponent = 3; values = 0 ∷ 1 ∷ 4 ∷ 1 ∷ []; form = 0 ∷ 1 ∷ 1 ∷ 0 ∷ [] }
    ∷ record { prime = 2; exponent = 3; values = 0 ∷ 1 ∷ 4 ∷ 1 ∷ 0 ∷ []; form = 0 ∷ 1 ∷ 1 ∷ 0 ∷ [] }
    ∷ record { prime = 2; exponent = 2; values = 0 ∷ 0 ∷ 2 ∷ []; form = 0 ∷ 0 ∷ 1 ∷ [] }
    ∷ record { prime = 2; exponent = 2; values = 0 ∷ 1 ∷ 0 ∷ 1 ∷ []; form = 0 ∷ 1 ∷ 1 ∷ 0 ∷ [] }
    ∷ record { prime = 3; exponent = 2; values = 0 ∷ 1 ∷ 2 ∷ 0 ∷ 1 ∷ 2 ∷ []; form = 0 ∷ 1 ∷ 0 ∷ 1 ∷ 0 ∷ 0 ∷ [] }
    ∷ []

abbrev pub accepted : List Next
accepted =
    record { prime = 2; exponent = 3; values = 0 ∷ 1 ∷ 4 ∷ 1 ∷ []; offered = 0; place = 4; coefficient = 0 }
    ∷ record { prime = 2; exponent = 2; values = 0 ∷ 0 ∷ []; offered = 2; place = 2; coefficient = 1 }
    ∷ []

abbrev pub refused : List Next
refused =
    record { prime = 2; exponent = 3; values = 0 ∷ 1 ∷ 4 ∷ 1 ∷ []; offered = 1; place = 4; coefficient = 0 }
    ∷ record { prime = 2; exponent = 2; values = 0 ∷ 0 ∷ []; offered = 1; place = 2; coefficient = 0 }
    ∷ []

abbrev pub counts : List Counted
counts = record { prime = 2; exponent = 8; mu = 10; digits = 50 } ∷ []

-- coefficients in powers of X of a polynomial that is null modulo the modulus
pub record Vanishing : Type 0 where
  pub modulus : ℕ
  pub coefficients : List ℕ

abbrev pub nulls : List Vanishing
nulls = record { modulus = 4; coefficients = 0 ∷ 2 ∷ 2 ∷ [] } ∷ []

-- each of a list has the property
abbrev pub Each : {A : Type 0} → (A → Type 0) → List A → Type 0
Each P [] = Unit {0}
Each P (x ∷ xs) = P x × Each P xs

-- every line of the table holds
pub record Marked : Type 0 where
  pub reported : Each (λ (t : Report). Reported t.prime t.exponent t.values t.form) reports
  pub accepts : Each (λ (t : Next). Offered t.prime t.exponent t.values t.offered t.place t.coefficient) accepted
  pub refuses : Each (λ (t : Next). NoOffer (t.prime ^ t.exponent) t.values t.offered (NoPolynomial t.place)) refused
  pub counted : Each (λ (t : Counted). Mu t.prime t.exponent t.mu × (open_digits t.prime t.exponent t.mu ≡ t.digits)) counts
  pub vanish : Each (λ (t : Vanishing). Null t.modulus (ints t.coefficients)) nulls

-- how many lines it has
abbrev pub how_many : ℕ
how_many = length reports + length accepted + length refused + length counts + length nulls
