-- A fit beside its sheet. Rests on what stands in a fit and on reduced forms.
use Rattle.std.specs.Prelude.{◌≡◌, ℕ, List, Result}
use Rattle.modulus.specs.declared.refusal.Refusal.{Refusal}
use Rattle.poly.specs.Reduced.{Reported}
use Rattle.fit.specs.Standing.{stands}
use Rattle.fit.specs.declared.table.Fit.{Fit}
use Rattle.desk.specs.Book.{Sheet, sheet, fresh, Book}
use Rattle.desk.specs.declared.uses.Use.{Use}
use Rattle.desk.specs.declared.uses.Answer.{Answer}

-- the sheet that belongs to a fit
abbrev pub sheet_of : Fit → Sheet
sheet_of f = sheet f.modulus.prime f.modulus.exponent (stands f)

-- after the uses on a freshly opened fit: the answers stand in the book, the fit has what the sheet says,
-- and the fit's coefficients are the reported form of the sheet's values
pub record CarriedOut (p e : ℕ) (us : List Use) (answers : List (Result Answer Refusal)) (f : Fit) : Type 0 where
  pub end : Sheet
  pub book : Book (fresh p e) us answers end
  pub agrees : sheet_of f ≡ end
  pub reports : Reported end.prime end.exponent end.values f.coefficients
