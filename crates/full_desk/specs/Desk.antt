-- A fit beside its sheet. Rests on what stands in a fit, on issued plans and on reduced forms.
use Rattle.std.specs.Prelude.{◌≡◌, ℕ, ◌<◌, List, length, Result}
use Rattle.modulus.specs.declared.refusal.Refusal.{Refusal}
use Rattle.poly.specs.Reduced.{Reported}
use Rattle.fit.specs.Standing.{stands}
use Rattle.fit.specs.declared.table.Fit.{Fit}
use Rattle.plan.specs.declared.step.Step.{Step}
use Rattle.planner.specs.Plans.{Issued}
use Rattle.planner.specs.declared.kind.Kind.{Kind}
use Rattle.rack.specs.Runs.{Meaning}
use Rattle.full_desk.specs.Book.{Asked, Told, Issue, Sheet, sheet, fresh, desk, issue_at, Due, Book}

-- the sheet that belongs to a fit, with the plans that were issued
abbrev pub sheet_of : Fit → List Issue → Sheet
sheet_of f plans = sheet f.modulus.prime f.modulus.exponent (stands f) plans

-- each plan was issued for its copy of the values
abbrev pub Sound : Fit → List Issue → Type 0
Sound f plans = (k : ℕ) → k < length plans → (kind : Kind) × Issued f.modulus.prime f.modulus.exponent (issue_at plans k).copy kind (issue_at plans k).steps

-- one use on a desk with a fit and so many trays out: whichever plans were issued before, what is due for it holds, with some plans issued behind it
abbrev pub Performed : ℕ → Fit → List Step → List Meaning → Asked → Result Told Refusal → Fit → List Step → List Meaning → Type 0
Performed out f steps trays u a g steps' trays' =
    (plans : List Issue) → Sound f plans → (plans' : List Issue) × Sound g plans' × Due (desk (sheet_of f plans) steps out trays) u a (desk (sheet_of g plans') steps' out trays')

-- and so for a list of uses
abbrev pub Booked : ℕ → Fit → List Step → List Meaning → List Asked → List (Result Told Refusal) → Fit → List Step → List Meaning → Type 0
Booked out f steps trays us answers g steps' trays' =
    (plans : List Issue) → Sound f plans → (plans' : List Issue) × Sound g plans' × Book (desk (sheet_of f plans) steps out trays) us answers (desk (sheet_of g plans') steps' out trays')

-- after the uses on a freshly opened fit, a step buffer, a rack and a tally: the answers stand in the book, the fit has what the sheet says, the buffer and the trays are as the book says,
-- and the fit's coefficients are the reported form of the sheet's values
pub record CarriedOut (p e out : ℕ) (steps : List Step) (trays : List Meaning) (us : List Asked) (answers : List (Result Told Refusal)) (f : Fit) (steps' : List Step) (trays' : List Meaning) : Type 0 where
  pub end : Sheet
  pub book : Book (desk (fresh p e) steps out trays) us answers (desk end steps' out trays')
  pub agrees : sheet_of f end.plans ≡ end
  pub reports : Reported end.prime end.exponent end.values f.coefficients
