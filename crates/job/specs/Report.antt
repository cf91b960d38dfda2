-- The report on a job, byte for byte. Rests on the job's text, on the rules of offers, on reported forms and on plans.
use Rattle.std.specs.Prelude.{◌≡◌, ℕ, ◌^◌, ◌<◌, min, List, [], ◌∷◌, ◌++◌, length, Some, None, codes, Option, slice_index}
use Rattle.modulus.specs.Bounds.{Mu}
use Rattle.modulus.specs.Moduli.{Listed}
use Rattle.modulus.specs.Refusals.{number_of, place_of}
use Rattle.modulus.specs.declared.refusal.Refusal.{Refusal}
use Rattle.modulus.specs.declared.refusal.Refusal.TheVariants.{BadLine, Unlisted}
use Rattle.poly.specs.Equivalents.{SamePolynomial, ints}
use Rattle.poly.specs.Polynomial.{form}
use Rattle.poly.specs.Reduced.{Reported}
use Rattle.fit.specs.Rules.{NoOffer}
use Rattle.plan.specs.Steps.{multiplications_of}
use Rattle.plan.specs.declared.step.Step.{Step}
use Rattle.planner.specs.Plans.{Planned}
use Rattle.planner.specs.declared.kind.Kind.TheVariants.{Ladder}
use Rattle.job.specs.Text.{Says, IsBadLine, number_line, list_line}

-- ---- what the values of a job come to
-- offered in their order behind the values ys, until one is refused: those that stand in the end, and the refusal, if there is one
pub data Judged (m : ℕ) : List ℕ → List ℕ → List ℕ → Option Refusal → Type 0 where
  all_stand : {ys : List ℕ} → Judged m ys [] ys None
  turned_away : {ys vs : List ℕ} {y : ℕ} {f : Refusal} → NoOffer m ys y f → Judged m ys (y ∷ vs) ys (Some f)
  one_stands : {ys vs end : List ℕ} {y : ℕ} {r : Option Refusal} → ((f : Refusal) → NoOffer m ys y f → ⊥) → Judged m (ys ++ y ∷ []) vs end r → Judged m ys (y ∷ vs) end r

-- the figures of a report on the standing values ys: the first min(n, μ) coefficients of the reported form, as many in powers of X, each below the modulus,
-- and the multiplications of the ladder
pub record FiguresOf (p e : ℕ) (ys reduced powers : List ℕ) (multiplications : ℕ) : Type 0 where
  pub reported : Reported p e ys reduced
  pub mu : ℕ
  pub least : Mu p e mu
  pub long : length reduced ≡ min (length ys) mu
  pub as_long : length powers ≡ length reduced
  pub same : SamePolynomial (p ^ e) (ints powers) (form reduced)
  pub below : (k : ℕ) → slice_index powers k < p ^ e
  pub ladder : List Step
  pub planned : Planned p e ys Ladder ladder
  pub multiply : multiplications ≡ multiplications_of ladder

-- ---- lines
-- a refusal's number and place
abbrev pub refusal_lines : Refusal → List ℕ
refusal_lines f = number_line (codes "refused=") (number_of f) ++ number_line (codes "at=") (place_of f)

abbrev pub last_lines : Option Refusal → List ℕ
last_lines None = []
last_lines (Some f) = refusal_lines f

abbrev pub report_lines : ℕ → List ℕ → List ℕ → ℕ → Option Refusal → List ℕ
report_lines standing reduced powers multiplications r =
    number_line (codes "standing=") standing
    ++ (list_line (codes "reduced=") reduced ++ (list_line (codes "powers=") powers ++ (number_line (codes "multiplications=") multiplications ++ last_lines r)))

-- ---- the report
-- out is the report on these bytes: where they are no job, the refusal that names the line; where the modulus is off the list, that refusal;
-- else the figures of the values that stand, and the refusal of the first value that does not
pub data Reports (bytes : List ℕ) : List ℕ → Type 0 where
  no_job : {line : ℕ} → IsBadLine bytes line → Reports bytes (refusal_lines (BadLine line))
  no_modulus : {p e : ℕ} {vs : List ℕ} → Says bytes p e vs → (Listed p e → ⊥) → Reports bytes (refusal_lines Unlisted)
  judged : {p e : ℕ} {vs ys reduced powers : List ℕ} {multiplications : ℕ} {r : Option Refusal} → Says bytes p e vs → Listed p e → Judged (p ^ e) [] vs ys r
      → FiguresOf p e ys reduced powers multiplications → Reports bytes (report_lines (length ys) reduced powers multiplications r)

-- there is only one report on the bytes
abbrev pub OneReport : Type 0
OneReport = (bytes out other : List ℕ) → Reports bytes out → Reports bytes other → out ≡ other
