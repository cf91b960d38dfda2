-- The law over every list of uses of a freshly opened fit, a step buffer, a rack and a tally. A sheet is kept beside the fit: it is fed the arguments alone and says what stands and which plans were issued.
-- Rests on the rules of offers, withdrawals, plans and runs.
use Rattle.std.specs.Prelude.{◌≡◌, ℕ, ◌+◌, ◌-◌, ◌^◌, ◌<◌, ◌≤◌, min, List, [], ◌∷◌, ◌++◌, length, take, drop, Ok, Err, Result, slice_index, slice_index_or}
use Rattle.modulus.specs.declared.refusal.Refusal.{Refusal}
use Rattle.fit.specs.Rules.{NoOffer, Offered, NoWithdrawal}
use Rattle.fit.specs.declared.table.offer.Accepted.{Accepted}
use Rattle.plan.specs.declared.cost.Price.{Price}
use Rattle.plan.specs.declared.step.Step.{Step}
use Rattle.planner.specs.Plans.{Issued, NoPlan, Priced}
use Rattle.planner.specs.declared.kind.Kind.{Kind}
use Rattle.rack.specs.Runs.{Meaning, NoRun, Runs}
use Rattle.rack.specs.Lanes.{DueLane}

-- what can be asked, with the meaning of an input in place of the input
pub data Asked : Type 0 where
  offer : ℕ → Asked
  withdraw : Asked
  plan : (kind : Kind) (start count : ℕ) → Asked
  run : (p e start count : ℕ) (input : Meaning) → Asked

-- what is told where nothing is refused, with the meaning of an answer in place of the answer
pub data Told : Type 0 where
  accepts : Accepted → Told
  withdrew : ℕ → Told
  wrote : Price → Told
  ran : Meaning → Told

-- an issued plan: the steps that were written, and a copy of the values that stood then
pub record Issue : Type 0 where
  pub steps : List Step
  pub copy : List ℕ

-- the sheet: the modulus, the values that stand, and the plans that were issued, the first of them first
pub record Sheet : Type 0 where
  pub prime : ℕ
  pub exponent : ℕ
  pub values : List ℕ
  pub plans : List Issue

abbrev pub sheet : ℕ → ℕ → List ℕ → List Issue → Sheet
sheet p e ys plans = record { prime = p; exponent = e; values = ys; plans = plans }

-- beside a freshly opened fit
abbrev pub fresh : ℕ → ℕ → Sheet
fresh p e = sheet p e [] []

-- the same sheet with other values, and with one plan more
abbrev pub with_values : Sheet → List ℕ → Sheet
with_values s ys = sheet s.prime s.exponent ys s.plans

abbrev pub with_plan : Sheet → List Step → Sheet
with_plan s steps = sheet s.prime s.exponent s.values (s.plans ++ record { steps = steps; copy = s.values } ∷ [])

-- what a use meets: the sheet, the caller's step buffer, into which plans are written, how many trays are out, and what the rack's trays have
pub record Desk : Type 0 where
  pub sheet : Sheet
  pub steps : List Step
  pub out : ℕ
  pub trays : List Meaning

abbrev pub desk : Sheet → List Step → ℕ → List Meaning → Desk
desk s steps out trays = record { sheet = s; steps = steps; out = out; trays = trays }

-- the same desk with another sheet, and with other trays
abbrev pub with_sheet : Desk → Sheet → Desk
with_sheet d s = desk s d.steps d.out d.trays

abbrev pub with_trays : Desk → List Meaning → Desk
with_trays d trays = desk d.sheet d.steps d.out trays

-- ---- parts of the step buffer
-- a part is named by a start and a count, and goes as far as the buffer does: where it begins, how many steps it has, and its steps
abbrev pub begins : List Step → ℕ → ℕ
begins steps start = min start (length steps)

abbrev pub room : List Step → ℕ → ℕ → ℕ
room steps start count = min count (length steps - begins steps start)

abbrev pub part : List Step → ℕ → ℕ → List Step
part steps start count = take (room steps start count) (drop (begins steps start) steps)

-- the buffer with a plan written into it from a place on
abbrev pub written : List Step → ℕ → List Step → List Step
written steps at made = take at steps ++ (made ++ drop (at + length made) steps)

-- ---- runs of issued plans
-- the issued plan with this number; past the last, one that only fills the type
abbrev pub issue_at : List Issue → ℕ → Issue
issue_at plans k = slice_index_or plans k (record { steps = []; copy = [] })

-- what a run under the sheet's modulus owes: by the copy of every issued plan whose steps it has, each lane of the answer is what is due for the input's lane
abbrev pub Owes : Sheet → ℕ → ℕ → List Step → Meaning → Meaning → Type 0
Owes s p e steps input answer =
    p ≡ s.prime → e ≡ s.exponent → (k : ℕ) → k < length s.plans → (issue_at s.plans k).steps ≡ steps
    → (j : ℕ) → j < length input.lanes → DueLane p e (issue_at s.plans k).copy (slice_index input.lanes j) (slice_index answer.lanes j)

-- ---- single uses
-- the table of refusals: which use the rules refuse, how, and what desk that leaves; only a run that was begun leaves other trays
pub data Refuses (d : Desk) : Asked → Refusal → Desk → Type 0 where
  refuses_offer : {y : ℕ} {f : Refusal} → NoOffer (d.sheet.prime ^ d.sheet.exponent) d.sheet.values y f → Refuses d (offer y) f d
  refuses_withdrawal : {f : Refusal} → NoWithdrawal d.sheet.values f → Refuses d withdraw f d
  refuses_plan : {kind : Kind} {start count : ℕ} {f : Refusal}
      → NoPlan d.sheet.prime d.sheet.exponent d.sheet.values (room d.steps start count) kind f → Refuses d (plan kind start count) f d
  refuses_run : {p e start count : ℕ} {input : Meaning} {f : Refusal} {after : List Meaning}
      → NoRun p e (part d.steps start count) d.out d.trays input f after → Refuses d (run p e start count input) f (with_trays d after)

-- what a use that the rules do not refuse answers, and what it makes of the desk: an offer joins the end, a withdrawal takes the last value,
-- a plan for what stands is issued with a copy of the values and written into its part of the buffer, a run answers what it owes and leaves its trays
pub data Gives (d : Desk) : Asked → Told → Desk → Type 0 where
  stands_now : {y : ℕ} {a : Accepted} → Offered d.sheet.prime d.sheet.exponent d.sheet.values y a.place a.coefficient
      → Gives d (offer y) (accepts a) (with_sheet d (with_values d.sheet (d.sheet.values ++ y ∷ [])))
  goes : {ys : List ℕ} {y : ℕ} → d.sheet.values ≡ ys ++ y ∷ [] → Gives d withdraw (withdrew y) (with_sheet d (with_values d.sheet ys))
  issued : {kind : Kind} {start count : ℕ} {steps : List Step} {price : Price}
      → Issued d.sheet.prime d.sheet.exponent d.sheet.values kind steps → Priced steps price → length steps ≤ room d.steps start count
      → Gives d (plan kind start count) (wrote price) (desk (with_plan d.sheet steps) (written d.steps (begins d.steps start) steps) d.out d.trays)
  run_through : {p e start count : ℕ} {input answer : Meaning} {after : List Meaning}
      → Runs p e (part d.steps start count) d.out d.trays input answer after → Owes d.sheet p e (part d.steps start count) input answer
      → Gives d (run p e start count input) (ran answer) (with_trays d after)

-- what is due for one use: it is turned away, or no refusal holds and it is answered
pub data Due (d : Desk) (u : Asked) : Result Told Refusal → Desk → Type 0 where
  turned_away : {f : Refusal} {t : Desk} → Refuses d u f t → Due d u (Err f) t
  answered : {a : Told} {t : Desk} → ((f : Refusal) (s : Desk) → Refuses d u f s → ⊥) → Gives d u a t → Due d u (Ok a) t

-- the answers of a whole list of uses, each having met what the earlier ones made of the desk
pub data Book : Desk → List Asked → List (Result Told Refusal) → Desk → Type 0 where
  closed : {d : Desk} → Book d [] [] d
  entry : {d t end : Desk} {u : Asked} {a : Result Told Refusal} {us : List Asked} {rest : List (Result Told Refusal)}
      → Due d u a t → Book t us rest end → Book d (u ∷ us) (a ∷ rest) end
