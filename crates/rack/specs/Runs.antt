-- What steps make of trays whose elements have lanes and a level. Rests on the rules of elements and on steps.
use Rattle.std.specs.Prelude.{◌≡◌, ℕ, ◌+◌, ◌-◌, ◌^◌, ◌<◌, ◌≤◌, ◌⊎◌, List, [], ◌∷◌, map, length, take, Result, MatchResult, slice_index_or, slice_set}
use Rattle.modulus.specs.Moduli.{Listed}
use Rattle.modulus.specs.declared.refusal.Refusal.{Refusal}
use Rattle.modulus.specs.declared.refusal.Refusal.TheVariants.{BadStep, LevelUsed, NoTrays, Unlisted}
use Rattle.element.specs.Rules.{Level, endless, UsedUp, least, products, scaled, shifted, spent, sums}
use Rattle.plan.specs.Steps.{FirstBad, Passes, step_at, trays_of}
use Rattle.plan.specs.Trays.{last_from}
use Rattle.plan.specs.declared.step.Op.{Op}
use Rattle.plan.specs.declared.step.Op.TheVariants.{Add, Multiply, Scale, Shift}
use Rattle.plan.specs.declared.step.Step.{Step}

-- the meaning of an element
pub record Meaning : Type 0 where
  pub lanes : List ℕ
  pub level : Level

abbrev pub meaning : List ℕ → Level → Meaning
meaning lanes level = record { lanes = lanes; level = level }

-- the meanings of elements of a kind
abbrev pub meaning_of : {A : Type 0} → (A → List ℕ) → (A → Level) → A → Meaning
meaning_of lanes level x = meaning (lanes x) (level x)

abbrev pub meanings : {A : Type 0} → (A → List ℕ) → (A → Level) → List A → List Meaning
meanings lanes level xs = map (meaning_of lanes level) xs

-- what tray t has; past the rack, something that only fills the type
abbrev pub tray : List Meaning → ℕ → Meaning
tray trays t = slice_index_or trays t (meaning [] endless)

-- what a step gives its tray, by what the trays a and b have
abbrev pub given : ℕ → Meaning → Meaning → ℕ → Op → Meaning
given m a b k Add = meaning (sums m a.lanes b.lanes) (least a.level b.level)
given m a b k Multiply = meaning (products m a.lanes b.lanes) (spent (least a.level b.level))
given m a b k Scale = meaning (scaled m k a.lanes) a.level
given m a b k Shift = meaning (shifted m k a.lanes) a.level

-- a multiplication that no level is left for
abbrev pub Stuck : Meaning → Meaning → Op → Type 0
Stuck a b Add = ⊥
Stuck a b Multiply = UsedUp (least a.level b.level)
Stuck a b Scale = ⊥
Stuck a b Shift = ⊥

-- trays are counted from a base on: what a step makes of them, and what steps do, one after the other
abbrev pub after_step : ℕ → ℕ → List Meaning → Step → List Meaning
after_step m base trays s = slice_set trays (base + s.to) (given m (tray trays (base + s.a)) (tray trays (base + s.b)) s.k s.op)

abbrev pub after_steps : ℕ → ℕ → List Meaning → List Step → List Meaning
after_steps m base trays [] = trays
after_steps m base trays (s ∷ steps) = after_steps m base (after_step m base trays s) steps

abbrev pub StuckStep : ℕ → List Meaning → Step → Type 0
StuckStep base trays s = Stuck (tray trays (base + s.a)) (tray trays (base + s.b)) s.op

-- step i finds its level used up, behind the steps before it
abbrev pub StuckAt : ℕ → ℕ → List Meaning → List Step → ℕ → Type 0
StuckAt m base trays steps i = StuckStep base (after_steps m base trays (take i steps)) (step_at steps i)

-- ---- whole runs: the input is copied to the first tray above the base, then the steps are done
-- the run is answered: no step finds its level used up, and the answer is the tray that is written last
pub record Ran (m base : ℕ) (trays : List Meaning) (steps : List Step) (input answer : Meaning) (after : List Meaning) : Type 0 where
  pub free : (i : ℕ) → i < length steps → StuckAt m base (slice_set trays base input) steps i → ⊥
  pub leaves : after ≡ after_steps m base (slice_set trays base input) steps
  pub answers : answer ≡ tray after (base + last_from 0 steps)

-- the run stops at step i, the first that finds its level used up
pub record StopsAt (m base : ℕ) (trays : List Meaning) (steps : List Step) (input : Meaning) (i : ℕ) (after : List Meaning) : Type 0 where
  pub within : i < length steps
  pub free : (j : ℕ) → j < i → StuckAt m base (slice_set trays base input) steps j → ⊥
  pub stuck : StuckAt m base (slice_set trays base input) steps i
  pub leaves : after ≡ after_steps m base (slice_set trays base input) (take i steps)

-- the refusals of a run, in their order, and what they leave in the trays: the modulus is off the list; a step is bad; more trays are needed than are free; the level is used up
pub data NoRun (p e : ℕ) (steps : List Step) (out : ℕ) (trays : List Meaning) (input : Meaning) : Refusal → List Meaning → Type 0 where
  off_list : (Listed p e → ⊥) → NoRun p e steps out trays input Unlisted trays
  bad_step : {i : ℕ} → Listed p e → FirstBad (p ^ e) steps i → NoRun p e steps out trays input (BadStep i) trays
  few_trays : Listed p e → Passes (p ^ e) steps → length trays - out < trays_of steps → NoRun p e steps out trays input (NoTrays (trays_of steps)) trays
  used_up : {i : ℕ} {after : List Meaning} → Listed p e → Passes (p ^ e) steps → trays_of steps ≤ length trays - out → StopsAt (p ^ e) out trays steps input i after
      → NoRun p e steps out trays input (LevelUsed i) after

-- a run that is not refused
pub record Runs (p e : ℕ) (steps : List Step) (out : ℕ) (trays : List Meaning) (input answer : Meaning) (after : List Meaning) : Type 0 where
  pub listed : Listed p e
  pub passes : Passes (p ^ e) steps
  pub room : trays_of steps ≤ length trays - out
  pub ran : Ran (p ^ e) out trays steps input answer after

-- a run of steps that were checked: it is answered, or too few trays are free, or its level is used up
abbrev pub Held : {A : Type 0} → ℕ → List Step → ℕ → List Meaning → Meaning → Result A Refusal → (A → Meaning) → List Meaning → Type 0
Held m steps out trays input r meant after =
    MatchResult r (λ x. (trays_of steps ≤ length trays - out) × Ran m out trays steps input (meant x) after)
    (λ f. ((length trays - out < trays_of steps) × (f ≡ NoTrays (trays_of steps)) × (after ≡ trays))
    ⊎ ((trays_of steps ≤ length trays - out) × ((i : ℕ) × (f ≡ LevelUsed i) × StopsAt m out trays steps input i after)))
