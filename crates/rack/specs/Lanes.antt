-- The lanes that runs answer. Rests on what steps make of trays, on what a step list computes on numbers, and on issued plans.
use Rattle.std.specs.Prelude.{◌≡◌, ℕ, ◌+◌, ◌^◌, ◌<◌, ◌≤◌, List, length, pos, slice_index, slice_set}
use Rattle.modulus.specs.Congruence.{Cong}
use Rattle.poly.specs.Polynomial.{value, form}
use Rattle.poly.specs.Reduced.{Reported}
use Rattle.plan.specs.Steps.{trays_of}
use Rattle.plan.specs.Trays.{answer}
use Rattle.plan.specs.declared.step.Step.{Step}
use Rattle.planner.specs.Plans.{Issued}
use Rattle.planner.specs.declared.kind.Kind.{Kind}
use Rattle.rack.specs.Runs.{Meaning, Ran, tray}

-- every tray has this many lanes
abbrev pub Wide : ℕ → List Meaning → Type 0
Wide width trays = (t : ℕ) → t < length trays → length (tray trays t).lanes ≡ width

-- lane j of each tray, counted from the base on
abbrev pub lane : ℕ → ℕ → List Meaning → ℕ → ℕ
lane base j trays t = slice_index (tray trays (base + t)).lanes j

-- each lane of the answer is what the list answers on the numbers of that lane
abbrev pub LaneByLane : Type 0
LaneByLane =
    (m base width : ℕ) (trays : List Meaning) (steps : List Step) (input out : Meaning) (after : List Meaning) → Wide width trays → length input.lanes ≡ width
    → base + trays_of steps ≤ length trays → Ran m base trays steps input out after → (j : ℕ) → j < width
    → slice_index out.lanes j ≡ answer m (lane base j (slice_set trays base input)) steps

-- what is due for a lane x by a copy of the values that stood when a plan was issued: in a place of the copy the value there;
-- past it the number below the modulus that agrees with the polynomial that was reported for the copy
pub record DueLane (p e : ℕ) (copy : List ℕ) (x y : ℕ) : Type 0 where
  pub in_place : x < length copy → y ≡ slice_index copy x
  pub below : y < p ^ e
  pub beyond : (c : List ℕ) → Reported p e copy c → Cong (p ^ e) (pos y) (value (form c) (pos x))

-- a run of an issued plan under its modulus answers in each lane what is due for the input's lane
abbrev pub DueLanes : Type 0
DueLanes =
    (p e base width : ℕ) (copy : List ℕ) (kind : Kind) (trays : List Meaning) (steps : List Step) (input out : Meaning) (after : List Meaning) → Wide width trays → length input.lanes ≡ width
    → base + trays_of steps ≤ length trays → Issued p e copy kind steps → Ran (p ^ e) base trays steps input out after → (j : ℕ) → j < width
    → DueLane p e copy (slice_index input.lanes j) (slice_index out.lanes j)
