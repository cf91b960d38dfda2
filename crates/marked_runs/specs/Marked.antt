-- The marked examples of plans and runs, as one table of which every line holds. Rests on plans and on runs.
use Rattle.std.specs.Prelude.{◌≡◌, ℕ, ◌+◌, ◌^◌, List, [], ◌∷◌, length, replicate}
use Rattle.plan.specs.Steps.{depth_of, multiplications_of}
use Rattle.plan.specs.declared.step.Step.{Step}
use Rattle.planner.specs.Plans.{Planned}
use Rattle.planner.specs.declared.kind.Kind.{Kind}
use Rattle.planner.specs.declared.kind.Kind.TheVariants.{Ladder, Block}
use Rattle.element.specs.Rules.{left, endless}
use Rattle.rack.specs.Runs.{Meaning, StopsAt, meaning}
use Rattle.marked.specs.Marked.{Each}

-- the plan of a kind for values modulo prime ^ exponent: how many steps it has, how many of them multiply, and its depth
pub record PlanLine : Type 0 where
  pub prime : ℕ
  pub exponent : ℕ
  pub values : List ℕ
  pub kind : Kind
  pub count : ℕ
  pub multiplications : ℕ
  pub depth : ℕ

abbrev pub plans : List PlanLine
plans =
    record { prime = 2; exponent = 3; values = 0 ∷ 1 ∷ 4 ∷ 1 ∷ []; kind = Ladder; count = 6; multiplications = 1; depth = 1 }
    ∷ record { prime = 2; exponent = 3; values = 0 ∷ 1 ∷ 4 ∷ 1 ∷ []; kind = Block 2; count = 9; multiplications = 2; depth = 2 }
    ∷ []

-- some steps are the plan of the line and cost what it says
abbrev pub Costs : PlanLine → Type 0
Costs t =
    (steps : List Step) × Planned t.prime t.exponent t.values t.kind steps
    × (length steps ≡ t.count) × (multiplications_of steps ≡ t.multiplications) × (depth_of 1 0 steps ≡ t.depth)

-- a plan run over one lane at a level, on a rack of three trays with none out: the step at which the level is used up
pub record StopLine : Type 0 where
  pub prime : ℕ
  pub exponent : ℕ
  pub values : List ℕ
  pub kind : Kind
  pub lane : ℕ
  pub level : ℕ
  pub step : ℕ

abbrev pub stops : List StopLine
stops = record { prime = 2; exponent = 3; values = 0 ∷ 1 ∷ 4 ∷ 1 ∷ []; kind = Ladder; lane = 3; level = 0; step = 4 } ∷ []

-- some steps are the plan of the line, and their run stops there
abbrev pub Halts : StopLine → Type 0
Halts t =
    (steps : List Step) × Planned t.prime t.exponent t.values t.kind steps
    × ((after : List Meaning) × StopsAt (t.prime ^ t.exponent) 0 (replicate 3 (meaning [] endless)) steps (meaning (t.lane ∷ []) (left t.level)) t.step after)

-- every line of the table holds
pub record Marked : Type 0 where
  pub planned : Each Costs plans
  pub halts : Each Halts stops

-- how many lines it has
abbrev pub how_many : ℕ
how_many = length plans + length stops
