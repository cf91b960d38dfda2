-- The level rule of runs: the depth of a list decides whether a level suffices. Rests on what steps make of trays and on depths.
use Rattle.std.specs.Prelude.{◌≡◌, ℕ, ◌+◌, ◌-◌, ◌<◌, ◌≤◌, List, length, replicate, slice_index}
use Rattle.element.specs.Rules.{Level, left, endless}
use Rattle.plan.specs.Steps.{Passes, depth_of, depths_after, trays_of}
use Rattle.plan.specs.Trays.{last_from}
use Rattle.plan.specs.declared.step.Step.{Step}
use Rattle.rack.specs.Runs.{Meaning, Ran, StopsAt}

-- the depth is more than the level
abbrev pub Exceeds : ℕ → Level → Type 0
Exceeds depth (left n) = n < depth
Exceeds depth endless = ⊥

-- the level less the depth
abbrev pub less : Level → ℕ → Level
less (left n) depth = left (n - depth)
less endless depth = endless

-- the depth of the tray that is written last
abbrev pub answer_depth : List Step → ℕ
answer_depth steps = slice_index (depths_after 1 0 (replicate 256 0) steps) (last_from 0 steps)

-- a list that passes the step check and finds its trays is stopped for level exactly when its depth exceeds the input's level
abbrev pub LevelRule : Type 0
LevelRule =
    (m base : ℕ) (trays : List Meaning) (steps : List Step) (input : Meaning) → Passes m steps → base + trays_of steps ≤ length trays
    → (((i : ℕ) × (after : List Meaning) × StopsAt m base trays steps input i after) → Exceeds (depth_of 1 0 steps) input.level)
    × (Exceeds (depth_of 1 0 steps) input.level → (i : ℕ) × (after : List Meaning) × StopsAt m base trays steps input i after)

-- the answer's level is the input's less the depth of the tray that was written last
abbrev pub AnswerLevel : Type 0
AnswerLevel =
    (m base : ℕ) (trays : List Meaning) (steps : List Step) (input answer : Meaning) (after : List Meaning) → Passes m steps → base + trays_of steps ≤ length trays
    → Ran m base trays steps input answer after → answer.level ≡ less input.level (answer_depth steps)
