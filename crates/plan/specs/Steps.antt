-- Step lists: which are good, how many trays they need, and what they cost. Rests on the step's type.
use Rattle.std.specs.Prelude.{◌≡◌, ℕ, ◌+◌, ◌<◌, ◌≤◌, max, ◌⊎◌, List, [], ◌∷◌, length, take, replicate, slice_index, slice_index_or, slice_set}
use Rattle.plan.specs.declared.step.Op.{Op}
use Rattle.plan.specs.declared.step.Op.TheVariants.{Add, Multiply, Scale, Shift}
use Rattle.plan.specs.declared.step.Step.{Step}

-- ---- good steps
-- some step of the list writes tray t
abbrev pub Written : List Step → ℕ → Type 0
Written [] t = ⊥
Written (s ∷ before) t = (s.to ≡ t) ⊎ Written before t

-- a step can read tray 0, which has the input, and every tray that a step before it has written
abbrev pub Readable : List Step → ℕ → Type 0
Readable before t = (t ≡ 0) ⊎ Written before t

-- what each kind of step has in b and k: an addition and a multiplication read b and have no number; a scaling and a shift have a number below m and no b
abbrev pub Formed : ℕ → List Step → Step → Op → Type 0
Formed m before s Add = Readable before s.b × (s.k ≡ 0)
Formed m before s Multiply = Readable before s.b × (s.k ≡ 0)
Formed m before s Scale = (s.b ≡ 0) × (s.k < m)
Formed m before s Shift = (s.b ≡ 0) × (s.k < m)

-- s is a good step behind the others: its trays are 0 to 63, and it reads only what is there
pub record Good (m : ℕ) (before : List Step) (s : Step) : Type 0 where
  pub to_tray : s.to < 64
  pub a_tray : s.a < 64
  pub b_tray : s.b < 64
  pub reads : Readable before s.a
  pub formed : Formed m before s s.op

-- the step in place i; past the end, a step that only fills the type
abbrev pub step_at : List Step → ℕ → Step
step_at steps i = slice_index_or steps i (record { op = Add; to = 0; a = 0; b = 0; k = 0 })

abbrev pub GoodAt : ℕ → List Step → ℕ → Type 0
GoodAt m steps i = Good m (take i steps) (step_at steps i)

-- nothing is bad: at most 160 steps, each good
pub record Passes (m : ℕ) (steps : List Step) : Type 0 where
  pub few : length steps ≤ 160
  pub good : (i : ℕ) → i < length steps → GoodAt m steps i

-- step i is the first bad one: those before it are good, and it is not, or it is step 160, which is always bad
pub record FirstBad (m : ℕ) (steps : List Step) (i : ℕ) : Type 0 where
  pub within : i < length steps
  pub most : i ≤ 160
  pub bad : i < 160 → GoodAt m steps i → ⊥
  pub before : (j : ℕ) → j < i → GoodAt m steps j

-- ---- trays
-- the greatest tray number in the list; 0 without steps
abbrev pub greatest_of : List Step → ℕ
greatest_of [] = 0
greatest_of (s ∷ steps) = max (max s.to (max s.a s.b)) (greatest_of steps)

-- one tray more than the greatest number in the list, and so at least 1
abbrev pub trays_of : List Step → ℕ
trays_of steps = greatest_of steps + 1

-- ---- cost
-- how many steps multiply
abbrev pub multiplies : Op → ℕ
multiplies Add = 0
multiplies Multiply = 1
multiplies Scale = 0
multiplies Shift = 0

abbrev pub multiplications_of : List Step → ℕ
multiplications_of [] = 0
multiplications_of (s ∷ steps) = multiplies s.op + multiplications_of steps

-- the depth that a step gives its tray, by the depths of the trays that it reads and the weights of a multiplication and of a scaling:
-- an addition takes the greater, a multiplication that and its weight, a scaling adds its weight, a shift copies
abbrev pub depth_by : ℕ → ℕ → List ℕ → Step → Op → ℕ
depth_by multiply scale depths s Add = max (slice_index depths s.a) (slice_index depths s.b)
depth_by multiply scale depths s Multiply = max (slice_index depths s.a) (slice_index depths s.b) + multiply
depth_by multiply scale depths s Scale = slice_index depths s.a + scale
depth_by multiply scale depths s Shift = slice_index depths s.a

-- the greatest depth that a step of the list gives a tray, overwritten later or not, and at least the one that was the greatest before
abbrev pub depth_from : ℕ → ℕ → List ℕ → ℕ → List Step → ℕ
depth_from multiply scale depths greatest [] = greatest
depth_from multiply scale depths greatest (s ∷ steps) =
    let d : ℕ = depth_by multiply scale depths s s.op in
    depth_from multiply scale (slice_set depths s.to d) (max greatest d) steps

-- at first every tray has depth 0; a tray's number has 8 bits
abbrev pub depth_of : ℕ → ℕ → List Step → ℕ
depth_of multiply scale steps = depth_from multiply scale (replicate 256 0) 0 steps

-- the depths that the trays have after the steps
abbrev pub depths_after : ℕ → ℕ → List ℕ → List Step → List ℕ
depths_after multiply scale depths [] = depths
depths_after multiply scale depths (s ∷ steps) = depths_after multiply scale (slice_set depths s.to (depth_by multiply scale depths s s.op)) steps
