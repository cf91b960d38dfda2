-- What a step list computes on numbers modulo m. Rests on the step's type.
use Rattle.std.specs.Prelude.{ℕ, ◌+◌, ◌*◌, ◌%◌, cond, List, [], ◌∷◌, ◌==◌}
use Rattle.plan.specs.declared.step.Op.{Op}
use Rattle.plan.specs.declared.step.Op.TheVariants.{Add, Multiply, Scale, Shift}
use Rattle.plan.specs.declared.step.Step.{Step}

-- tray t gets the number n, and the others stay
abbrev pub put : (ℕ → ℕ) → ℕ → ℕ → ℕ → ℕ
put trays t n u = cond (u == t) n (trays u)

-- what a step writes, by what the trays have
abbrev pub computed : ℕ → (ℕ → ℕ) → Step → Op → ℕ
computed m trays s Add = (trays s.a + trays s.b) % m
computed m trays s Multiply = (trays s.a * trays s.b) % m
computed m trays s Scale = (trays s.a * s.k) % m
computed m trays s Shift = (trays s.a + s.k) % m

-- what the trays have after the steps, each having met what the earlier ones wrote
abbrev pub after : ℕ → (ℕ → ℕ) → List Step → ℕ → ℕ
after m trays [] = trays
after m trays (s ∷ steps) = after m (put trays s.to (computed m trays s s.op)) steps

-- the tray that is written last; t where there are no steps
abbrev pub last_from : ℕ → List Step → ℕ
last_from t [] = t
last_from t (s ∷ steps) = last_from s.to steps

-- what a run of the steps answers, whatever the trays have at first: what the tray that is written last has at the end;
-- without steps that is tray 0, which has the input
abbrev pub answer : ℕ → (ℕ → ℕ) → List Step → ℕ
answer m trays steps = after m trays steps (last_from 0 steps)
