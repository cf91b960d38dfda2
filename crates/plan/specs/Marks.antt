-- The step check by marks: which trays can be read, as a list of answers. Rests on the step's type.
use Rattle.std.specs.Prelude.{ℕ, Bool, false, ◌&&◌, List, ◌==◌, nat_lt, slice_index_or}
use Rattle.plan.specs.declared.step.Op.{Op}
use Rattle.plan.specs.declared.step.Op.TheVariants.{Add, Multiply, Scale, Shift}
use Rattle.plan.specs.declared.step.Step.{Step}

abbrev pub marked : ℕ → List Bool → Step → Op → Bool
marked m readable s Add = slice_index_or readable s.b false && s.k == 0
marked m readable s Multiply = slice_index_or readable s.b false && s.k == 0
marked m readable s Scale = s.b == 0 && nat_lt s.k m
marked m readable s Shift = s.b == 0 && nat_lt s.k m

abbrev pub good_by : ℕ → List Bool → Step → Bool
good_by m readable s = nat_lt s.to 64 && (nat_lt s.a 64 && (nat_lt s.b 64 && (slice_index_or readable s.a false && marked m readable s s.op)))
