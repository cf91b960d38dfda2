use Rattle.std.proofs.Common.{◌≡◌, ℕ, ◌<◌, take}
use Rattle.rack.specs.Runs.{StuckAt, after_steps, meanings}
use Rattle.rack.proofs.rack.do_steps.Given as goal

abbrev pub invariant-loop-i : goal.invariant-loop-i
invariant-loop-i g l =
    ((j : ℕ) → j < l.i-counter → StuckAt l.modulus.value l.base (meanings g.E.Element.lanes g.E.Element.level l.initial.trays) l.steps j → ⊥)
    × (meanings g.E.Element.lanes g.E.Element.level l.trays ≡ after_steps l.modulus.value l.base (meanings g.E.Element.lanes g.E.Element.level l.initial.trays) (take l.i-counter l.steps))
