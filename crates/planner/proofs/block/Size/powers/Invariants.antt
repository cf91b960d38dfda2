use Rattle.std.proofs.Common.{◌≡◌, ◌+◌, ◌++◌, length}
use Rattle.planner.specs.Layout.{powers}
use Rattle.planner.proofs.block.Size.powers.Given as goal

abbrev pub invariant-loop-i : goal.invariant-loop-i
invariant-loop-i l =
    (l.draft.items ≡ l.initial.draft.items ++ powers l.i)
    × (length l.draft.items + 1 ≡ length l.initial.draft.items + l.i)
