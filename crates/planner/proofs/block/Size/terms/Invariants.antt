use Rattle.std.proofs.Common.{◌≡◌, ◌+◌, ◌*◌, ◌++◌, length}
use Rattle.planner.specs.Layout.{terms}
use Rattle.planner.proofs.block.Size.terms.Given as goal

abbrev pub invariant-loop-i : goal.invariant-loop-i
invariant-loop-i l =
    (l.draft.items ≡ l.initial.draft.items ++ terms l.size l.a l.at l.i)
    × (length l.draft.items ≡ length l.initial.draft.items + 2 * l.i)
