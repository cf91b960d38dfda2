use Rattle.std.proofs.Common.{◌≡◌, ◌+◌, ◌*◌, ◌++◌, length}
use Rattle.planner.specs.Layout.{lower}
use Rattle.planner.proofs.block.Size.lower.Given as goal

abbrev pub invariant-loop-b : goal.invariant-loop-b
invariant-loop-b l =
    (l.draft.items ++ lower l.size l.a l.b ≡ l.initial.draft.items ++ lower l.size l.a l.block)
    × (length l.draft.items + 2 * l.size * l.b ≡ length l.initial.draft.items + 2 * l.size * l.block)
