use Rattle.std.proofs.Common.{◌≡◌, ◌+◌, ◌*◌, ◌++◌, length}
use Rattle.planner.specs.Layout.{rungs}
use Rattle.planner.proofs.ladder.rungs.Given as goal

abbrev pub invariant-loop-i : goal.invariant-loop-i
invariant-loop-i l =
    let rest = l.i-iterator.iter.iter.rest.now in
    (l.i-iterator.iter.count ≡ 0)
    × (l.draft.items ++ rungs l.modulus.value rest (length rest) ≡ l.initial.draft.items ++ rungs l.modulus.value l.coefficients (length l.coefficients))
    × (length l.draft.items + 3 * length rest ≡ length l.initial.draft.items + 3 * length l.coefficients)
