use Rattle.std.proofs.Common.{◌≡◌, ◌+◌, ◌*◌, ◌++◌, take, drop}
use Rattle.poly.specs.Shift.{shifted}
use Rattle.poly.proofs.shift.shift_in.Given as goal

abbrev pub invariant-loop-c : goal.invariant-loop-c
invariant-loop-c l =
    (take l.c-index l.list ++ shifted l.modulus.value l.before l.t l.by (drop l.c-index l.list) ≡ shifted l.modulus.value l.first l.initial.t l.by l.initial.list)
    × (l.t ≡ l.initial.t + l.by * l.c-index)
