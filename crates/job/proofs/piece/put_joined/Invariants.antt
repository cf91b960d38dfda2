use Rattle.std.proofs.Common.{◌≡◌, ◌+◌, ◌*◌, ◌≤◌, ◌++◌, length, take, drop}
use Rattle.job.specs.Text.{joined}
use Rattle.job.proofs.piece.put_joined.Given as goal

-- the first number and as many more as the loop has taken are written
abbrev pub invariant-loop-n : goal.invariant-loop-n
invariant-loop-n l =
    (l.at ≤ 5 + 6 * l.n-index)
    × (l.at ≡ length (joined (take (l.n-index + 1) l.list)))
    × (l.text ≡ joined (take (l.n-index + 1) l.list) ++ drop l.at l.fn.text)
