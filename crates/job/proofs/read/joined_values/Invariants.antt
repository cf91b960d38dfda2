use Rattle.std.proofs.Common.{◌≡◌, ◌+◌, ◌*◌, ◌≤◌, ◌++◌, length}
use Rattle.job.specs.Text.{AllShort}
use Rattle.job.proofs.Joined.{commas}
use Rattle.job.proofs.read.joined_values.Given as goal

-- the values so far, each with its comma, stand before what is left
abbrev pub invariant-loop-value : goal.invariant-loop-value
invariant-loop-value l =
    (2 * length l.values.items + length l.left ≤ length l.text)
    × AllShort l.values.items
    × (l.text ≡ commas l.values.items ++ l.left)

abbrev pub decreases-loop-value : goal.decreases-loop-value
decreases-loop-value l = length l.left
