use Rattle.std.proofs.Common.{◌≡◌, ℕ, ◌*◌, ◌≤◌, length, get_or, drop}
use Rattle.plan.specs.Steps.{depth_from, depth_of}
use Rattle.plan.proofs.cost.Weights.depth.Given as goal

abbrev pub invariant-loop-s : goal.invariant-loop-s
invariant-loop-s l =
    (length l.depths ≡ 256)
    × ((t : ℕ) → get_or l.depths t 0 ≤ 32 * l.s-index)
    × (depth_from l.self.multiply l.self.scale l.depths l.greatest (drop l.s-index l.steps) ≡ depth_of l.self.multiply l.self.scale l.steps)
