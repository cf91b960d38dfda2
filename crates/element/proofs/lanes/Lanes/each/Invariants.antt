use Rattle.std.proofs.Common.{◌≡◌, ℕ, ◌<◌, ◌≤◌, length, slice_index}
use Rattle.element.proofs.lanes.Lanes.each.Given as goal

abbrev pub invariant-loop-lane : goal.invariant-loop-lane
invariant-loop-lane g l = (length l.lane-items ≡ g.row.N) × ((j : ℕ) → slice_index l.lane-items j < 65536) × ((j : ℕ) → j < l.lane-index → goal.F-post g l.f (slice_index l.fn.self.lanes j) (slice_index l.lane-items j)) × ((j : ℕ) → l.lane-index ≤ j → slice_index l.lane-items j ≡ slice_index l.fn.self.lanes j)
