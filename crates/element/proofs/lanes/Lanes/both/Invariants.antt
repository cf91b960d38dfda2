use Rattle.std.proofs.Common.{◌≡◌, ℕ, ◌<◌, ◌≤◌, length, slice_index}
use Rattle.element.proofs.lanes.Lanes.both.Given as goal

abbrev pub invariant-loop-i : goal.invariant-loop-i
invariant-loop-i g l = (length l.lane-items ≡ g.row.N) × ((j : ℕ) → slice_index l.lane-items j < 65536) × ((j : ℕ) → j < l.i → goal.F-post g l.f (slice_index l.fn.self.lanes j) (slice_index l.other.lanes j) (slice_index l.lane-items j)) × ((j : ℕ) → l.i ≤ j → slice_index l.lane-items j ≡ slice_index l.fn.self.lanes j)
