use Rattle.std.proofs.Common.{◌≡◌, ◌≤◌, length, take, vec_items, vec_len, vec_capacity}
use Rattle.desk.specs.Book.{Book}
use Rattle.desk.specs.Desk.{sheet_of}
use Rattle.desk.proofs.carry.carry_on.Given as goal

abbrev pub invariant-loop-asked : goal.invariant-loop-asked
invariant-loop-asked l =
    (vec_len l.answers ≡ l.asked-index)
    × (length l.uses ≤ vec_capacity l.answers)
    × Book (sheet_of l.initial.fit) (take l.asked-index l.uses) (vec_items l.answers) (sheet_of l.fit)
