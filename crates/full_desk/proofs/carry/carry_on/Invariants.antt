use Rattle.std.proofs.Common.{◌≡◌, ◌≤◌, length, take, vec_items, vec_len, vec_capacity}
use Rattle.rack.specs.Runs.{meanings}
use Rattle.full_desk.specs.Desk.{Booked}
use Rattle.full_desk.specs.Kinds.{askings, tellings}
use Rattle.full_desk.proofs.carry.carry_on.Given as goal

abbrev pub invariant-loop-asked : goal.invariant-loop-asked
invariant-loop-asked g l =
    (vec_len l.answers ≡ l.asked-index)
    × (length l.uses ≤ vec_capacity l.answers)
    × (l.tally.out ≡ l.initial.tally.out)
    × (l.rack.trays.ghost_name ≡ l.initial.rack.trays.ghost_name)
    × Booked l.initial.tally.out l.initial.fit l.initial.steps (meanings g.E.Element.lanes g.E.Element.level l.initial.rack.trays.now) (askings g.E.Element.lanes g.E.Element.level (take l.asked-index l.uses)) (tellings g.E.Element.lanes g.E.Element.level (vec_items l.answers)) l.fit l.steps (meanings g.E.Element.lanes g.E.Element.level l.rack.trays.now)
