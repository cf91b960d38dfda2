use Rattle.std.proofs.Common.{sym, ◌∙◌, arith}
use Rattle.element.proofs.Lanewise.{each}
use Rattle.element.proofs.lanes.Lanes.each.Goals as goal

pub returns-clause-made : goal.returns-clause-made
returns-clause-made g c =
    let made = c.loop-lane.invariant in
    record {
      long = made.0 ∙ sym c.args.self.wide;
      made = λ i l. made.2 i (omega (arith, l, c.args.self.wide, c.loop-lane-test.false));
    }

pub returns-clause-operations : goal.returns-clause-operations
returns-clause-operations g c = each c.args.self.lanes c.loop-lane.lane-items (returns-clause-made g c)
