use Rattle.std.proofs.Common.{sym, ◌∙◌, arith}
use Rattle.element.proofs.Lanewise.{both}
use Rattle.element.proofs.lanes.Lanes.both.Goals as goal

pub returns-clause-made : goal.returns-clause-made
returns-clause-made g c =
    let made = c.loop-i.invariant in
    record {
      alike = c.args.other.wide ∙ sym c.args.self.wide;
      long = made.0 ∙ sym c.args.self.wide;
      made = λ i l. made.2 i (omega (arith, l, c.args.self.wide, c.loop-i-test.false));
    }

pub returns-clause-operations : goal.returns-clause-operations
returns-clause-operations g c = both c.args.self.lanes c.loop-i.lane-items c.args.other.lanes (returns-clause-made g c)
