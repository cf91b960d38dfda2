use Rattle.std.proofs.Common.{refl}
use Rattle.modulus.proofs.Exits.{err_is}
use Rattle.rack.specs.Runs.{meaning_of}
use Rattle.rack.proofs.Laning.{due_lanes, lane-by_lane}
use Rattle.rack.proofs.Leveling.{answer-level, level-rule}
use Rattle.rack.proofs.Refusing.{held, value-is}
use Rattle.rack.proofs.run.run_all.Goals as goal

pub returns-in_err-modulus : goal.returns-in_err-modulus
returns-in_err-modulus g c =
    rw (err_is _ _ c.from_residual.ensures.1) (record { tally = refl; lender = refl; cases = c.in_err-modulus.ensures _ _ _; stays = λ _. refl; level_rule = level-rule; answer_level = answer-level; lane_by_lane = lane-by_lane; due_lanes = due_lanes })

pub returns : goal.returns
returns g c =
    let made = c.in_ok-modulus.ensures in
    record {
      tally = c.run_held.ensures.tally;
      lender = c.run_held.ensures.lender;
      cases = held c.args.p c.args.e c.in_ok-modulus.modulus.value c.args.steps.now c.args.tally.now.out _ _ _ (meaning_of g.E.Element.lanes g.E.Element.level) c.run_held.result made.0 (value-is c.in_ok-modulus.modulus c.args.p c.args.e made.1 made.2) made.3 c.run_held.ensures.cases;
      stays = c.run_held.ensures.stays;
      level_rule = level-rule;
      answer_level = answer-level;
      lane_by_lane = lane-by_lane;
      due_lanes = due_lanes;
    }
