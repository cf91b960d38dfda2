use Rattle.std.proofs.Common.{◌≡◌, ◌-◌, arith}
use Rattle.full_desk.specs.Book.{room}
use Rattle.full_desk.proofs.Parts.{part-written}
use Rattle.full_desk.proofs.carry.plan_part.Goals as goal

pub returns : goal.returns
returns c =
    let part = c.part_of-part.result in
    let is = c.part_of-part.ensures in
    let size : part.end - part.start ≡ room c.args.steps.now c.args.start c.args.count = omega (arith, is.start, is.end) in
    part-written _ _ _ _ _ c.plan.new.out _ _ part.start (part.end - part.start) _ is.start size c.plan.ensures
