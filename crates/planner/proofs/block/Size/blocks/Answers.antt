use Rattle.std.proofs.Common.{◌-◌, ◌*◌, length, ap, arith}
use Rattle.std.proofs.lemmas.List.{length-append}
use Rattle.planner.specs.Layout.{filled}
use Rattle.planner.proofs.Drafts.{steps-less}
use Rattle.planner.proofs.Lengths.{length-filled}
use Rattle.planner.proofs.block.Size.blocks.Goals as goal

pub lower-requires-clause-room : goal.lower-requires-clause-room
lower-requires-clause-room c =
    let s = c.args.self.value in
    let q = c.args.count in
    let a = c.args.a.now in
    let at = (q - 1) * c.from.result in
    omega (arith, steps-less q s c.requires.any, ap length c.filled.ensures, length-append c.push.new.self.items (filled s a at), length-filled s c.args.self.some a at, c.push.ensures.len, c.requires.room, c.args.self.some)
