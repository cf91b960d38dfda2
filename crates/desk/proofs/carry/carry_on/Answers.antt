use Rattle.std.proofs.Common.{ℕ, ◌+◌, length, vec_items, ap, ◌∙◌}
use Rattle.desk.specs.Book.{closed}
use Rattle.desk.specs.Desk.{sheet_of}
use Rattle.desk.specs.declared.uses.Use.TheVariants.{Offer}
use Rattle.desk.proofs.Books.{book-step}
use Rattle.desk.proofs.carry.carry_on.Goals as goal

pub loop-asked-init : goal.loop-asked-init
loop-asked-init c = (c.args.answers.now.ok.0 ∙ ap length c.requires.none, c.requires.room, rw c.requires.none closed)

pub loop-asked-preserved : goal.loop-asked-preserved
loop-asked-preserved c =
    let inv = c.loop-asked.invariant in
    let pushed = c.push_reserved.ensures in
    (pushed.len ∙ ap (λ (n : ℕ). n + 1) inv.0, rw pushed.capacity inv.1, book-step (sheet_of c.args.fit.now) (sheet_of c.loop-asked.fit) (sheet_of c.perform.new.fit) c.args.uses.now c.loop-asked.asked-index (Offer 0) (vec_items c.loop-asked.answers) (vec_items c.push_reserved.new.self) c.perform.result c.loop-asked-test.true inv.2 c.perform.ensures pushed.items)
