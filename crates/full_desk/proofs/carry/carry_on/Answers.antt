use Rattle.std.proofs.Common.{ℕ, ◌+◌, length, refl, ap, ◌∙◌}
use Rattle.full_desk.proofs.Books.{booked_none}
use Rattle.full_desk.proofs.Meant.{kinds_all, kinds_more}
use Rattle.full_desk.proofs.carry.carry_on.Goals as goal

pub loop-asked-init : goal.loop-asked-init
loop-asked-init g c = (c.args.answers.now.ok.0 ∙ ap length c.requires.none, c.requires.room, refl, refl, rw c.requires.none (booked_none _ c.args.fit.now _ _))

pub loop-asked-preserved : goal.loop-asked-preserved
loop-asked-preserved g c =
    let lanes = g.E.Element.lanes in
    let level = g.E.Element.level in
    let inv = c.loop-asked.invariant in
    let pushed = c.push_reserved.ensures in
    let did = c.perform.ensures in
    let us = c.args.uses.now in
    let i = c.loop-asked.asked-index in (
      pushed.len ∙ ap (λ (n : ℕ). n + 1) inv.0,
      rw pushed.capacity inv.1,
      did.tally ∙ inv.2,
      did.lender ∙ inv.3,
      kinds_more lanes level _ _ c.args.fit.now c.loop-asked.fit c.perform.new.fit c.args.steps.now c.loop-asked.steps c.perform.new.steps _ _ _ us i c.asked-item.result _ _ c.perform.result c.loop-asked-test.true c.asked-item.is inv.4 inv.2 did.due pushed.items,
    )

pub returns-clause-book : goal.returns-clause-book
returns-clause-book g c =
    kinds_all g.E.Element.lanes g.E.Element.level _ c.args.fit.now c.loop-asked.fit c.args.steps.now c.loop-asked.steps _ _ c.args.uses.now c.loop-asked.asked-index _ c.loop-asked-test.false c.loop-asked.invariant.4
