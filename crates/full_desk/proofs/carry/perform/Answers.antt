use Rattle.std.proofs.Common.{refl}
use Rattle.modulus.proofs.Exits.{err_is}
use Rattle.full_desk.specs.Book.{refuses_offer, refuses_plan, refuses_withdrawal}
use Rattle.full_desk.proofs.Books.{offer-due, plan_due, refused-due, run_due, run_refused, withdrawal_due}
use Rattle.full_desk.proofs.Meant.{wide_rack}
use Rattle.full_desk.proofs.carry.perform.Goals as goal

pub returns-in_err-offer-in-Offer-clause-due : goal.returns-in_err-offer-in-Offer-clause-due
returns-in_err-offer-in-Offer-clause-due g c =
    let no = c.in_err-offer-in-Offer.ensures.cases in
    rw (c.in-Offer.is, err_is _ _ c.from_residual.ensures.1) (refused-due _ _ c.args.fit.now c.offer.new.self _ _ _ _ no.1 refl (λ plans. refuses_offer no.0))

pub returns-in_err-withdraw-in-Withdraw-clause-due : goal.returns-in_err-withdraw-in-Withdraw-clause-due
returns-in_err-withdraw-in-Withdraw-clause-due g c =
    let no = c.in_err-withdraw-in-Withdraw.ensures.cases in
    rw (c.in-Withdraw.is, err_is _ _ c.from_residual-in_err-withdraw-in-Withdraw.ensures.1) (refused-due _ _ c.args.fit.now c.withdraw.new.self _ _ _ _ no.1 refl (λ plans. refuses_withdrawal no.0))

pub returns-in_err-plan_part-in-Plan-clause-due : goal.returns-in_err-plan_part-in-Plan-clause-due
returns-in_err-plan_part-in-Plan-clause-due g c =
    let no = c.in_err-plan_part-in-Plan.ensures in
    rw (c.in-Plan.is, err_is _ _ c.from_residual-in_err-plan_part-in-Plan.ensures.1) (refused-due _ _ c.args.fit.now c.args.fit.now _ _ _ _ refl no.1 (λ plans. refuses_plan no.0))

pub returns-in_err-run_part-in-Run-clause-due : goal.returns-in_err-run_part-in-Run-clause-due
returns-in_err-run_part-in-Run-clause-due g c =
    rw (c.in-Run.is, err_is _ _ c.from_residual-in_err-run_part-in-Run.ensures.1) (run_refused _ _ c.args.fit.now _ _ _ _ _ _ _ _ c.in_err-run_part-in-Run.ensures.cases)

pub returns-in_ok-offer-in-Offer-clause-due : goal.returns-in_ok-offer-in-Offer-clause-due
returns-in_ok-offer-in-Offer-clause-due g c =
    let got = c.in_ok-offer-in-Offer.ensures in
    rw c.in-Offer.is (offer-due _ _ c.args.fit.now c.offer.new.self _ _ _ got.modulus got.cases.0 got.cases.1)

pub returns-in_ok-withdraw-in-Withdraw-clause-due : goal.returns-in_ok-withdraw-in-Withdraw-clause-due
returns-in_ok-withdraw-in-Withdraw-clause-due g c =
    let got = c.in_ok-withdraw-in-Withdraw.ensures in
    rw c.in-Withdraw.is (withdrawal_due _ _ c.args.fit.now c.withdraw.new.self _ _ got.modulus got.cases)

pub returns-in_ok-plan_part-in-Plan-clause-due : goal.returns-in_ok-plan_part-in-Plan-clause-due
returns-in_ok-plan_part-in-Plan-clause-due g c =
    let got = c.in_ok-plan_part-in-Plan.ensures in
    rw c.in-Plan.is (plan_due _ _ c.args.fit.now _ _ _ _ _ _ got.0 got.1 got.2 got.3 got.4)

pub returns-in_ok-run_part-in-Run-clause-due : goal.returns-in_ok-run_part-in-Run-clause-due
returns-in_ok-run_part-in-Run-clause-due g c =
    let lanes = g.E.Element.lanes in
    let level = g.E.Element.level in
    let wide = g.met.E.Element.wide in
    rw c.in-Run.is (run_due _ _ c.args.fit.now _ _ _ _ _ _ g.E.Element.width _ _ (wide_rack lanes level g.E.Element.width wide c.args.rack.now.trays.now) (wide c.in-Run.input) c.in_ok-run_part-in-Run.ensures.cases)
