use Rattle.modulus.proofs.Exits.{err_is}
use Rattle.desk.specs.Book.{refuses_offer, refuses_withdrawal}
use Rattle.desk.proofs.Books.{offer-due, withdrawal_due, refused-due}
use Rattle.desk.proofs.carry.perform.Goals as goal

pub returns-in_err-offer-in-Offer : goal.returns-in_err-offer-in-Offer
returns-in_err-offer-in-Offer c =
    let no = c.in_err-offer-in-Offer.ensures.cases in
    rw (c.in-Offer.is, err_is _ _ c.from_residual.ensures.1) (refused-due c.args.fit.now c.offer.new.self _ _ no.1 (refuses_offer no.0))

pub returns-in_err-withdraw-in-Withdraw : goal.returns-in_err-withdraw-in-Withdraw
returns-in_err-withdraw-in-Withdraw c =
    let no = c.in_err-withdraw-in-Withdraw.ensures.cases in
    rw (c.in-Withdraw.is, err_is _ _ c.from_residual-in_err-withdraw-in-Withdraw.ensures.1) (refused-due c.args.fit.now c.withdraw.new.self _ _ no.1 (refuses_withdrawal no.0))

pub returns-in_ok-offer-in-Offer : goal.returns-in_ok-offer-in-Offer
returns-in_ok-offer-in-Offer c =
    let got = c.in_ok-offer-in-Offer.ensures in
    rw c.in-Offer.is (offer-due c.args.fit.now c.offer.new.self _ _ got.modulus got.cases.0 got.cases.1)

pub returns-in_ok-withdraw-in-Withdraw : goal.returns-in_ok-withdraw-in-Withdraw
returns-in_ok-withdraw-in-Withdraw c =
    let got = c.in_ok-withdraw-in-Withdraw.ensures in
    rw c.in-Withdraw.is (withdrawal_due c.args.fit.now c.withdraw.new.self _ got.modulus got.cases)
