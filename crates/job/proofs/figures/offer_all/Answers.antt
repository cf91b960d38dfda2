use Rattle.std.proofs.Common.{get_or, drop, Some, None, sym, ◌∙◌, subst}
use Rattle.modulus.proofs.Exits.{err_is}
use Rattle.fit.specs.Rules.{NoOffer}
use Rattle.fit.specs.Standing.{power_of, stands}
use Rattle.fit.specs.declared.table.Fit.{Fit}
use Rattle.fit.proofs.Offers.{not_both}
use Rattle.modulus.specs.declared.listed.Modulus.{Modulus}
use Rattle.modulus.specs.declared.refusal.Refusal.{Refusal}
use Rattle.job.specs.Report.{Judged}
use Rattle.job.proofs.Judging.{judged-next, judged-stop, judged-end}
use Rattle.job.proofs.figures.offer_all.Goals as goal

pub loop-i-preserved : goal.loop-i-preserved
loop-i-preserved c =
    let values = c.args.values.now in
    let i = c.loop-i._i in
    let f = c.loop-i.fit in
    let m = power_of c.args.fit.now.modulus in
    let got = c.in_ok-offer.ensures in
    let taken = c.in_ok-offer.field-0 in
    let fits : (r : Refusal) → NoOffer m (stands f) (get_or values i 0) r → ⊥ =
    λ r h. not_both f.modulus.prime f.modulus.exponent (stands f) (get_or values i 0) taken.place taken.coefficient r got.cases.0
    (subst (λ (n : Modulus). NoOffer (power_of n) (stands f) (get_or values i 0) r) (sym c.loop-i.invariant.0) h) in (
      got.modulus ∙ c.loop-i.invariant.0,
      λ end r h. c.loop-i.invariant.1 end r (judged-next m (stands f) (stands c.offer.new.self) values i 0 c.loop-i-test.true fits got.cases.1 end r h),
    )

pub returns-in_err-offer-clause-judged : goal.returns-in_err-offer-clause-judged
returns-in_err-offer-clause-judged c =
    let values = c.args.values.now in
    let i = c.loop-i._i in
    let f = c.loop-i.fit in
    let m = power_of c.args.fit.now.modulus in
    let got = c.in_err-offer.ensures in
    let r = c.in_err-offer.field-0.0 in
    let no : NoOffer m (stands f) (get_or values i 0) r =
    subst (λ (n : Modulus). NoOffer (power_of n) (stands f) (get_or values i 0) r) c.loop-i.invariant.0 got.cases.0 in
    rw (err_is _ _ c.from_residual.ensures.1) (c.loop-i.invariant.1 (stands c.offer.new.self) (Some r)
    (subst (λ (g : Fit). Judged m (stands f) (drop i values) (stands g) (Some r)) (sym got.cases.1)
    (judged-stop m (stands f) values i 0 r c.loop-i-test.true no)))

pub returns-clause-judged : goal.returns-clause-judged
returns-clause-judged c =
    let f = c.loop-i.fit in
    c.loop-i.invariant.1 (stands f) None (judged-end (power_of c.args.fit.now.modulus) (stands f) c.args.values.now c.loop-i._i c.loop-i-test.false)
