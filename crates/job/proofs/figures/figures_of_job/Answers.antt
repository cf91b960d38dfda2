use Rattle.std.proofs.Common.{List, ℕ, Option, sym, subst}
use Rattle.modulus.proofs.Exits.{err_is}
use Rattle.fit.specs.Standing.{power_of, stands}
use Rattle.modulus.specs.declared.refusal.Refusal.{Refusal}
use Rattle.job.specs.Report.{Judged}
use Rattle.job.proofs.Making.{off_the_list, page_judged}
use Rattle.job.proofs.figures.figures_of_job.Goals as goal

pub returns-in_err-open : goal.returns-in_err-open
returns-in_err-open c =
    let job = c.args.job.now in
    let got = c.in_err-open.ensures in
    rw (err_is _ _ c.from_residual.ensures.1) (off_the_list job.prime job.exponent job.values.items _ got.0 got.1)

pub returns : goal.returns
returns c =
    let job = c.args.job.now in
    let opened = c.in_ok-open.ensures in
    let offers = c.offer_all.ensures in
    let made = c.figures.ensures in
    let g = c.open.new.self in
    let h = c.offer_all.new.fit in
    let r = c.err-refusal.result in
    let judged : Judged (power_of g.modulus) (stands g) job.values.items (stands h) r =
    subst (λ (vs : List ℕ). Judged (power_of g.modulus) (stands g) vs (stands h) r) c.deref.ensures.0
    (subst (λ (f : Option Refusal). Judged (power_of g.modulus) (stands g) c.deref.result.now (stands h) f) (sym c.err-refusal.ensures.value) offers.judged) in
    page_judged job.prime job.exponent g h job.values.items r c.figures.result opened.0 opened.1 opened.2 opened.3 offers.modulus judged made.standing made.refusal made.figures
