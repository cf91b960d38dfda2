use Rattle.std.proofs.Common.{sym, subst}
use Rattle.modulus.specs.declared.refusal.Refusal.{Refusal}
use Rattle.modulus.proofs.Exits.{err_is}
use Rattle.job.specs.Report.{Reports, no_job, refusal_lines}
use Rattle.job.proofs.call.page_of.Goals as goal

pub returns-in_err-job : goal.returns-in_err-job
returns-in_err-job c =
    let bad = c.in_err-job.ensures in
    rw (err_is _ _ c.from_residual.ensures.1) (subst (λ (f : Refusal). Reports c.args.bytes.now (refusal_lines f)) (sym bad.2) (no_job bad.1))
