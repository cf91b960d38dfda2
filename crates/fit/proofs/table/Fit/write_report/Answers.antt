use Rattle.std.proofs.Common.{◌≡◌, ℕ, List, length, sym, ◌∙◌, subst}
use Rattle.std.proofs.lemmas.List.{take_at, length-take-le}
use Rattle.poly.specs.Reduced.{Reported}
use Rattle.fit.specs.Standing.{stands}
use Rattle.fit.proofs.Offers.{front_reports}
use Rattle.fit.proofs.table.Fit.write_report.Goals as goal

pub returns-clause-written : goal.returns-clause-written
returns-clause-written c =
    let f = c.args.self.now in
    let n = c.args.needed in
    let front = c.copy_from_slice.new.self in
    let len : length front ≡ n = c.copy_from_slice.ensures.len ∙ length-take-le n c.args.out.now c.requires.room in
    subst (λ (xs : List ℕ). Reported f.modulus.prime f.modulus.exponent (stands f) xs) (sym (take_at front _ n len ∙ c.copy_from_slice.ensures.after)) (front_reports f n c.requires.all)
