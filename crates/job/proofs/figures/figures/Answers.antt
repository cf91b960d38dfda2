use Rattle.std.proofs.Common.{◌≡◌, List, ℕ, length, take, sym, ap, ◌∙◌, subst, arith}
use Rattle.std.proofs.lemmas.Result.{MatchResult-at_ok}
use Rattle.std.proofs.lemmas.List.{length-take-le}
use Rattle.poly.specs.Reduced.{Reported}
use Rattle.poly.proofs.Standing.{length-standing}
use Rattle.fit.specs.Standing.{WrittenPowers, power_of, stands}
use Rattle.job.proofs.Making.{figures_made, written_first}
use Rattle.job.proofs.figures.figures.Goals as goal

pub returns-clause-standing : goal.returns-clause-standing
returns-clause-standing c = let f = c.args.fit.now in c.count.ensures ∙ sym (length-standing (power_of f.modulus) f.coefficients f.count)

pub returns-clause-figures : goal.returns-clause-figures
returns-clause-figures c =
    let f = c.args.fit.now in
    let m = f.modulus in
    let n = c.unwrap-count.result in
    let k = c.unwrap-count-2.result in
    let report = MatchResult-at_ok _ _ n c.unwrap-count.ensures c.report.ensures in
    let written = MatchResult-at_ok _ _ k c.unwrap-count-2.ensures c.powers.ensures in
    let first : c.truncate.new.self.items ≡ take n c.report.new.out = written_first n c.from-reduced.result.items c.report.new.out _ c.truncate.ensures.items (omega (arith, ap length c.deref_mut.ensures.value)) in
    let second : c.truncate-2.new.self.items ≡ take k c.powers.new.out = written_first k c.from-powers.result.items c.powers.new.out _ c.truncate-2.ensures.items (omega (arith, ap length c.deref_mut-2.ensures.value)) in
    figures_made f c.ladder_multiplications.result c.truncate.new.self.items c.truncate-2.new.self.items
    (ap length first ∙ length-take-le n c.report.new.out (omega (arith, report.1)) ∙ report.0)
    (ap length second ∙ length-take-le k c.powers.new.out (omega (arith, written.1)) ∙ written.0)
    (subst (λ (xs : List ℕ). Reported m.prime m.exponent (stands f) xs) (sym first) report.2)
    (subst (λ (xs : List ℕ). WrittenPowers f xs) (sym second) written.2)
    c.ladder_multiplications.ensures
