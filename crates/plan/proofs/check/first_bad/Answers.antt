use Rattle.std.proofs.Common.{◌≡◌, ℕ, ◌+◌, ◌<◌, ◌≤◌, Bool, true, List, length, take, set, sym, refl, ◌∙◌, subst, arith, below_more}
use Rattle.std.proofs.lemmas.List.{length-set, take_more}
use Rattle.plan.specs.Marks.{good_by}
use Rattle.plan.specs.Steps.{GoodAt, step_at}
use Rattle.plan.specs.declared.step.Step.{Step}
use Rattle.plan.proofs.Checks.{Marks, marks_none, marks_more, good_from}
use Rattle.plan.proofs.check.first_bad.Goals as goal

pub loop-i-init : goal.loop-i-init
loop-i-init c = (refl, omega arith, (λ j h. absurd (omega arith)), marks_none 63)

-- one good step more, which writes tray t
again : (m i t : ℕ) (steps : List Step) (readable : List Bool) → i < length steps → i < 160 → t ≡ (step_at steps i).to → length readable ≡ 64
    → ((j : ℕ) → j < i → GoodAt m steps j) → Marks (take i steps) readable → good_by m readable (step_at steps i) ≡ true
    → (length (set readable t true) ≡ 64) × (i + 1 ≤ 160) × ((j : ℕ) → j < i + 1 → GoodAt m steps j) × Marks (take (i + 1) steps) (set readable t true)
again m i t steps readable within few is len before marks test =
    let s = step_at steps i in
    let good = good_from m (take i steps) readable marks s test in
    let more : Marks (take (i + 1) steps) (set readable s.to true) = subst (λ (xs : List Step). Marks xs (set readable s.to true)) (sym (take_more steps i _ within)) (marks_more (take i steps) readable s (omega (arith, good.to_tray)) marks) in
    (length-set readable t true ∙ len, omega arith, below_more (λ (j : ℕ). GoodAt m steps j) i before good, subst (λ (t : ℕ). Marks (take (i + 1) steps) (set readable t true)) (sym is) more)

pub loop-i-preserved : goal.loop-i-preserved
loop-i-preserved c =
    let steps = c.args.steps.now in
    let i = c.loop-i.i in
    let inv = c.loop-i.invariant in
    again c.args.modulus.now.value i c.from.result steps c.loop-i.readable (omega arith) (omega arith) c.from.ensures inv.0 inv.2 inv.3 (sym c.is_good.ensures ∙ c.if-not-is_good.false)
