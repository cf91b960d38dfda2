use Rattle.std.proofs.Common.{◌≡◌, ℕ, ◌+◌, Bool, true, false, cond, sym, refl, ◌∙◌, arith, rules}
use Rattle.std.specs.List.{count_by}
use Rattle.std.proofs.lemmas.List.Recursion.{is_count_by}
use Rattle.plan.specs.Steps.{multiplications_of, multiplies}
use Rattle.plan.specs.declared.step.Op.{Op}
use Rattle.plan.specs.declared.step.Op.TheVariants.{Add, Multiply, Scale, Shift}
use Rattle.plan.specs.declared.step.Step.{Step}
use Rattle.plan.proofs.cost.multiplications.Goals as goal

abbrev is_multiply : Op → Bool
is_multiply Add = false
is_multiply Multiply = true
is_multiply Scale = false
is_multiply Shift = false

counts : (op : Op) (n : ℕ) → multiplies op + n ≡ cond (is_multiply op) (1 + n) n
counts Add n = omega arith
counts Multiply n = refl
counts Scale n = omega arith
counts Shift n = omega arith

pub returns : goal.returns
returns c =
    let steps = c.args.steps.now in
    let counted : c.count.result ≡ count_by (λ (s : Step). is_multiply s.op) steps = search rules in
    counted ∙ sym (is_count_by multiplications_of (λ (s : Step). is_multiply s.op) refl (λ s xs. counts s.op (multiplications_of xs)) steps)
