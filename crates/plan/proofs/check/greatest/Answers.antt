use Rattle.std.proofs.Common.{rules, ◌≡◌, ℕ, List, [], ◌∷◌, max, arith}
use Rattle.std.specs.List.{fold}
use Rattle.plan.specs.Steps.{greatest_of}
use Rattle.plan.specs.declared.step.Step.{Step}
use Rattle.plan.proofs.check.greatest.Goals as goal

-- the fold from g on
folded : (g : ℕ) (steps : List Step) → fold (λ (g : ℕ) (s : Step). max g (max s.to (max s.a s.b))) g steps ≡ max g (greatest_of steps)
folded g [] = omega arith
folded g (s ∷ steps) = omega (arith, folded (max g (max s.to (max s.a s.b))) steps)

pub returns : goal.returns
returns c =
    let is : c.fold.result ≡ fold (λ (g : ℕ) (s : Step). max g (max s.to (max s.a s.b))) 0 c.args.steps.now = search rules in
    omega (arith, is, folded 0 c.args.steps.now)
