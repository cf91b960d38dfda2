use Rattle.std.proofs.Common.{◌≡◌, ℕ, List, [], ◌∷◌, ◌++◌, length, sym, ap, ◌∙◌, arith}
use Rattle.std.proofs.lemmas.List.{length-append}
use Rattle.plan.specs.declared.step.Step.{Step}
use Rattle.planner.specs.Layout.{minus, multiplies, rungs, shifts}
use Rattle.planner.proofs.Drafts.{joined}
use Rattle.planner.proofs.Forms.{rungs-more}
use Rattle.planner.proofs.ladder.rungs.Goals as goal

-- one rung more is written, and one coefficient less is to come
again : (m : ℕ) (rest less : List ℕ) (i a : ℕ) (xs ys whole : List Step) → rest ≡ less ++ a ∷ [] → i ≡ length less
    → ys ≡ xs ++ shifts 2 0 (minus m i) ∷ multiplies 1 1 2 ∷ shifts 1 1 a ∷ [] → xs ++ rungs m rest (length rest) ≡ whole
    → ys ++ rungs m less (length less) ≡ whole
again m rest less i a xs ys whole ends at e h =
    joined xs ys (shifts 2 0 (minus m i) ∷ multiplies 1 1 2 ∷ shifts 1 1 a ∷ []) (rungs m less (length less)) e
    ∙ ap (λ (k : ℕ). xs ++ shifts 2 0 (minus m k) ∷ multiplies 1 1 2 ∷ shifts 1 1 a ∷ rungs m less (length less)) at
    ∙ ap (λ (steps : List Step). xs ++ steps) (sym (rungs-more m less a))
    ∙ ap (λ (c : List ℕ). xs ++ rungs m c (length c)) (sym ends) ∙ h

pub loop-i-preserved : goal.loop-i-preserved
loop-i-preserved c =
    let (start, written, long) = c.loop-i.invariant in
    let (count, (ends, at, _)) = c.in-Some.ensures.steps in (
      count ∙ start,
      again c.args.modulus.now.value _ _ _ _ _ _ _ ends (omega (arith, at, start)) c.rung.ensures written,
      omega (arith, long, ap length ends, ap length c.rung.ensures, length-append {A = ℕ}, length-append {A = Step}),
    )
