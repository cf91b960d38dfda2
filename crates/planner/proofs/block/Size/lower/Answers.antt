use Rattle.std.proofs.Common.{◌≡◌, ℕ, suc, ◌+◌, ◌-◌, ◌*◌, ◌≤◌, List, [], ◌∷◌, ◌++◌, length, sym, ap, ◌∙◌, arith}
use Rattle.std.proofs.lemmas.List.{length-append}
use Rattle.plan.specs.declared.step.Step.{Step}
use Rattle.planner.specs.Layout.{filled, lower, multiplies}
use Rattle.planner.proofs.Drafts.{joined, pushed}
use Rattle.planner.proofs.Lengths.{length-lower}
use Rattle.planner.proofs.block.Size.lower.Goals as goal

-- one block more is written, and one less is to come
again : (s w : ℕ) (a : List ℕ) (b j : ℕ) (xs ys zs whole : List Step) → w ≡ s → b ≡ suc j → ys ≡ xs ++ multiplies s s (s - 1) ∷ [] → zs ≡ ys ++ filled s a (j * w)
    → xs ++ lower s a b ≡ whole → zs ++ lower s a j ≡ whole
again s w a b j xs ys zs whole width down first second h =
    joined ys zs (filled s a (j * s)) (lower s a j) (second ∙ ap (λ (k : ℕ). ys ++ filled s a (j * k)) width)
    ∙ pushed xs ys (multiplies s s (s - 1)) (filled s a (j * s) ++ lower s a j) first
    ∙ sym (ap (λ (k : ℕ). xs ++ lower s a k) down) ∙ h

-- how many steps are written and to come
long : (s : ℕ) → 1 ≤ s → (a : List ℕ) (b c : ℕ) (xs ys : List Step) → xs ++ lower s a b ≡ ys ++ lower s a c → length xs + 2 * s * b ≡ length ys + 2 * s * c
long s some a b c xs ys e = omega (arith, ap length e, length-append xs (lower s a b), length-append ys (lower s a c), length-lower s some a b, length-lower s some a c)

pub loop-b-preserved : goal.loop-b-preserved
loop-b-preserved c =
    let s = c.args.self.value in
    let a = c.args.a.now in
    let b = c.loop-b.b in
    let pushed : c.push.new.self.items ≡ c.loop-b.draft.items ++ multiplies s s (s - 1) ∷ [] = cc in
    let written = again s c.from.result a b (b - 1) _ _ _ _ c.from.ensures (omega arith) pushed c.filled.ensures c.loop-b.invariant.0 in
    (written, long s c.args.self.some a (b - 1) c.args.block _ _ written)
