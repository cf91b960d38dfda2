use Rattle.std.proofs.Common.{◌≡◌, ℕ, ◌+◌, ◌<◌, true, List, length, take, Ok, Err, Result, MatchResult, is_ok, sym, ap, ◌∙◌, subst, arith, below_more}
use Rattle.plan.specs.Steps.{step_at}
use Rattle.plan.specs.declared.step.Step.{Step}
use Rattle.rack.specs.Runs.{Meaning, StuckAt, StuckStep, after_step, after_steps}
use Rattle.rack.proofs.Meant.{after_more, tray-within}
use Rattle.rack.proofs.rack.do_steps.Goals as goal

pub do_step-requires : goal.do_step-requires
do_step-requires g c =
    let steps = c.args.steps.now in
    let i = c.loop-i.i-counter in
    let named = tray-within steps i c.loop-i-test.true in
    record { to = omega (arith, named.0, c.requires, c.loop-i.auto.trays); a = omega (arith, named.1, c.requires, c.loop-i.auto.trays); b = omega (arith, named.2, c.requires, c.loop-i.auto.trays) }

-- one step more is done, and found its level
again : (m base i : ℕ) (before here after : List Meaning) (steps : List Step) → i < length steps → here ≡ after_steps m base before (take i steps)
    → ((j : ℕ) → j < i → StuckAt m base before steps j → ⊥) → (StuckStep base here (step_at steps i) → ⊥) → after ≡ after_step m base here (step_at steps i)
    → ((j : ℕ) → j < i + 1 → StuckAt m base before steps j → ⊥) × (after ≡ after_steps m base before (take (i + 1) steps))
again m base i before here after steps within is free not_stuck done = (
  below_more (λ (j : ℕ). StuckAt m base before steps j → ⊥) i free (λ stuck. not_stuck (subst (λ (trays : List Meaning). StuckStep base trays (step_at steps i)) (sym is) stuck)),
  done ∙ ap (λ (trays : List Meaning). after_step m base trays (step_at steps i)) is ∙ sym (after_more m base before steps i within),
)

-- a step that was not refused was done
done : {E : Type 0} (r : Result (Unit {0}) E) (P : Type 0) (Q : E → Type 0) → true ≡ is_ok r → MatchResult r (λ _. P) Q → P
done (Ok x) P Q is h = h
done (Err f) P Q is h = grind arith

pub loop-i-preserved : goal.loop-i-preserved
loop-i-preserved g c =
    let got = done c.do_step.result _ _ c.in_ok-map_err.ensures.variant c.do_step.ensures in
    again c.args.modulus.now.value c.args.base c.loop-i.i-counter _ _ _ c.args.steps.now c.loop-i-test.true c.loop-i.invariant.1 c.loop-i.invariant.0 got.0 got.1
