use Rattle.std.proofs.Common.{◌≡◌, ℕ, ◌+◌, ◌<◌, List, length, take, set, sym, ap, ◌∙◌, subst, arith}
use Rattle.std.proofs.lemmas.List.{length-set, map-set}
use Rattle.modulus.proofs.Exits.{err_is}
use Rattle.plan.specs.Trays.{last_from}
use Rattle.plan.specs.declared.step.Step.{Step}
use Rattle.rack.specs.Runs.{Meaning, Ran, StopsAt, StuckAt, after_steps, meaning_of, meanings, tray}
use Rattle.rack.proofs.Meant.{tray_read}
use Rattle.rack.proofs.rack.run_on.Goals as goal

-- the first tray above the base has the input
ran : (m base : ℕ) (trays begun after : List Meaning) (steps : List Step) (input answer : Meaning) → begun ≡ set trays base input
    → ((i : ℕ) → i < length steps → StuckAt m base begun steps i → ⊥) → after ≡ after_steps m base begun steps → answer ≡ tray after (base + last_from 0 steps)
    → Ran m base trays steps input answer after
ran m base trays begun after steps input answer is free leaves answers =
    record {
      free = λ i within stuck. free i within (subst (λ (xs : List Meaning). StuckAt m base xs steps i) (sym is) stuck);
      leaves = leaves ∙ ap (λ (xs : List Meaning). after_steps m base xs steps) is;
      answers = answers;
    }

stops : (m base : ℕ) (trays begun after : List Meaning) (steps : List Step) (input : Meaning) (i : ℕ) → begun ≡ set trays base input → i < length steps
    → ((j : ℕ) → j < i → StuckAt m base begun steps j → ⊥) → StuckAt m base begun steps i → after ≡ after_steps m base begun (take i steps)
    → StopsAt m base trays steps input i after
stops m base trays begun after steps input i is within free stuck leaves =
    record {
      within = within;
      free = λ j lt stuck. free j lt (subst (λ (xs : List Meaning). StuckAt m base xs steps j) (sym is) stuck);
      stuck = subst (λ (xs : List Meaning). StuckAt m base xs steps i) is stuck;
      leaves = leaves ∙ ap (λ (xs : List Meaning). after_steps m base xs (take i steps)) is;
    }

pub returns-in_err-do_steps : goal.returns-in_err-do_steps
returns-in_err-do_steps g c =
    let lanes = g.E.Element.lanes in
    let level = g.E.Element.level in
    let got = c.in_err-do_steps.ensures in
    rw (err_is _ _ c.from_residual.ensures.1) (
      got.0,
      got.1,
      stops c.args.modulus.now.value c.args.base (meanings lanes level c.args.trays.now) _ (meanings lanes level c.do_steps.new.trays) c.args.steps.now (meaning_of lanes level c.args.input) got.0
          (map-set (meaning_of lanes level) c.args.trays.now c.args.base c.args.input) got.2 got.3 got.4 got.5,
    )

pub returns : goal.returns
returns g c =
    let lanes = g.E.Element.lanes in
    let level = g.E.Element.level in
    let got = c.in_ok-do_steps.ensures in
    let base = c.args.base in
    let last = c.last_tray.result in
    ran c.args.modulus.now.value base (meanings lanes level c.args.trays.now) _ (meanings lanes level c.do_steps.new.trays) c.args.steps.now (meaning_of lanes level c.args.input) (meaning_of lanes level c.tray_at.result)
    (map-set (meaning_of lanes level) c.args.trays.now base c.args.input) got.0 got.1
    (sym (tray_read lanes level c.do_steps.new.trays (base + last) c.tray_at.result (omega (arith, c.requires, c.last_tray.ensures.within, c.do_steps.auto.trays, length-set c.args.trays.now base c.args.input)) c.tray_at.ensures)
    ∙ ap (λ (t : ℕ). tray (meanings lanes level c.do_steps.new.trays) (base + t)) c.last_tray.ensures.is)
