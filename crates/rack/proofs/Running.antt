-- A run has one outcome: one refusal or one answer, and one rack behind it. Assumes nothing.
use Rattle.std.proofs.Common.{◌≡◌, ℕ, ◌+◌, ◌^◌, ◌<◌, List, take, set, sym, refl, ap, ◌∙◌, arith}
use native.Mathlib.Decide.{dec_lt}
use Rattle.modulus.specs.declared.refusal.Refusal.{Refusal}
use Rattle.modulus.specs.declared.refusal.Refusal.TheVariants.{BadStep, LevelUsed}
use Rattle.plan.specs.Steps.{FirstBad, Passes}
use Rattle.plan.specs.Trays.{last_from}
use Rattle.plan.specs.declared.step.Step.{Step}
use Rattle.rack.specs.Runs.{Meaning, NoRun, Ran, Runs, StopsAt, after_steps, bad_step, few_trays, off_list, tray, used_up}

-- two numbers, neither below the other
level : (i j : ℕ) → (i < j → ⊥) → (j < i → ⊥) → i ≡ j
level i j a b = go (dec_lt i j) (dec_lt j i)
  where
    go : Dec (i < j) → Dec (j < i) → i ≡ j
    go (yes l) d = absurd (a l)
    go (no l) (yes r) = absurd (b r)
    go (no l) (no r) = omega arith

-- ---- the first bad step
earlier_bad : (m : ℕ) (steps : List Step) (i j : ℕ) → FirstBad m steps i → FirstBad m steps j → i < j → ⊥
earlier_bad m steps i j h k l = h.bad (omega (arith, k.most)) (k.before i l)

pub first_bad_same : (m : ℕ) (steps : List Step) (i j : ℕ) → FirstBad m steps i → FirstBad m steps j → i ≡ j
first_bad_same m steps i j h k = level i j (earlier_bad m steps i j h k) (earlier_bad m steps j i k h)

pub passes-not_bad : (m : ℕ) (steps : List Step) (i : ℕ) → Passes m steps → FirstBad m steps i → ⊥
passes-not_bad m steps i h k = k.bad (omega (arith, h.few, k.within)) (h.good i k.within)

-- ---- the first step whose level is used up
module _ (m base : ℕ) (trays : List Meaning) (steps : List Step) (input : Meaning) where
  pub stops_same : (i j : ℕ) (after after' : List Meaning) → StopsAt m base trays steps input i after → StopsAt m base trays steps input j after' → (i ≡ j) × (after ≡ after')
  stops_same i j after after' h k =
      let same : i ≡ j = level i j (λ l. k.free i l h.stuck) (λ l. h.free j l k.stuck) in
      (same, h.leaves ∙ ap (λ (n : ℕ). after_steps m base (set trays base input) (take n steps)) same ∙ sym k.leaves)

  pub ran_not_stopped : (i : ℕ) (answer : Meaning) (after after' : List Meaning) → Ran m base trays steps input answer after → StopsAt m base trays steps input i after' → ⊥
  ran_not_stopped i answer after after' h k = h.free i k.within k.stuck

  pub ran_same : (x y : Meaning) (after after' : List Meaning) → Ran m base trays steps input x after → Ran m base trays steps input y after' → (x ≡ y) × (after ≡ after')
  ran_same x y after after' h k =
      let same : after ≡ after' = h.leaves ∙ sym k.leaves in
      (h.answers ∙ ap (λ (l : List Meaning). tray l (base + last_from 0 steps)) same ∙ sym k.answers, same)

-- ---- whole runs
module _ (p e : ℕ) (steps : List Step) (out : ℕ) (trays : List Meaning) (input : Meaning) where
  pub no_run_same : (f g : Refusal) (after after' : List Meaning) → NoRun p e steps out trays input f after → NoRun p e steps out trays input g after' → (f ≡ g) × (after ≡ after')
  no_run_same f g after after' (off_list a) (off_list b) = (refl, refl)
  no_run_same f g after after' (off_list a) (bad_step b x) = absurd (a b)
  no_run_same f g after after' (off_list a) (few_trays b x y) = absurd (a b)
  no_run_same f g after after' (off_list a) (used_up b x y z) = absurd (a b)
  no_run_same f g after after' (bad_step a x) (off_list b) = absurd (b a)
  no_run_same f g after after' (bad_step {i} a x) (bad_step {i = j} b y) = (ap (λ (n : ℕ). BadStep n) (first_bad_same (p ^ e) steps i j x y), refl)
  no_run_same f g after after' (bad_step {i} a x) (few_trays b y z) = absurd (passes-not_bad (p ^ e) steps i y x)
  no_run_same f g after after' (bad_step {i} a x) (used_up b y z w) = absurd (passes-not_bad (p ^ e) steps i y x)
  no_run_same f g after after' (few_trays a x y) (off_list b) = absurd (b a)
  no_run_same f g after after' (few_trays a x y) (bad_step {i} b z) = absurd (passes-not_bad (p ^ e) steps i x z)
  no_run_same f g after after' (few_trays a x y) (few_trays b z w) = (refl, refl)
  no_run_same f g after after' (few_trays a x y) (used_up b z w v) = absurd (omega arith)
  no_run_same f g after after' (used_up a x y z) (off_list b) = absurd (b a)
  no_run_same f g after after' (used_up a x y z) (bad_step {i} b w) = absurd (passes-not_bad (p ^ e) steps i x w)
  no_run_same f g after after' (used_up a x y z) (few_trays b w v) = absurd (omega arith)
  no_run_same f g after after' (used_up {i} {after = l} a x y z) (used_up {i = j} {after = r} b w v u) =
      let same = stops_same (p ^ e) out trays steps input i j l r z u in
      (ap (λ (n : ℕ). LevelUsed n) same.0, same.1)

  pub runs_same : (x y : Meaning) (after after' : List Meaning) → Runs p e steps out trays input x after → Runs p e steps out trays input y after' → (x ≡ y) × (after ≡ after')
  runs_same x y after after' h k = ran_same (p ^ e) out trays steps input x y after after' h.ran k.ran

  pub run_not_refused : (x : Meaning) (after after' : List Meaning) (f : Refusal) → Runs p e steps out trays input x after → NoRun p e steps out trays input f after' → ⊥
  run_not_refused x after after' f h (off_list a) = a h.listed
  run_not_refused x after after' f h (bad_step {i} a b) = passes-not_bad (p ^ e) steps i h.passes b
  run_not_refused x after after' f h (few_trays a b c) = omega (arith, h.room)
  run_not_refused x after after' f h (used_up {i} {after = l} a b c d) = ran_not_stopped (p ^ e) out trays steps input i x after l h.ran d
