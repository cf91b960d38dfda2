-- The meanings of trays, where elements are read and written. Assumes nothing.
use Rattle.std.proofs.Common.{◌≡◌, ℕ, zero, suc, ◌+◌, ◌-◌, ◌<◌, ◌≤◌, max, List, [], ◌∷◌, ◌++◌, length, get_or, take, set, sym, refl, ap, ◌∙◌, arith}
use Rattle.std.proofs.lemmas.List.{get_or-map, map-set, take_more}
use Rattle.element.specs.Rules.{Level}
use Rattle.plan.specs.Steps.{greatest_of, step_at}
use Rattle.plan.specs.Trays.{last_from}
use Rattle.plan.specs.declared.step.Step.{Step}
use Rattle.rack.specs.Runs.{Meaning, meaning_of, meanings, tray, given, Stuck, StuckStep, after_step, after_steps}

module _ {A : Type 0} (lanes : A → List ℕ) (level : A → Level) where
  -- the meaning of a tray is that of the element that was read from it
  pub tray_read : (xs : List A) (t : ℕ) (x : A) → t < length xs → x ≡ get_or xs t x → tray (meanings lanes level xs) t ≡ meaning_of lanes level x
  tray_read xs t x lt is = get_or-map (meaning_of lanes level) xs t x _ lt ∙ ap (meaning_of lanes level) (sym is)

  -- one step on the elements is one step on their meanings
  pub step_done : (m base : ℕ) (xs : List A) (s : Step) (a b x : A) → base + s.a < length xs → base + s.b < length xs → a ≡ get_or xs (base + s.a) a → b ≡ get_or xs (base + s.b) b
      → meaning_of lanes level x ≡ given m (meaning_of lanes level a) (meaning_of lanes level b) s.k s.op
      → meanings lanes level (set xs (base + s.to) x) ≡ after_step m base (meanings lanes level xs) s
  step_done m base xs s a b x la lb ra rb is =
      let ms = meanings lanes level xs in
      map-set (meaning_of lanes level) xs (base + s.to) x ∙ ap (λ (n : Meaning). set ms (base + s.to) n) is
      ∙ ap (λ (n : Meaning). set ms (base + s.to) (given m n (meaning_of lanes level b) s.k s.op)) (sym (tray_read xs (base + s.a) a la ra))
      ∙ ap (λ (n : Meaning). set ms (base + s.to) (given m (tray ms (base + s.a)) n s.k s.op)) (sym (tray_read xs (base + s.b) b lb rb))

  pub stuck_is : (base : ℕ) (xs : List A) (s : Step) (a b : A) → base + s.a < length xs → base + s.b < length xs → a ≡ get_or xs (base + s.a) a → b ≡ get_or xs (base + s.b) b
      → Stuck (meaning_of lanes level a) (meaning_of lanes level b) s.op ≡ StuckStep base (meanings lanes level xs) s
  stuck_is base xs s a b la lb ra rb =
      ap (λ (n : Meaning). Stuck n (meaning_of lanes level b) s.op) (sym (tray_read xs (base + s.a) a la ra))
      ∙ ap (λ (n : Meaning). Stuck (tray (meanings lanes level xs) (base + s.a)) n s.op) (sym (tray_read xs (base + s.b) b lb rb))

-- ---- steps one after the other
pub after-++ : (m base : ℕ) (trays : List Meaning) (xs ys : List Step) → after_steps m base trays (xs ++ ys) ≡ after_steps m base (after_steps m base trays xs) ys
after-++ m base trays [] ys = refl
after-++ m base trays (x ∷ xs) ys = after-++ m base (after_step m base trays x) xs ys

pub after_more : (m base : ℕ) (trays : List Meaning) (steps : List Step) (i : ℕ) → i < length steps
    → after_steps m base trays (take (i + 1) steps) ≡ after_step m base (after_steps m base trays (take i steps)) (step_at steps i)
after_more m base trays steps i within =
    ap (λ (xs : List Step). after_steps m base trays xs) (take_more steps i _ within) ∙ after-++ m base trays (take i steps) (step_at steps i ∷ [])

-- no step names a tray past the greatest
pub tray-within : (steps : List Step) (i : ℕ) → i < length steps → ((step_at steps i).to ≤ greatest_of steps) × ((step_at steps i).a ≤ greatest_of steps) × ((step_at steps i).b ≤ greatest_of steps)
tray-within [] i within = absurd (omega arith)
tray-within (s ∷ steps) zero within = (omega arith, omega arith, omega arith)
tray-within (s ∷ steps) (suc i) within =
    let rest = tray-within steps i (omega arith) in
    (omega (arith, rest.0), omega (arith, rest.1), omega (arith, rest.2))

-- ---- the tray that is written last
pub last_at : (t : ℕ) (steps : List Step) → 0 < length steps → last_from t steps ≡ (step_at steps (length steps - 1)).to
last_at t [] some = absurd (omega arith)
last_at t (s ∷ []) some = refl
last_at t (s ∷ r ∷ steps) some =
    let down : length (s ∷ r ∷ steps) - 1 ≡ suc (length (r ∷ steps) - 1) = omega arith in
    last_at s.to (r ∷ steps) (omega arith) ∙ ap (λ (i : ℕ). (step_at (s ∷ r ∷ steps) i).to) (sym down)

pub last_none : (t : ℕ) (steps : List Step) → length steps ≡ 0 → last_from t steps ≡ t
last_none t [] none = refl
last_none t (s ∷ steps) none = absurd (omega arith)

pub last_within : (t : ℕ) (steps : List Step) → last_from t steps ≤ max t (greatest_of steps)
last_within t [] = omega arith
last_within t (s ∷ steps) = omega (arith, last_within s.to steps)
