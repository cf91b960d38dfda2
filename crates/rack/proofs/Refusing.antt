-- The refusals of a run, put together from those of its parts. Assumes nothing.
use Rattle.std.proofs.Common.{◌≡◌, ℕ, ◌-◌, ◌^◌, ◌<◌, ◌≤◌, List, length, IfErr, Ok, Err, Result, sym, refl, ap, ◌∙◌, subst, inl, inr, arith, MatchResult}
use Rattle.modulus.specs.Moduli.{Listed}
use Rattle.modulus.specs.declared.listed.Modulus.{Modulus}
use Rattle.modulus.specs.declared.refusal.Refusal.{Refusal}
use Rattle.modulus.specs.declared.refusal.Refusal.TheVariants.{BadStep, LevelUsed, NoTrays, Unlisted}
use Rattle.plan.specs.Steps.{FirstBad, Passes, trays_of}
use Rattle.plan.specs.declared.step.Step.{Step}
use Rattle.rack.specs.Runs.{Held, Meaning, NoRun, Ran, Runs, StopsAt, bad_step, few_trays, off_list, used_up}

-- the value of the modulus that was made from p and e
pub value-is : (m : Modulus) (p e : ℕ) → m.prime ≡ p → m.exponent ≡ e → m.value ≡ p ^ e
value-is m p e prime exponent = m.power ∙ ap (λ (q : ℕ). q ^ m.exponent) prime ∙ ap (λ (k : ℕ). p ^ k) exponent

pub unlisted : (p e : ℕ) (steps : List Step) (f : Refusal) → (Listed p e → ⊥) → f ≡ Unlisted → (out : ℕ) (trays : List Meaning) (input : Meaning) → NoRun p e steps out trays input f trays
unlisted p e steps f never is out trays input = subst (λ (h : Refusal). NoRun p e steps out trays input h trays) (sym is) (off_list never)

pub first_bad : (p e v : ℕ) (steps : List Step) (f : Refusal) (i : ℕ) → Listed p e → v ≡ p ^ e → FirstBad v steps i → f ≡ BadStep i → (out : ℕ) (trays : List Meaning) (input : Meaning)
    → NoRun p e steps out trays input f trays
first_bad p e v steps f i listed value bad is out trays input =
    subst (λ (h : Refusal). NoRun p e steps out trays input h trays) (sym is) (bad_step listed (subst (λ (m : ℕ). FirstBad m steps i) value bad))

-- a checked run is a run, answered or refused
pub held : {A : Type 0} (p e v : ℕ) (steps : List Step) (out : ℕ) (trays after : List Meaning) (input : Meaning) (meant : A → Meaning) (r : Result A Refusal) → Listed p e → v ≡ p ^ e → Passes (p ^ e) steps
    → Held v steps out trays input r meant after
    → MatchResult r (λ x. Runs p e steps out trays input (meant x) after) (λ f. NoRun p e steps out trays input f after)
held p e v steps out trays after input meant (Ok x) listed value passes (room, ran) =
    record { listed = listed; passes = passes; room = room; ran = subst (λ (m : ℕ). Ran m out trays steps input (meant x) after) value ran }
held p e v steps out trays after input meant (Err f) listed value passes (inl (short, is, same)) =
    subst (λ (xs : List Meaning). NoRun p e steps out trays input f xs) (sym same)
    (subst (λ (h : Refusal). NoRun p e steps out trays input h trays) (sym is) (few_trays listed passes short))
held p e v steps out trays after input meant (Err f) listed value passes (inr (room, (i, is, stops))) =
    subst (λ (h : Refusal). NoRun p e steps out trays input h after) (sym is)
    (used_up listed passes room (subst (λ (m : ℕ). StopsAt m out trays steps input i after) value stops))

-- the trays are taken, and the run is made there
pub run-there : {A : Type 0} (m base out k n : ℕ) (steps : List Step) (trays after : List Meaning) (input : Meaning) (meant : A → Meaning) (r : Result A Refusal) → base ≡ out → k ≡ trays_of steps → n ≡ length trays → k ≤ n - out
    → MatchResult r (λ x. Ran m base trays steps input (meant x) after) (λ f. (i : ℕ) × (f ≡ LevelUsed i) × StopsAt m base trays steps input i after)
    → Held m steps out trays input r meant after
run-there m base out k n steps trays after input meant (Ok x) is needed long room ran =
    (omega arith, subst (λ (b : ℕ). Ran m b trays steps input (meant x) after) is ran)
run-there m base out k n steps trays after input meant (Err f) is needed long room (i, same, stops) =
    inr (omega arith, (i, same, subst (λ (b : ℕ). StopsAt m b trays steps input i after) is stops))

-- there are too few of them
pub no_trays : (out k n : ℕ) (steps : List Step) (trays : List Meaning) (f : Refusal) → k ≡ trays_of steps → n ≡ length trays → n - out < k → f ≡ NoTrays k
    → (length trays - out < trays_of steps) × (f ≡ NoTrays (trays_of steps)) × (trays ≡ trays)
no_trays out k n steps trays f needed long short is = (omega arith, is ∙ ap (λ (i : ℕ). NoTrays i) needed, refl)

-- a run that has begun is refused for its level alone
pub only-level : {A : Type 0} (r : Result A Refusal) (P : A → Type 0) (S : ℕ → Type 0) (T : Type 0) → MatchResult r P (λ f. (i : ℕ) × (f ≡ LevelUsed i) × S i)
    → IfErr r (λ f. ((i : ℕ) → f ≡ LevelUsed i → ⊥) → T)
only-level (Ok x) P S T h = tt
only-level (Err f) P S T (i, is, rest) = λ never. absurd (never i is)
