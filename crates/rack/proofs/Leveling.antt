-- The level rule: what the depths of trays say of their levels. Assumes nothing.
use Rattle.std.proofs.Common.{◌≡◌, ℕ, zero, suc, ◌+◌, ◌-◌, ◌<◌, ◌≤◌, max, ◌⊎◌, List, [], ◌∷◌, ◌++◌, length, get_or, take, set, replicate, sym, refl, ap, ◌∙◌, subst, inl, inr, add-one, arith, below_more}
use mathlib.Core.Path.{subst₃}
use native.Mathlib.Decide.{ℕ_discrete}
use Rattle.std.proofs.lemmas.List.{length-replicate, length-set, get_or-set_same, get_or-set_other, take_all, take_more}
use Rattle.element.specs.Rules.{Level, left, endless, UsedUp, least, spent}
use Rattle.plan.proofs.Costs.{zeros_small}
use Rattle.plan.specs.Steps.{Formed, Good, Passes, Readable, Written, depth_by, depth_from, depths_after, step_at, trays_of}
use Rattle.plan.specs.Trays.{last_from}
use Rattle.plan.specs.declared.step.Op.{Op}
use Rattle.plan.specs.declared.step.Op.TheVariants.{Add, Multiply, Scale, Shift}
use Rattle.plan.specs.declared.step.Step.{Step}
use Rattle.rack.specs.Levels.{Exceeds, less, AnswerLevel, LevelRule}
use Rattle.rack.specs.Runs.{Meaning, given, tray, after_step, after_steps, Ran, StopsAt, Stuck, StuckAt}
use Rattle.rack.proofs.Meant.{after_more, tray-within}

-- ---- levels less depths
less_none : (l : Level) → less l 0 ≡ l
less_none (left n) = ap left (omega arith)
less_none endless = refl

least-less : (l : Level) (d e : ℕ) → least (less l d) (less l e) ≡ less l (max d e)
least-less (left n) d e = ap left (omega arith)
least-less endless d e = refl

spent-left : (n : ℕ) → spent (left n) ≡ left (n - 1)
spent-left zero = refl
spent-left (suc n) = ap left (omega arith)

spent-less : (l : Level) (d : ℕ) → spent (less l d) ≡ less l (d + 1)
spent-less (left n) d = spent-left (n - d) ∙ ap left (omega arith)
spent-less endless d = refl

used_none : (n : ℕ) → UsedUp (left n) → n ≡ 0
used_none zero u = refl
used_none (suc n) u = absurd u

none-used : (n : ℕ) → n ≡ 0 → UsedUp (left n)
none-used zero e = tt
none-used (suc n) e = absurd (omega arith)

-- what is left is used up exactly where one multiplication more exceeds the level
used_exceeds : (l : Level) (d : ℕ) → UsedUp (less l d) → Exceeds (d + 1) l
used_exceeds (left n) d u = omega (arith, used_none (n - d) u)
used_exceeds endless d u = absurd u

exceeds_used : (l : Level) (d : ℕ) → Exceeds (d + 1) l → UsedUp (less l d)
exceeds_used (left n) d h = none-used (n - d) (omega arith)
exceeds_used endless d h = absurd h

exceeds_more : (l : Level) (d e : ℕ) → d ≤ e → Exceeds d l → Exceeds e l
exceeds_more (left n) d e h x = omega arith
exceeds_more endless d e h x = absurd x

exceeds_none : (l : Level) → Exceeds 0 l → ⊥
exceeds_none (left n) x = omega arith
exceeds_none endless x = x

exceeds_max : (l : Level) (d e : ℕ) → (Exceeds d l → ⊥) → (Exceeds e l → ⊥) → Exceeds (max d e) l → ⊥
exceeds_max (left n) d e fit-d fit-e x = omega arith
exceeds_max endless d e fit-d fit-e x = x

used_dec : (l : Level) → Dec (UsedUp l)
used_dec (left zero) = yes tt
used_dec (left (suc n)) = no (λ u. u)
used_dec endless = no (λ u. u)

stuck-dec : (a b : Meaning) (op : Op) → Dec (Stuck a b op)
stuck-dec a b Add = no (λ u. u)
stuck-dec a b Multiply = used_dec (least a.level b.level)
stuck-dec a b Scale = no (λ u. u)
stuck-dec a b Shift = no (λ u. u)

-- ---- one step, by the depths of the trays that it reads
module _ (m : ℕ) (l : Level) (before : List Step) (depths : List ℕ) (s : Step) (a b : Meaning) (at_a : a.level ≡ less l (get_or depths s.a 0)) (at_b : Readable before s.b → b.level ≡ less l (get_or depths s.b 0)) where
  least_both : Readable before s.b → least a.level b.level ≡ less l (max (get_or depths s.a 0) (get_or depths s.b 0))
  least_both r = ap (λ (x : Level). least x b.level) at_a ∙ ap (λ (x : Level). least (less l (get_or depths s.a 0)) x) (at_b r) ∙ least-less l _ _

  given_level : (op : Op) → Formed m before s op → (given m a b s.k op).level ≡ less l (depth_by 1 0 depths s op)
  given_level Add f = least_both f.0
  given_level Multiply f = ap spent (least_both f.0) ∙ spent-less l _
  given_level Scale f = at_a ∙ ap (less l) (omega arith)
  given_level Shift f = at_a

  stuck_exceeds : (op : Op) → Formed m before s op → Stuck a b op → Exceeds (depth_by 1 0 depths s op) l
  stuck_exceeds Add f u = absurd u
  stuck_exceeds Multiply f u = used_exceeds l _ (subst UsedUp (least_both f.0) u)
  stuck_exceeds Scale f u = absurd u
  stuck_exceeds Shift f u = absurd u

  -- a step that is not stuck exceeds the level only where a tray that it reads does
  free_fits : (op : Op) → Formed m before s op → (Stuck a b op → ⊥) → (Exceeds (get_or depths s.a 0) l → ⊥) → (Exceeds (get_or depths s.b 0) l → ⊥) → Exceeds (depth_by 1 0 depths s op) l → ⊥
  free_fits Add f free fit-a fit-b x = exceeds_max l _ _ fit-a fit-b x
  free_fits Multiply f free fit-a fit-b x = free (subst UsedUp (sym (least_both f.0)) (exceeds_used l _ x))
  free_fits Scale f free fit-a fit-b x = fit-a (exceeds_more l _ _ (omega arith) x)
  free_fits Shift f free fit-a fit-b x = fit-a x

-- ---- lengths and steps one after the other
-- the depths behind a step
abbrev deeper : List ℕ → Step → List ℕ
deeper depths s = set depths s.to (depth_by 1 0 depths s s.op)

length-after : (m base : ℕ) (trays : List Meaning) (steps : List Step) → length (after_steps m base trays steps) ≡ length trays
length-after m base trays [] = refl
length-after m base trays (s ∷ steps) = length-after m base (after_step m base trays s) steps ∙ length-set trays (base + s.to) _

length-depths : (depths : List ℕ) (steps : List Step) → length (depths_after 1 0 depths steps) ≡ length depths
length-depths depths [] = refl
length-depths depths (s ∷ steps) = length-depths (deeper depths s) steps ∙ length-set depths s.to _

depths_++ : (depths : List ℕ) (xs ys : List Step) → depths_after 1 0 depths (xs ++ ys) ≡ depths_after 1 0 (depths_after 1 0 depths xs) ys
depths_++ depths [] ys = refl
depths_++ depths (x ∷ xs) ys = depths_++ (deeper depths x) xs ys

depths_more : (depths : List ℕ) (steps : List Step) (i : ℕ) → i < length steps → depths_after 1 0 depths (take (i + 1) steps) ≡ deeper (depths_after 1 0 depths (take i steps)) (step_at steps i)
depths_more depths steps i within = ap (depths_after 1 0 depths) (take_more steps i _ within) ∙ depths_++ depths (take i steps) (step_at steps i ∷ [])

-- the depth that step i gives
abbrev depth-at : List ℕ → List Step → ℕ → ℕ
depth-at depths steps i = depth_by 1 0 (depths_after 1 0 depths (take i steps)) (step_at steps i) (step_at steps i).op

-- ---- the depth of a list is the greatest that a step gives
greatest-in : (depths : List ℕ) (greatest : ℕ) (steps : List Step) → greatest ≤ depth_from 1 0 depths greatest steps
greatest-in depths greatest [] = omega arith
greatest-in depths greatest (s ∷ steps) = omega (arith, greatest-in (deeper depths s) (max greatest (depth_by 1 0 depths s s.op)) steps)

step_in : (depths : List ℕ) (greatest : ℕ) (steps : List Step) (i : ℕ) → i < length steps → depth-at depths steps i ≤ depth_from 1 0 depths greatest steps
step_in depths greatest [] i within = absurd (omega arith)
step_in depths greatest (s ∷ steps) zero within = omega (arith, greatest-in (deeper depths s) (max greatest (depth_by 1 0 depths s s.op)) steps)
step_in depths greatest (s ∷ steps) (suc i) within = step_in (deeper depths s) _ steps i (omega arith)

-- where neither the greatest so far nor a step's depth exceeds the level, the depth of the list does not
none-exceeds : (l : Level) (depths : List ℕ) (greatest : ℕ) (steps : List Step) → (Exceeds greatest l → ⊥) → ((i : ℕ) → i < length steps → Exceeds (depth-at depths steps i) l → ⊥)
    → Exceeds (depth_from 1 0 depths greatest steps) l → ⊥
none-exceeds l depths greatest [] so_far each x = so_far x
none-exceeds l depths greatest (s ∷ steps) so_far each x =
    none-exceeds l (deeper depths s) (max greatest (depth_by 1 0 depths s s.op)) steps (exceeds_max l _ _ so_far (each 0 (omega arith))) (λ i within. each (suc i) (omega arith)) x

-- ---- the levels of the trays that can be read, by their depths
-- levels stop at 0, and so does the difference: this holds behind a stuck step too
abbrev Levelled : Level → ℕ → List Meaning → List ℕ → List Step → Type 0
Levelled l base trays depths before = (t : ℕ) → Readable before t → (tray trays (base + t)).level ≡ less l (get_or depths t 0)

readable_before : (before : List Step) (s : Step) (t : ℕ) → Readable (before ++ s ∷ []) t → (s.to ≡ t → ⊥) → Readable before t
readable_before before s t (inl e) other = inl e
readable_before before s t (inr w) other = inr (old before w)
  where
    old : (before : List Step) → Written (before ++ s ∷ []) t → Written before t
    old [] (inl e) = absurd (other e)
    old [] (inr w) = absurd w
    old (x ∷ before) (inl e) = inl e
    old (x ∷ before) (inr w) = inr (old before w)

-- the tray that is written last can be read
last_written : (t : ℕ) (steps : List Step) → (last_from t steps ≡ t) ⊎ Written steps (last_from t steps)
last_written t [] = inl refl
last_written t (s ∷ steps) = go (last_written s.to steps)
  where
    go : (last_from s.to steps ≡ s.to) ⊎ Written steps (last_from s.to steps) → (last_from s.to steps ≡ t) ⊎ Written (s ∷ steps) (last_from s.to steps)
    go (inl e) = inr (inl (sym e))
    go (inr w) = inr (inr w)

levelled_step : (m base : ℕ) (l : Level) (trays : List Meaning) (depths : List ℕ) (before : List Step) (s : Step) → Good m before s → base + s.to < length trays → s.to < length depths
    → Levelled l base trays depths before → Levelled l base (after_step m base trays s) (deeper depths s) (before ++ s ∷ [])
levelled_step m base l trays depths before s good in_trays in_depths levelled t readable = go (ℕ_discrete t s.to)
  where
    written : (tray (after_step m base trays s) (base + s.to)).level ≡ less l (get_or (deeper depths s) s.to 0)
    written =
        ap (λ (x : Meaning). x.level) (get_or-set_same trays (base + s.to) _ _ in_trays)
        ∙ given_level m l before depths s (tray trays (base + s.a)) (tray trays (base + s.b)) (levelled s.a good.reads) (levelled s.b) s.op good.formed
        ∙ ap (less l) (sym (get_or-set_same depths s.to _ 0 in_depths))

    go : Dec (t ≡ s.to) → (tray (after_step m base trays s) (base + t)).level ≡ less l (get_or (deeper depths s) t 0)
    go (yes same) = subst (λ (u : ℕ). (tray (after_step m base trays s) (base + u)).level ≡ less l (get_or (deeper depths s) u 0)) (sym same) written
    go (no other) =
        ap (λ (x : Meaning). x.level) (get_or-set_other trays (base + s.to) (base + t) _ _ (λ e. other (omega arith)))
        ∙ levelled t (readable_before before s t readable (λ e. other (sym e)))
        ∙ ap (less l) (sym (get_or-set_other depths s.to t _ 0 other))

-- ---- whole lists
-- P is decided, so there is a first number that has it or none below n has it
first_or_none : (P : ℕ → Type 0) → ((i : ℕ) → Dec (P i)) → (n : ℕ) → ((i : ℕ) × (i < n) × ((j : ℕ) → j < i → P j → ⊥) × P i) ⊎ ((j : ℕ) → j < n → P j → ⊥)
first_or_none P dec zero = inr (λ j h. absurd (omega arith))
first_or_none P dec (suc n) = go (first_or_none P dec n) (dec n)
  where
    go : ((i : ℕ) × (i < n) × ((j : ℕ) → j < i → P j → ⊥) × P i) ⊎ ((j : ℕ) → j < n → P j → ⊥) → Dec (P n)
        → ((i : ℕ) × (i < suc n) × ((j : ℕ) → j < i → P j → ⊥) × P i) ⊎ ((j : ℕ) → j < suc n → P j → ⊥)
    go (inl f) d = inl (f.0, omega (arith, f.1), f.2, f.3)
    go (inr none) (yes p) = inl (n, omega arith, none, p)
    go (inr none) (no q) = inr (λ j h. below_more (λ (k : ℕ). P k → ⊥) n none q j (omega arith))

-- the depths at first; the rules put replicate 256 0 for zeros
record Start (zeros : List ℕ) : Type 0 where
  few : length zeros ≡ 256
  none : (t : ℕ) → get_or zeros t 0 ≡ 0

start_256 : Start (replicate 256 0)
start_256 = record { few = length-replicate {A = ℕ} 256 0; none = λ t. omega (arith, zeros_small 256 0 t) }

module _ (m base : ℕ) (trays : List Meaning) (steps : List Step) (input : Meaning) (passes : Passes m steps) (room : base + trays_of steps ≤ length trays) (zeros : List ℕ) (start : Start zeros) where
  abbrev trays_at : ℕ → List Meaning
  trays_at i = after_steps m base (set trays base input) (take i steps)

  abbrev depths_at : ℕ → List ℕ
  depths_at i = depths_after 1 0 zeros (take i steps)

  in_trays : (i : ℕ) → i < length steps → base + (step_at steps i).to < length (trays_at i)
  in_trays i within = omega (arith, length-after m base (set trays base input) (take i steps), length-set trays base input, (tray-within steps i within).0)

  in_depths : (i : ℕ) → i < length steps → (step_at steps i).to < length (depths_at i)
  in_depths i within = omega (arith, length-depths zeros (take i steps), (passes.good i within).to_tray)

  levelled_none : Levelled input.level base (set trays base input) zeros []
  levelled_none t (inl e) =
      ap (λ (u : ℕ). (tray (set trays base input) u).level) (omega arith) ∙ ap (λ (x : Meaning). x.level) (get_or-set_same trays base input _ (omega arith)) ∙ sym (less_none input.level) ∙ ap (less input.level) (sym (start.none t))
  levelled_none t (inr w) = absurd w

  levelled_at : (i : ℕ) → i ≤ length steps → Levelled input.level base (trays_at i) (depths_at i) (take i steps)
  levelled_at zero within = levelled_none
  levelled_at (suc i) within =
      subst (λ (n : ℕ). Levelled input.level base (trays_at n) (depths_at n) (take n steps)) (add-one i)
      (subst₃ (λ (xs : List Meaning) (ds : List ℕ) (before : List Step). Levelled input.level base xs ds before)
      (sym (after_more m base (set trays base input) steps i within)) (sym (depths_more zeros steps i within)) (sym (take_more steps i _ within))
      (levelled_step m base input.level (trays_at i) (depths_at i) (take i steps) (step_at steps i) (passes.good i within) (in_trays i within) (in_depths i within) (levelled_at i (omega arith))))

  -- where no step is stuck, no depth exceeds the level
  module _ (free : (i : ℕ) → i < length steps → StuckAt m base (set trays base input) steps i → ⊥) where
    step_fits : (i : ℕ) → i < length steps → ((t : ℕ) → Exceeds (get_or (depths_at i) t 0) input.level → ⊥) → Exceeds (depth-at zeros steps i) input.level → ⊥
    step_fits i within fit =
        let s = step_at steps i in
        let levelled = levelled_at i (omega arith) in
        free_fits m input.level (take i steps) (depths_at i) s (tray (trays_at i) (base + s.a)) (tray (trays_at i) (base + s.b)) (levelled s.a (passes.good i within).reads) (levelled s.b)
        s.op (passes.good i within).formed (free i within) (fit s.a) (fit s.b)

    fits_at : (i : ℕ) → i ≤ length steps → (t : ℕ) → Exceeds (get_or (depths_at i) t 0) input.level → ⊥
    fits_at zero within t x = exceeds_none input.level (subst (λ (d : ℕ). Exceeds d input.level) (start.none t) x)
    fits_at (suc i) within t x = go (fits_at i (omega arith)) (ℕ_discrete t (step_at steps i).to) here
      where
        here : Exceeds (get_or (deeper (depths_at i) (step_at steps i)) t 0) input.level
        here = subst (λ (ds : List ℕ). Exceeds (get_or ds t 0) input.level) (ap depths_at (sym (add-one i)) ∙ depths_more zeros steps i within) x

        go : ((u : ℕ) → Exceeds (get_or (depths_at i) u 0) input.level → ⊥) → Dec (t ≡ (step_at steps i).to) → Exceeds (get_or (deeper (depths_at i) (step_at steps i)) t 0) input.level → ⊥
        go fit (yes same) y =
            step_fits i within fit (subst (λ (d : ℕ). Exceeds d input.level) (ap (λ (u : ℕ). get_or (deeper (depths_at i) (step_at steps i)) u 0) same ∙ get_or-set_same (depths_at i) (step_at steps i).to _ 0 (in_depths i within)) y)
        go fit (no other) y = fit t (subst (λ (d : ℕ). Exceeds d input.level) (get_or-set_other (depths_at i) (step_at steps i).to t _ 0 other) y)

    list_fits : Exceeds (depth_from 1 0 zeros 0 steps) input.level → ⊥
    list_fits = none-exceeds input.level zeros 0 steps (exceeds_none input.level) (λ i within. step_fits i within (fits_at i (omega arith)))

  stops_exceeds : (i : ℕ) (after : List Meaning) → StopsAt m base trays steps input i after → Exceeds (depth_from 1 0 zeros 0 steps) input.level
  stops_exceeds i after stops =
      let s = step_at steps i in
      let within = stops.within in
      let levelled = levelled_at i (omega arith) in
      exceeds_more input.level _ _ (step_in zeros 0 steps i within)
      (stuck_exceeds m input.level (take i steps) (depths_at i) s (tray (trays_at i) (base + s.a)) (tray (trays_at i) (base + s.b)) (levelled s.a (passes.good i within).reads) (levelled s.b)
      s.op (passes.good i within).formed stops.stuck)

  stuck_at_dec : (i : ℕ) → Dec (StuckAt m base (set trays base input) steps i)
  stuck_at_dec i = let s = step_at steps i in stuck-dec (tray (trays_at i) (base + s.a)) (tray (trays_at i) (base + s.b)) s.op

  exceeds_stops : Exceeds (depth_from 1 0 zeros 0 steps) input.level → (i : ℕ) × (after : List Meaning) × StopsAt m base trays steps input i after
  exceeds_stops x = go (first_or_none (StuckAt m base (set trays base input) steps) stuck_at_dec (length steps))
    where
      go : ((i : ℕ) × (i < length steps) × ((j : ℕ) → j < i → StuckAt m base (set trays base input) steps j → ⊥) × StuckAt m base (set trays base input) steps i)
          ⊎ ((j : ℕ) → j < length steps → StuckAt m base (set trays base input) steps j → ⊥)
          → (i : ℕ) × (after : List Meaning) × StopsAt m base trays steps input i after
      go (inl f) = (f.0, trays_at f.0, record { within = f.1; free = f.2; stuck = f.3; leaves = refl })
      go (inr free) = absurd (list_fits free x)

  answers_level : (answer : Meaning) (after : List Meaning) → Ran m base trays steps input answer after → answer.level ≡ less input.level (get_or (depths_after 1 0 zeros steps) (last_from 0 steps) 0)
  answers_level answer after ran =
      let all : take (length steps) steps ≡ steps = take_all (length steps) steps (omega arith) in
      ap (λ (x : Meaning). x.level) ran.answers ∙ ap (λ (xs : List Meaning). (tray xs (base + last_from 0 steps)).level) ran.leaves
      ∙ subst (λ (xs : List Step). Levelled input.level base (after_steps m base (set trays base input) xs) (depths_after 1 0 zeros xs) xs) all (levelled_at (length steps) (omega arith)) (last_from 0 steps) (last_written 0 steps)

-- ---- the two rules
pub level-rule : LevelRule
level-rule m base trays steps input passes room = (
  (λ stops. stops_exceeds m base trays steps input passes room (replicate 256 0) start_256 stops.0 stops.1 stops.2),
  exceeds_stops m base trays steps input passes room (replicate 256 0) start_256,
)

pub answer-level : AnswerLevel
answer-level m base trays steps input answer after passes room ran = answers_level m base trays steps input passes room (replicate 256 0) start_256 answer after ran
