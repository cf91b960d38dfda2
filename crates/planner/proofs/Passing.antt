-- Every plan passes the step check and never writes tray 0. Assumes nothing.
use Rattle.std.proofs.Common.{◌≡◌, ℕ, zero, suc, ◌+◌, ◌-◌, ◌*◌, ◌/◌, ◌%◌, ◌^◌, ◌<◌, ◌≤◌, List, [], ◌∷◌, ◌++◌, length, get_or, take, sym, refl, ap, ◌∙◌, subst, inl, inr, mod-lt, arith}
use native.Mathlib.Decide.{dec_lt}
use native.Mathlib.Nat.{pow-zero}
use Rattle.std.proofs.lemmas.List.{append-nil, append_assoc}
use Rattle.modulus.specs.Moduli.{Listed}
use Rattle.modulus.specs.Bounds.{v, w}
use Rattle.modulus.proofs.Bounds.{below-52, w-small}
use Rattle.poly.specs.Reduced.{Reduced, form_length}
use Rattle.poly.proofs.Standing.{form_length-le}
use Rattle.plan.specs.Steps.{Written, Readable, Good, step_at, Passes}
use Rattle.plan.specs.declared.step.Step.{Step}
use Rattle.plan.proofs.Checks.{readable_last, readable_more}
use Rattle.planner.specs.Layout.{adds, multiplies, scales, shifts, nothing, minus, rungs, ladder, powers, terms, filled, lower, blocks, block}
use Rattle.planner.proofs.Lengths.{length-ladder_most, length-block_most}

-- ---- what can be read behind more steps
-- the trays below n can be read
abbrev Ready : ℕ → List Step → Type 0
Ready n before = (t : ℕ) → t < n → Readable before t

ready_more : {n : ℕ} (before after : List Step) → Ready n before → Ready n (before ++ after)
ready_more before after r t l = readable_more before after t (r t l)

-- a step that writes the first tray not yet counted makes it readable too
ready_last : (before : List Step) (s : Step) → Ready s.to before → Ready (suc s.to) (before ++ s ∷ [])
ready_last before s r t l = go (dec_lt t s.to)
  where
    go : Dec (t < s.to) → Readable (before ++ s ∷ []) t
    go (yes h) = readable_more before (s ∷ []) t (r t h)
    go (no h) =
        let same : s.to ≡ t = omega arith in
        subst (λ (n : ℕ). Readable (before ++ s ∷ []) n) same (readable_last before s)

-- ---- good steps of each kind
module _ (m : ℕ) (before : List Step) where
  good_add : (to a b : ℕ) → to < 64 → a < 64 → b < 64 → Readable before a → Readable before b → Good m before (adds to a b)
  good_add to a b lt la lb ra rb = record { to_tray = lt; a_tray = la; b_tray = lb; reads = ra; formed = (rb, refl) }

  good_multiply : (to a b : ℕ) → to < 64 → a < 64 → b < 64 → Readable before a → Readable before b → Good m before (multiplies to a b)
  good_multiply to a b lt la lb ra rb = record { to_tray = lt; a_tray = la; b_tray = lb; reads = ra; formed = (rb, refl) }

  good_scale : (to a k : ℕ) → to < 64 → a < 64 → Readable before a → k < m → Good m before (scales to a k)
  good_scale to a k lt la ra h = record { to_tray = lt; a_tray = la; b_tray = omega arith; reads = ra; formed = (refl, h) }

  good_shift : (to a k : ℕ) → to < 64 → a < 64 → Readable before a → k < m → Good m before (shifts to a k)
  good_shift to a k lt la ra h = record { to_tray = lt; a_tray = la; b_tray = omega arith; reads = ra; formed = (refl, h) }

-- ---- good lists
-- each step of the list is good behind the steps `before` and those of the list that precede it
abbrev AllGood : ℕ → List Step → List Step → Type 0
AllGood m before [] = Unit {0}
AllGood m before (s ∷ steps) = Good m before s × AllGood m (before ++ s ∷ []) steps

all-good_append : (m : ℕ) (before xs ys : List Step) → AllGood m before xs → AllGood m (before ++ xs) ys → AllGood m before (xs ++ ys)
all-good_append m before [] ys g h = subst (λ (l : List Step). AllGood m l ys) (append-nil before) h
all-good_append m before (x ∷ xs) ys g h =
    (g.0, all-good_append m (before ++ x ∷ []) xs ys g.1 (subst (λ (l : List Step). AllGood m l ys) (sym (append_assoc before (x ∷ []) xs)) h))

good-each : (m : ℕ) (before steps : List Step) → AllGood m before steps → (i : ℕ) → i < length steps → Good m (before ++ take i steps) (step_at steps i)
good-each m before [] g i l = absurd (omega arith)
good-each m before (s ∷ steps) g zero l = subst (λ (l : List Step). Good m l s) (sym (append-nil before)) g.0
good-each m before (s ∷ steps) g (suc i) l =
    subst (λ (l : List Step). Good m l (step_at steps i)) (append_assoc before (s ∷ []) (take i steps))
    (good-each m (before ++ s ∷ []) steps g.1 i (omega arith))

passes-from : (m : ℕ) (steps : List Step) → length steps ≤ 160 → AllGood m [] steps → Passes m steps
passes-from m steps few g = record { few = few; good = good-each m [] steps g }

nothing-good : (m : ℕ) → 0 < m → AllGood m [] nothing
nothing-good m h = (good_scale m [] 1 0 0 (omega arith) (omega arith) (inl refl) h, tt)

-- ---- the ladder
module _ (m : ℕ) (positive : 0 < m) (c : List ℕ) (below : (k : ℕ) → get_or c k 0 < m) where
  minus_below : (i : ℕ) → minus m i < m
  minus_below i = mod-lt (m - i % m) positive

  rungs_good : (n : ℕ) (before : List Step) → Readable before 1 → AllGood m before (rungs m c n)
  rungs_good zero before r = tt
  rungs_good (suc i) before r =
      let turn : Step = shifts 2 0 (minus m i) in
      let turned : List Step = before ++ turn ∷ [] in
      let grow : Step = multiplies 1 1 2 in
      let grown : List Step = turned ++ grow ∷ [] in
      let move : Step = shifts 1 1 (get_or c i 0) in (
        good_shift m before 2 0 (minus m i) (omega arith) (omega arith) (inl refl) (minus_below i),
        (
          good_multiply m turned 1 1 2 (omega arith) (omega arith) (omega arith) (readable_more before (turn ∷ []) 1 r) (readable_last before turn),
          (
            good_shift m grown 1 1 (get_or c i 0) (omega arith) (omega arith) (readable_last turned grow) (below i),
            rungs_good i (grown ++ move ∷ []) (readable_last grown move),
          ),
        ),
      )

  ladder_good : (n : ℕ) → AllGood m [] (ladder m c n)
  ladder_good zero = nothing-good m positive
  ladder_good (suc zero) = (
    good_scale m [] 1 0 0 (omega arith) (omega arith) (inl refl) positive,
    (good_shift m (scales 1 0 0 ∷ []) 1 1 (get_or c 0 0) (omega arith) (omega arith) (inr (inl refl)) (below 0), tt),
  )
  ladder_good (suc (suc n)) =
      let turn : Step = shifts 2 0 (minus m n) in
      let grow : Step = scales 1 2 (get_or c (suc n) 0) in
      let move : Step = shifts 1 1 (get_or c n 0) in (
        good_shift m [] 2 0 (minus m n) (omega arith) (omega arith) (inl refl) (minus_below n),
        (
          good_scale m (turn ∷ []) 1 2 (get_or c (suc n) 0) (omega arith) (omega arith) (inr (inl refl)) (below (suc n)),
          (
            good_shift m (turn ∷ grow ∷ []) 1 1 (get_or c n 0) (omega arith) (omega arith) (inr (inr (inl refl))) (below n),
            rungs_good n (turn ∷ grow ∷ move ∷ []) (inr (inr (inl refl))),
          ),
        ),
      )

pub ladder-passes : (m : ℕ) → 0 < m → (c : List ℕ) (n : ℕ) → n ≤ 52 → ((k : ℕ) → get_or c k 0 < m) → Passes m (ladder m c n)
ladder-passes m positive c n few below = passes-from m (ladder m c n) (length-ladder_most m c n few) (ladder_good m positive c below n)

-- ---- the block plan
powers-ready : (n : ℕ) → Ready n (powers n)
powers-ready zero = λ t l. absurd (omega arith)
powers-ready (suc zero) = λ t l. inl (omega arith)
powers-ready (suc (suc i)) =
    ready_last (powers (suc i)) (multiplies (suc i) (suc (suc i) / 2 - 1) ((suc (suc i) + 1) / 2 - 1)) (powers-ready (suc i))

powers-good : (m n : ℕ) → n ≤ 8 → AllGood m [] (powers n)
powers-good m zero h = tt
powers-good m (suc zero) h = tt
powers-good m (suc (suc i)) h =
    let x : ℕ = suc (suc i) / 2 - 1 in
    let y : ℕ = (suc (suc i) + 1) / 2 - 1 in
    let lx : x < suc i = omega arith in
    let ly : y < suc i = omega arith in
    all-good_append m [] (powers (suc i)) (multiplies (suc i) x y ∷ []) (powers-good m (suc i) (omega arith)) (
      good_multiply m (powers (suc i)) (suc i) x y (omega arith) (omega arith) (omega arith) (powers-ready (suc i) x lx) (powers-ready (suc i) y ly),
      tt,
    )

module _ (m : ℕ) (positive : 0 < m) (s : ℕ) (low : 1 ≤ s) (high : s ≤ 8) (a : List ℕ) (below : (k : ℕ) → get_or a k 0 < m) where
  terms_good : (before : List Step) → Ready (suc s) before → (at n : ℕ) → n < s → AllGood m before (terms s a at n)
  terms_good before r at zero l = tt
  terms_good before r at (suc i) l =
      let k : ℕ = get_or a (at + suc i) 0 in
      let scale : Step = scales (s + 1) i k in
      let done : List Step = before ++ terms s a at i in
      let ready : Ready (suc s) done = ready_more before (terms s a at i) r in
      all-good_append m before (terms s a at i) (scale ∷ adds s s (s + 1) ∷ []) (terms_good before r at i (omega arith)) (
        good_scale m done (s + 1) i k (omega arith) (omega arith) (ready i (omega arith)) (below (at + suc i)),
        (
          good_add m (done ++ scale ∷ []) s s (s + 1) (omega arith) (omega arith) (omega arith) (ready_more done (scale ∷ []) ready s (omega arith))
              (readable_last done scale),
          tt,
        ),
      )

  filled_good : (before : List Step) → Ready (suc s) before → (at : ℕ) → AllGood m before (filled s a at)
  filled_good before r at =
      let shift : Step = shifts s s (get_or a at 0) in (
        good_shift m before s s (get_or a at 0) (omega arith) (omega arith) (r s (omega arith)) (below at),
        terms_good (before ++ shift ∷ []) (ready_more before (shift ∷ []) r) at (s - 1) (omega arith),
      )

  lower_good : (before : List Step) → Ready (suc s) before → (b : ℕ) → AllGood m before (lower s a b)
  lower_good before r zero = tt
  lower_good before r (suc b) =
      let raise : Step = multiplies s s (s - 1) in
      let raised : List Step = before ++ raise ∷ [] in
      let ready : Ready (suc s) raised = ready_more before (raise ∷ []) r in
      let here : List Step = filled s a (b * s) in (
        good_multiply m before s s (s - 1) (omega arith) (omega arith) (omega arith) (r s (omega arith)) (r (s - 1) (omega arith)),
        all-good_append m raised here (lower s a b) (filled_good raised ready (b * s)) (lower_good (raised ++ here) (ready_more raised here ready) b),
      )

  blocks_good : (before : List Step) → Ready s before → (b : ℕ) → AllGood m before (blocks s a b)
  blocks_good before r zero = tt
  blocks_good before r (suc b) =
      let begun : List Step = before ++ scales s 0 0 ∷ [] in
      let ready : Ready (suc s) begun = ready_last before (scales s 0 0) r in
      let here : List Step = filled s a (b * s) in (
        good_scale m before s 0 0 (omega arith) (omega arith) (inl refl) positive,
        all-good_append m begun here (lower s a b) (filled_good begun ready (b * s))
            (lower_good (begun ++ here) (ready_more begun here ready) b),
      )

  block_good : (n : ℕ) → AllGood m [] (block s a n)
  block_good zero = nothing-good m positive
  block_good (suc n) =
      let b : ℕ = (n + s) / s in
      all-good_append m [] (powers s) (blocks s a b) (powers-good m s high) (blocks_good (powers s) (powers-ready s) b)

pub block-passes : (m : ℕ) → 0 < m → (s : ℕ) → 1 ≤ s → s ≤ 8 → (a : List ℕ) (n : ℕ) → n ≤ 52 → ((k : ℕ) → get_or a k 0 < m) → Passes m (block s a n)
block-passes m positive s low high a n few below =
    passes-from m (block s a n) (length-block_most s low high a n few) (block_good m positive s low high a below n)

-- ---- tray 0 is never written
abbrev Spares : List Step → Type 0
Spares steps = Written steps 0 → ⊥

spares-none : Spares []
spares-none wrote = wrote

spares-more : (s : Step) (steps : List Step) → 1 ≤ s.to → Spares steps → Spares (s ∷ steps)
spares-more s steps l h (inl e) = omega arith
spares-more s steps l h (inr wrote) = h wrote

spares-append : (xs ys : List Step) → Spares xs → Spares ys → Spares (xs ++ ys)
spares-append [] ys g h wrote = h wrote
spares-append (x ∷ xs) ys g h (inl e) = g (inl e)
spares-append (x ∷ xs) ys g h (inr wrote) = spares-append xs ys (λ v. g (inr v)) h wrote

rungs-spare : (m : ℕ) (c : List ℕ) (n : ℕ) → Spares (rungs m c n)
rungs-spare m c zero wrote = wrote
rungs-spare m c (suc i) (inl e) = omega arith
rungs-spare m c (suc i) (inr (inl e)) = omega arith
rungs-spare m c (suc i) (inr (inr (inl e))) = omega arith
rungs-spare m c (suc i) (inr (inr (inr wrote))) = rungs-spare m c i wrote

pub ladder-spares : (m : ℕ) (c : List ℕ) (n : ℕ) → Written (ladder m c n) 0 → ⊥
ladder-spares m c zero (inl e) = omega arith
ladder-spares m c zero (inr wrote) = wrote
ladder-spares m c (suc zero) (inl e) = omega arith
ladder-spares m c (suc zero) (inr (inl e)) = omega arith
ladder-spares m c (suc zero) (inr (inr wrote)) = wrote
ladder-spares m c (suc (suc n)) (inl e) = omega arith
ladder-spares m c (suc (suc n)) (inr (inl e)) = omega arith
ladder-spares m c (suc (suc n)) (inr (inr (inl e))) = omega arith
ladder-spares m c (suc (suc n)) (inr (inr (inr wrote))) = rungs-spare m c n wrote

powers-spare : (n : ℕ) → Spares (powers n)
powers-spare zero = spares-none
powers-spare (suc zero) = spares-none
powers-spare (suc (suc i)) =
    spares-append (powers (suc i)) (multiplies (suc i) (suc (suc i) / 2 - 1) ((suc (suc i) + 1) / 2 - 1) ∷ []) (powers-spare (suc i))
    (spares-more (multiplies (suc i) (suc (suc i) / 2 - 1) ((suc (suc i) + 1) / 2 - 1)) [] (omega arith) spares-none)

module _ (s : ℕ) (low : 1 ≤ s) (a : List ℕ) where
  terms_spare : (at n : ℕ) → Spares (terms s a at n)
  terms_spare at zero = spares-none
  terms_spare at (suc i) =
      let scale : Step = scales (s + 1) i (get_or a (at + suc i) 0) in
      let sum : Step = adds s s (s + 1) in
      spares-append (terms s a at i) (scale ∷ sum ∷ []) (terms_spare at i)
      (spares-more scale (sum ∷ []) (omega arith) (spares-more sum [] low spares-none))

  filled_spare : (at : ℕ) → Spares (filled s a at)
  filled_spare at = spares-more (shifts s s (get_or a at 0)) (terms s a at (s - 1)) low (terms_spare at (s - 1))

  lower_spare : (b : ℕ) → Spares (lower s a b)
  lower_spare zero = spares-none
  lower_spare (suc b) =
      spares-more (multiplies s s (s - 1)) (filled s a (b * s) ++ lower s a b) low
      (spares-append (filled s a (b * s)) (lower s a b) (filled_spare (b * s)) (lower_spare b))

  blocks_spare : (b : ℕ) → Spares (blocks s a b)
  blocks_spare zero = spares-none
  blocks_spare (suc b) =
      spares-more (scales s 0 0) (filled s a (b * s) ++ lower s a b) low
      (spares-append (filled s a (b * s)) (lower s a b) (filled_spare (b * s)) (lower_spare b))

pub block-spares : (s : ℕ) → 1 ≤ s → (a : List ℕ) (n : ℕ) → Written (block s a n) 0 → ⊥
block-spares s low a zero = spares-more (scales 1 0 0) [] (omega arith) spares-none
block-spares s low a (suc n) =
    let b : ℕ = (n + s) / s in
    spares-append (powers s) (blocks s a b) (powers-spare s) (blocks_spare s low a b)

-- ---- reduced forms are short and small
-- from place 52 on every bound is 1
w-past_52 : (p e i : ℕ) → Listed p e → 52 ≤ i → w p e i ≡ 1
w-past_52 p e i h l = go (dec_lt (v p i) e)
  where
    go : Dec (v p i < e) → w p e i ≡ 1
    go (yes y) = absurd (omega (arith, below-52 p e i h y))
    go (no n) =
        let gone : e - v p i ≡ 0 = omega arith in
        ap (λ (k : ℕ). p ^ k) gone ∙ pow-zero p

pub reduced-few : (p e : ℕ) → Listed p e → (c : List ℕ) → Reduced p e c → form_length c ≤ 52
reduced-few p e h c r = form_length-le c 52 (λ i l. omega (arith, r i, w-past_52 p e i h l))

pub reduced-below : (p e : ℕ) → Listed p e → (c : List ℕ) → Reduced p e c → (k : ℕ) → get_or c k 0 < p ^ e
reduced-below p e h c r k = omega (arith, r k, w-small p e k h)
