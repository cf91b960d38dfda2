-- The lanes of a run: each lane goes through the steps by itself. Assumes nothing.
use Rattle.std.proofs.Common.{◌≡◌, ℕ, ◌+◌, ◌*◌, ◌%◌, ◌^◌, ◌<◌, List, [], ◌∷◌, length, get_or, set, pos, sym, refl, ap, ◌∙◌, subst, ap₂, subst₂, ⊎_elim, arith}
use Rattle.std.proofs.lemmas.List.{get_or-set_same, get_or-set_other, length-set}
use Rattle.std.proofs.lemmas.Bool.{cases_eq}
use Rattle.modulus.specs.Congruence.{Cong}
use Rattle.poly.specs.Polynomial.{value, form}
use Rattle.element.proofs.Lanewise.{lane-products, lane-scaled, lane-shifted, lane-sums, length-products, length-scaled, length-shifted, length-sums}
use Rattle.plan.specs.Steps.{greatest_of}
use Rattle.plan.specs.Trays.{after, answer, computed, last_from, put}
use Rattle.plan.specs.declared.step.Op.{Op}
use Rattle.plan.specs.declared.step.Op.TheVariants.{Add, Multiply, Scale, Shift}
use Rattle.plan.specs.declared.step.Step.{Step}
use Rattle.planner.proofs.Stores.{put_same, put_other}
use Rattle.rack.specs.Lanes.{DueLanes, LaneByLane, Wide, lane}
use Rattle.rack.specs.Runs.{Meaning, after_step, after_steps, given, tray}
use Rattle.rack.proofs.Meant.{last_within}

-- ---- one step
given-width : (m width : ℕ) (a b : Meaning) (k : ℕ) (op : Op) → length a.lanes ≡ width → length b.lanes ≡ width → length (given m a b k op).lanes ≡ width
given-width m width a b k Add la lb = length-sums m width a.lanes b.lanes la lb
given-width m width a b k Multiply la lb = length-products m width a.lanes b.lanes la lb
given-width m width a b k Scale la lb = length-scaled m k a.lanes ∙ la
given-width m width a b k Shift la lb = length-shifted m k a.lanes ∙ la

-- what a step gives a lane is what it computes of the numbers in that lane
given-lane : (m j : ℕ) (f : ℕ → ℕ) (a b : Meaning) (s : Step) (op : Op) → j < length a.lanes → j < length b.lanes
    → get_or a.lanes j 0 ≡ f s.a → get_or b.lanes j 0 ≡ f s.b → get_or (given m a b s.k op).lanes j 0 ≡ computed m f s op
given-lane m j f a b s Add ja jb ea eb = lane-sums m a.lanes b.lanes j ja jb ∙ ap₂ (λ (x y : ℕ). (x + y) % m) ea eb
given-lane m j f a b s Multiply ja jb ea eb = lane-products m a.lanes b.lanes j ja jb ∙ ap₂ (λ (x y : ℕ). (x * y) % m) ea eb
given-lane m j f a b s Scale ja jb ea eb = lane-scaled m s.k a.lanes j ja ∙ ap (λ (x : ℕ). (x * s.k) % m) ea
given-lane m j f a b s Shift ja jb ea eb = lane-shifted m s.k a.lanes j ja ∙ ap (λ (x : ℕ). (x + s.k) % m) ea

-- ---- a tray that is written
set-wide : (width : ℕ) (trays : List Meaning) (i : ℕ) (x : Meaning) → Wide width trays → length x.lanes ≡ width → Wide width (set trays i x)
set-wide width trays i x wide lx t within =
    let lt : t < length trays = omega (arith, length-set trays i x) in
    let there = λ (same : t ≡ i). ap (λ (u : ℕ). length (tray (set trays i x) u).lanes) same ∙ ap (λ (n : Meaning). length n.lanes) (get_or-set_same trays i x _ (omega arith)) ∙ lx in
    let elsewhere = λ (apart : t ≡ i → ⊥). ap (λ (n : Meaning). length n.lanes) (get_or-set_other trays i t x _ apart) ∙ wide t lt in
    ⊎_elim there elsewhere (cases_eq t i)

lane-written : (base j : ℕ) (trays : List Meaning) (to : ℕ) (x : Meaning) → base + to < length trays → lane base j (set trays (base + to) x) to ≡ get_or x.lanes j 0
lane-written base j trays to x room = ap (λ (y : Meaning). get_or y.lanes j 0) (get_or-set_same trays (base + to) x _ room)

lane-kept : (base j : ℕ) (trays : List Meaning) (to : ℕ) (x : Meaning) (t : ℕ) → (t ≡ to → ⊥) → lane base j (set trays (base + to) x) t ≡ lane base j trays t
lane-kept base j trays to x t apart = ap (λ (y : Meaning). get_or y.lanes j 0) (get_or-set_other trays (base + to) (base + t) x _ (λ same. apart (omega arith)))

-- f has the numbers of lane j, for each tray of the rack from the base on
abbrev Agree : ℕ → ℕ → List Meaning → (ℕ → ℕ) → Type 0
Agree base j trays f = (t : ℕ) → base + t < length trays → lane base j trays t ≡ f t

set-agree : (base j : ℕ) (trays : List Meaning) (f : ℕ → ℕ) (to n : ℕ) (x : Meaning) → Agree base j trays f → get_or x.lanes j 0 ≡ n → Agree base j (set trays (base + to) x) (put f to n)
set-agree base j trays f to n x agree is t within =
    let lt : base + t < length trays = omega (arith, length-set trays (base + to) x) in
    let written = λ (room : base + to < length trays). lane-written base j trays to x room ∙ is ∙ sym (put_same f to n) in
    let there = λ (same : t ≡ to). subst (λ (u : ℕ). lane base j (set trays (base + to) x) u ≡ put f to n u) (sym same) (written (omega arith)) in
    let elsewhere = λ (apart : t ≡ to → ⊥). lane-kept base j trays to x t apart ∙ agree t lt ∙ sym (put_other f to n t apart) in
    ⊎_elim there elsewhere (cases_eq t to)

-- ---- steps one after the other
-- f may differ past the rack: the steps name no tray there
after-agree : (m base width j : ℕ) (steps : List Step) (trays : List Meaning) (f : ℕ → ℕ) → j < width → Wide width trays → base + greatest_of steps < length trays → Agree base j trays f
    → (t : ℕ) → base + t < length trays → lane base j (after_steps m base trays steps) t ≡ after m f steps t
after-agree m base width j [] trays f lj wide room agree t within = agree t within
after-agree m base width j (s ∷ steps) trays f lj wide room agree t within =
    let a : Meaning = tray trays (base + s.a) in
    let b : Meaning = tray trays (base + s.b) in
    let x : Meaning = given m a b s.k s.op in
    let n : ℕ = computed m f s s.op in
    let ra : base + s.a < length trays = omega arith in
    let rb : base + s.b < length trays = omega arith in
    let la : length a.lanes ≡ width = wide (base + s.a) ra in
    let lb : length b.lanes ≡ width = wide (base + s.b) rb in
    let made : get_or x.lanes j 0 ≡ n = given-lane m j f a b s s.op (omega (arith, la)) (omega (arith, lb)) (agree s.a ra) (agree s.b rb) in
    let same : length (after_step m base trays s) ≡ length trays = length-set trays (base + s.to) x in
    let still : Wide width (after_step m base trays s) = set-wide width trays (base + s.to) x wide (given-width m width a b s.k s.op la lb) in
    let agrees : Agree base j (after_step m base trays s) (put f s.to n) = set-agree base j trays f s.to n x agree made in
    after-agree m base width j steps (after_step m base trays s) (put f s.to n) lj still (omega (arith, same)) agrees t (omega (arith, same))

-- ---- whole runs
pub lane-by_lane : LaneByLane
lane-by_lane m base width trays steps input out end wide li room ran j lj =
    let first : List Meaning = set trays base input in
    let last : ℕ = last_from 0 steps in
    let same : length first ≡ length trays = length-set trays base input in
    let within : base + last < length first = omega (arith, same, last_within 0 steps) in
    let still : Wide width first = set-wide width trays base input wide li in
    let shown : get_or out.lanes j 0 ≡ lane base j end last = ap (λ (y : Meaning). get_or y.lanes j 0) ran.answers in
    let done : lane base j end last ≡ lane base j (after_steps m base first steps) last = ap (λ (ts : List Meaning). lane base j ts last) ran.leaves in
    shown ∙ done ∙ after-agree m base width j steps first (lane base j first) lj still (omega (arith, same)) (λ t there. refl) last within

-- tray 0 above the base has the input
first_lane : (base j : ℕ) (trays : List Meaning) (input : Meaning) → base < length trays → lane base j (set trays base input) 0 ≡ get_or input.lanes j 0
first_lane base j trays input within =
    let none : base + 0 ≡ base = omega arith in
    ap (λ (u : ℕ). get_or (tray (set trays base input) u).lanes j 0) none ∙ ap (λ (n : Meaning). get_or n.lanes j 0) (get_or-set_same trays base input _ within)

pub due_lanes : DueLanes
due_lanes p e base width copy kind trays steps input out end wide li room issued ran j lj =
    let f : ℕ → ℕ = lane base j (set trays base input) in
    let x : ℕ = get_or input.lanes j 0 in
    let first : f 0 ≡ x = first_lane base j trays input (omega arith) in
    let same : get_or out.lanes j 0 ≡ answer (p ^ e) f steps = lane-by_lane (p ^ e) base width trays steps input out end wide li room ran j lj in
    record {
      in_place = λ within. same ∙ issued.places f (omega (arith, first)) ∙ ap (λ (n : ℕ). get_or copy n 0) first;
      below = omega (arith, same, (issued.computes issued.planned.form_of issued.planned.reported).below f);
      beyond = λ c reported. subst₂ (λ (y n : ℕ). Cong (p ^ e) (pos y) (value (form c) (pos n))) (sym same) first ((issued.computes c reported).agrees f);
    }
