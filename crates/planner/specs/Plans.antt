-- What a plan for a table of values owes. Rests on the layouts, on reported forms and on what a step list computes.
use Rattle.std.specs.Prelude.{◌≡◌, ℕ, ◌^◌, ◌<◌, ◌≤◌, List, length, ℤ, pos, slice_index}
use Rattle.modulus.specs.Congruence.{Cong}
use Rattle.modulus.specs.declared.refusal.Refusal.{Refusal}
use Rattle.modulus.specs.declared.refusal.Refusal.TheVariants.{OutOfRange, ShortBuffer}
use Rattle.poly.specs.Polynomial.{value, form}
use Rattle.poly.specs.Reduced.{Reported}
use Rattle.plan.specs.Steps.{Passes, Written, depth_of, multiplications_of}
use Rattle.plan.specs.Trays.{answer}
use Rattle.plan.specs.declared.cost.Price.{Price}
use Rattle.plan.specs.declared.step.Step.{Step}
use Rattle.planner.specs.Layout.{Layout}
use Rattle.planner.specs.declared.kind.Kind.{Kind}
use Rattle.planner.specs.declared.kind.Kind.TheVariants.{Ladder, Block}

-- a block has 1 to 8 coefficients
abbrev pub Sized : Kind → Type 0
Sized Ladder = Unit {0}
Sized (Block s) = (1 ≤ s) × (s ≤ 8)

-- the steps are the plan of this kind for the values ys modulo p ^ e: the layout for the form that is reported for them
pub record Planned (p e : ℕ) (ys : List ℕ) (kind : Kind) (steps : List Step) : Type 0 where
  pub sized : Sized kind
  pub form_of : List ℕ
  pub reported : Reported p e ys form_of
  pub laid_out : Layout (p ^ e) form_of kind steps

-- whatever the trays have at first, a run of the steps modulo m answers the number below m that agrees with the value of f at what tray 0 has
pub record Computes (m : ℕ) (f : List ℤ) (steps : List Step) : Type 0 where
  pub below : (trays : ℕ → ℕ) → answer m trays steps < m
  pub agrees : (trays : ℕ → ℕ) → Cong m (pos (answer m trays steps)) (value f (pos (trays 0)))

-- what is answered for a step list: its number of steps, how many of them multiply, and its depth
pub record Priced (steps : List Step) (price : Price) : Type 0 where
  pub all : price.steps ≡ length steps
  pub multiply : price.multiplications ≡ multiplications_of steps
  pub deep : price.depth ≡ depth_of 1 0 steps

-- a plan that was written for the values ys: it is laid out for them, passes the step check, never writes tray 0, computes the polynomial that is reported for them,
-- and so answers each of them in its place
pub record Issued (p e : ℕ) (ys : List ℕ) (kind : Kind) (steps : List Step) : Type 0 where
  pub planned : Planned p e ys kind steps
  pub passes : Passes (p ^ e) steps
  pub spares : Written steps 0 → ⊥
  pub computes : (c : List ℕ) → Reported p e ys c → Computes (p ^ e) (form c) steps
  pub places : (trays : ℕ → ℕ) → trays 0 < length ys → answer (p ^ e) trays steps ≡ slice_index ys (trays 0)

-- the refusals of a plan for the values ys into a buffer with this room, in their order: the size of a block is not 1 to 8; the buffer is shorter than the plan
pub data NoPlan (p e : ℕ) (ys : List ℕ) (room : ℕ) : Kind → Refusal → Type 0 where
  no_size : {s : ℕ} → (Sized (Block s) → ⊥) → NoPlan p e ys room (Block s) (OutOfRange s)
  no_room : {kind : Kind} {steps : List Step} → Planned p e ys kind steps → room < length steps → NoPlan p e ys room kind (ShortBuffer (length steps))
