-- The laws of every plan: it computes the reported polynomial, passes the step check, and is the only one of its kind. Assumes nothing.
use Rattle.std.proofs.Common.{◌≡◌, ℕ, ◌^◌, ◌<◌, ◌≤◌, List, length, get_or, ℤ, sym, ap, ◌∙◌, subst, arith}
use Rattle.modulus.specs.Moduli.{Listed}
use Rattle.modulus.specs.declared.refusal.Refusal.TheVariants.{ShortBuffer}
use Rattle.modulus.proofs.Bounds.{above_one}
use Rattle.modulus.proofs.Congruences.{cong_path, cong_sym, cong_trans, same-from_cong}
use Rattle.poly.specs.Equivalents.{Alike, SamePolynomial, ints}
use Rattle.poly.specs.Polynomial.{form}
use Rattle.poly.specs.Reduced.{Reported, SameForm, form_length}
use Rattle.poly.proofs.Coefficients.{same_alike}
use Rattle.poly.proofs.Equivalents.{same-form_alike}
use Rattle.poly.proofs.Held.{from_same}
use Rattle.poly.proofs.Reports.{reported-unique, residues}
use Rattle.poly.proofs.Standing.{form_length-past}
use Rattle.fit.specs.Standing.{power_of, stands}
use Rattle.fit.specs.declared.table.Fit.{Fit}
use Rattle.plan.specs.Steps.{Passes, Written, depth_of, multiplications_of}
use Rattle.plan.specs.Trays.{answer}
use Rattle.plan.specs.declared.cost.Price.{Price}
use Rattle.plan.specs.declared.step.Step.{Step}
use Rattle.planner.specs.Layout.{Layout, block, ladder}
use Rattle.planner.specs.Plans.{Computes, Issued, NoPlan, no_room, Planned, Priced, Sized}
use Rattle.planner.specs.declared.kind.Kind.{Kind}
use Rattle.planner.specs.declared.kind.Kind.TheVariants.{Ladder, Block}
use Rattle.planner.proofs.Blocks.{block-computes}
use Rattle.planner.proofs.Forms.{block_same, form_length-same, form-past, form-same, ladder-same}
use Rattle.planner.proofs.Ladders.{ladder-computes}
use Rattle.planner.proofs.Passing.{block-passes, block-spares, ladder-passes, ladder-spares, reduced-below, reduced-few}

-- ---- what a plan computes
computes-as : (m : ℕ) (f g : List ℤ) (steps : List Step) → Alike m f g → Computes m f steps → Computes m g steps
computes-as m f g steps alike h = record { below = h.below; agrees = λ trays. cong_trans (h.agrees trays) (alike (trays 0)) }

-- coefficients in powers of X, each below m, are 0 from the form's length on
powers-past : (m : ℕ) → 0 < m → (a c : List ℕ) → SamePolynomial m (ints a) (form c) → ((k : ℕ) → get_or a k 0 < m) → (i : ℕ) → form_length c ≤ i → get_or a i 0 ≡ 0
powers-past m some a c same below i l = same-from_cong (cong_trans (from_same m (form c) a same i) (cong_path m (form-past c i l))) (below i) some

layout_computes : (m : ℕ) → 0 < m → (c : List ℕ) (kind : Kind) (steps : List Step) → Sized kind → Layout m c kind steps → Computes m (form c) steps
layout_computes m some c Ladder steps sized is =
    subst (λ (xs : List Step). Computes m (form c) xs) (sym is) (ladder-computes m some c (form_length c) (form_length-past c))
layout_computes m some c (Block s) steps sized (a, same, below, is) =
    subst (λ (xs : List Step). Computes m (form c) xs) (sym is)
    (computes-as m (ints a) (form c) (block s a (form_length c)) (same_alike m (ints a) (form c) same)
    (block-computes m some s sized.0 a (form_length c) (powers-past m some a c same below)))

pub plan-computes : (p e : ℕ) → Listed p e → (ys : List ℕ) (kind : Kind) (steps : List Step) → Planned p e ys kind steps
    → (c : List ℕ) → Reported p e ys c → Computes (p ^ e) (form c) steps
plan-computes p e h ys kind steps plan c report =
    computes-as (p ^ e) (form plan.form_of) (form c) steps
    (same-form_alike (p ^ e) plan.form_of c (reported-unique p e ys plan.form_of c plan.reported report))
    (layout_computes (p ^ e) (omega (arith, above_one p e h)) plan.form_of kind steps plan.sized plan.laid_out)

-- at the place of a value the plan answers the value
pub plan-places : (p e : ℕ) → Listed p e → (ys : List ℕ) (kind : Kind) (steps : List Step) → Planned p e ys kind steps
    → (trays : ℕ → ℕ) → trays 0 < length ys → get_or ys (trays 0) 0 < p ^ e → answer (p ^ e) trays steps ≡ get_or ys (trays 0) 0
plan-places p e h ys kind steps plan trays within small =
    let made = plan-computes p e h ys kind steps plan plan.form_of plan.reported in
    same-from_cong (cong_trans (made.agrees trays) (plan.reported.takes (trays 0) within)) (made.below trays) small

-- ---- the step check
layout_passes : (m : ℕ) → 0 < m → (c : List ℕ) (kind : Kind) (steps : List Step) → form_length c ≤ 52 → ((k : ℕ) → get_or c k 0 < m) → Sized kind
    → Layout m c kind steps → Passes m steps × (Written steps 0 → ⊥)
layout_passes m some c Ladder steps few below sized is =
    subst (λ (xs : List Step). Passes m xs × (Written xs 0 → ⊥)) (sym is) (ladder-passes m some c (form_length c) few below, ladder-spares m c (form_length c))
layout_passes m some c (Block s) steps few below sized (a, same, small, is) =
    subst (λ (xs : List Step). Passes m xs × (Written xs 0 → ⊥)) (sym is)
    (block-passes m some s sized.0 sized.1 a (form_length c) few small, block-spares s sized.0 a (form_length c))

pub plan-passes : (p e : ℕ) → Listed p e → (ys : List ℕ) (kind : Kind) (steps : List Step) → Planned p e ys kind steps → Passes (p ^ e) steps × (Written steps 0 → ⊥)
plan-passes p e h ys kind steps plan =
    let c = plan.form_of in
    let red = plan.reported.reduced in
    layout_passes (p ^ e) (omega (arith, above_one p e h)) c kind steps (reduced-few p e h c red) (reduced-below p e h c red) plan.sized plan.laid_out

-- ---- all that a plan owes for values below the modulus
pub plan-issued : (p e : ℕ) → Listed p e → (ys : List ℕ) (kind : Kind) (steps : List Step) → ((i : ℕ) → i < length ys → get_or ys i 0 < p ^ e) → Planned p e ys kind steps
    → Issued p e ys kind steps
plan-issued p e h ys kind steps small plan =
    let passing = plan-passes p e h ys kind steps plan in
    record {
      planned = plan;
      passes = passing.0;
      spares = passing.1;
      computes = plan-computes p e h ys kind steps plan;
      places = λ trays within. plan-places p e h ys kind steps plan trays within (small (trays 0) within);
    }

-- a plan that is laid out for what stands in a fit owes all that a plan owes
pub stands-issued : (f : Fit) (kind : Kind) (steps : List Step) → Planned f.modulus.prime f.modulus.exponent (stands f) kind steps
    → Issued f.modulus.prime f.modulus.exponent (stands f) kind steps
stands-issued f kind steps plan =
    let m = f.modulus in
    let some = above_one m.prime m.exponent m.listed in
    plan-issued m.prime m.exponent m.listed (stands f) kind steps (λ i _. residues (power_of m) f.coefficients f.count (omega (arith, some)) i) plan

-- ---- one plan
layout_same : (m : ℕ) (c d : List ℕ) (kind : Kind) (steps others : List Step) → SameForm c d → Layout m c kind steps → Layout m d kind others → steps ≡ others
layout_same m c d Ladder steps others same is are =
    is ∙ ladder-same m c d (form_length c) same ∙ ap (λ (n : ℕ). ladder m d n) (form_length-same c d same) ∙ sym are
layout_same m c d (Block s) steps others same (a, sa, ba, is) (b, sb, bb, are) =
    is ∙ block_same s a b (form_length c) each ∙ ap (λ (n : ℕ). block s b n) (form_length-same c d same) ∙ sym are
  where
    each : (k : ℕ) → get_or a k 0 ≡ get_or b k 0
    each k =
        same-from_cong (cong_trans (from_same m (form c) a sa k) (cong_trans (cong_path m (form-same c d same k)) (cong_sym (from_same m (form d) b sb k)))) (ba k) (bb k)

pub one_plan : (p e : ℕ) (ys : List ℕ) (kind : Kind) (steps others : List Step) → Planned p e ys kind steps → Planned p e ys kind others → steps ≡ others
one_plan p e ys kind steps others plan other =
    layout_same (p ^ e) plan.form_of other.form_of kind steps others
    (reported-unique p e ys plan.form_of other.form_of plan.reported other.reported) plan.laid_out other.laid_out

-- the buffer that the plan was copied into begins with it
pub issued_as : (p e : ℕ) (ys : List ℕ) (kind : Kind) (steps xs : List Step) → Issued p e ys kind steps → xs ≡ steps → Issued p e ys kind xs
issued_as p e ys kind steps xs issued same = subst (λ (xs : List Step). Issued p e ys kind xs) (sym same) issued

pub priced_as : (steps xs : List Step) (price : Price) → xs ≡ steps → price.steps ≡ length steps → price.multiplications ≡ multiplications_of steps → price.depth ≡ depth_of 1 0 steps → Priced xs price
priced_as steps xs price same all multiply deep = subst (λ (xs : List Step). Priced xs price) (sym same) (record { all = all; multiply = multiply; deep = deep })

-- the buffer is too short for the plan
pub short : (p e : ℕ) (ys : List ℕ) (kind : Kind) (room : ℕ) (steps : List Step) → Issued p e ys kind steps → room < length steps → NoPlan p e ys room kind (ShortBuffer (length steps))
short p e ys kind room steps issued less = no_room issued.planned less
