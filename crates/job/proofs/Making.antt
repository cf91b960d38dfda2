-- The figures of a fit and the page of a job: no call that writes the figures is refused, and what they write makes the report. Assumes nothing.
use Rattle.std.proofs.Common.{◌≡◌, ℕ, ◌^◌, ◌<◌, ◌≤◌, min, List, [], ◌++◌, length, take, Ok, Err, Option, Result, sym, refl, ap, ◌∙◌, subst, arith, MatchResult}
use Rattle.std.proofs.lemmas.List.{append-nil, drop_all, take_all}
use Rattle.std.specs.List.{refill}
use Rattle.std.specs.Result.{IsOk}
use Rattle.modulus.specs.Moduli.{Listed}
use Rattle.modulus.specs.declared.listed.Modulus.{Modulus}
use Rattle.modulus.specs.declared.refusal.Refusal.{Refusal}
use Rattle.modulus.specs.declared.refusal.Refusal.TheVariants.{Unlisted}
use Rattle.modulus.proofs.Congruences.{cong_path, cong_trans}
use Rattle.poly.specs.Reduced.{Reported}
use Rattle.poly.proofs.Reports.{reported-unique}
use Rattle.poly.proofs.Standing.{length-standing}
use Rattle.fit.specs.Standing.{WrittenPowers, power_of, report_length, stands}
use Rattle.fit.specs.declared.table.Fit.{Fit}
use Rattle.plan.specs.Steps.{multiplications_of}
use Rattle.plan.specs.declared.step.Step.{Step}
use Rattle.planner.specs.Plans.{NoPlan, no_room, Planned}
use Rattle.planner.specs.declared.kind.Kind.TheVariants.{Ladder}
use Rattle.planner.proofs.Forms.{form-same}
use Rattle.planner.proofs.Plans.{plan-passes}
use Rattle.job.specs.Forms.{figures_text}
use Rattle.job.specs.Report.{FiguresOf, Judged, Reports, judged, no_modulus, refusal_lines, report_lines}
use Rattle.job.specs.Text.{Says}
use Rattle.job.specs.declared.page.Figures.{Figures}

-- ---- no refusal
-- a call is answered where no refusal of it can be
pub answered : {T E : Type 0} (r : Result T E) (P : T → Type 0) (Q : E → Type 0) → MatchResult r P Q → ((e : E) → Q e → ⊥) → IsOk r
answered (Ok x) P Q h never = refl
answered (Err e) P Q h never = absurd (never e h)

-- a buffer with room is not refused as too short
pub not_short : (needed room : ℕ) (r : Result ℕ Refusal) (P : ℕ → Type 0) (Q R : Refusal → Type 0) → needed ≤ room
    → MatchResult r P (λ (f : Refusal). Q f × (room < needed) × R f) → (n : ℕ) × (r ≡ Ok n) × P n
not_short needed room (Ok n) P Q R fits h = (n, refl, h)
not_short needed room (Err f) P Q R fits (is, short, same) = absurd (omega arith)

-- every ladder has room in 160 steps
pub ladder-fits : (p e : ℕ) → Listed p e → (ys : List ℕ) (f : Refusal) → NoPlan p e ys 160 Ladder f → ⊥
ladder-fits p e h ys f (no_room {steps} plan short) = omega (arith, (plan-passes p e h ys Ladder steps plan).0.few)

-- ---- what was written makes the figures
-- a vector that lent its elements to be written, cut to the first n of them
pub written_first : (n : ℕ) (lent written cut : List ℕ) → cut ≡ take n (refill (length lent) lent written) → length written ≡ length lent → cut ≡ take n written
written_first n lent written cut is same =
    is
    ∙ ap (λ (xs : List ℕ). take n (take (length lent) (written ++ xs))) (drop_all (length written) lent (omega arith))
    ∙ ap (λ (xs : List ℕ). take n xs) (ap (λ (xs : List ℕ). take (length lent) xs) (append-nil written) ∙ take_all (length lent) written (omega arith))

pub figures_made : (f : Fit) (multiplications : ℕ) (reduced powers : List ℕ) → length reduced ≡ report_length f → length powers ≡ report_length f
    → Reported f.modulus.prime f.modulus.exponent (stands f) reduced → WrittenPowers f powers
    → (ladder : List Step) × Planned f.modulus.prime f.modulus.exponent (stands f) Ladder ladder × (multiplications ≡ multiplications_of ladder)
    → FiguresOf f.modulus.prime f.modulus.exponent (stands f) reduced powers multiplications
figures_made f multiplications reduced powers long long' report written (ladder, planned, multiply) =
    let m = f.modulus in
    record {
      reported = report;
      mu = m.mu;
      least = m.least;
      long = long ∙ ap (λ (k : ℕ). min k m.mu) (sym (length-standing (power_of m) f.coefficients f.count));
      as_long = long' ∙ sym long;
      same = λ k. cong_trans (written.is k)
          (cong_path (power_of m) (form-same written.form_of reduced (reported-unique m.prime m.exponent (stands f) written.form_of reduced written.reported report) k));
      below = written.below;
      ladder = ladder;
      planned = planned;
      multiply = multiply;
    }

-- ---- the page of a job
pub off_the_list : (p e : ℕ) (vs : List ℕ) (f : Refusal) → (Listed p e → ⊥) → f ≡ Unlisted → (bytes : List ℕ) → Says bytes p e vs → Reports bytes (refusal_lines f)
off_the_list p e vs f off is bytes says = subst (λ (x : Refusal). Reports bytes (refusal_lines x)) (sym is) (no_modulus says off)

-- the fit g was opened with p and e; h is what the offers of the values make of it
pub page_judged : (p e : ℕ) (g h : Fit) (vs : List ℕ) (r : Option Refusal) (a : Figures) → Listed p e → g.modulus.prime ≡ p → g.modulus.exponent ≡ e → stands g ≡ []
    → h.modulus ≡ g.modulus → Judged (power_of g.modulus) (stands g) vs (stands h) r → a.standing ≡ length (stands h) → a.refusal ≡ r
    → FiguresOf h.modulus.prime h.modulus.exponent (stands h) a.reduced.items a.powers.items a.multiplications
    → (bytes : List ℕ) → Says bytes p e vs → Reports bytes (figures_text a)
page_judged p e g h vs r a listed prime exponent empty same offers standing refusal made bytes says =
    let reduced : List ℕ = a.reduced.items in
    let powers : List ℕ = a.powers.items in
    let with-list : Judged (p ^ e) [] vs (stands h) r =
    subst (λ (q : ℕ). Judged (q ^ e) [] vs (stands h) r) prime
    (subst (λ (k : ℕ). Judged (g.modulus.prime ^ k) [] vs (stands h) r) exponent
    (subst (λ (ys : List ℕ). Judged (power_of g.modulus) ys vs (stands h) r) empty offers)) in
    let figures : FiguresOf p e (stands h) reduced powers a.multiplications =
    subst (λ (q : ℕ). FiguresOf q e (stands h) reduced powers a.multiplications) (ap (λ (m : Modulus). m.prime) same ∙ prime)
    (subst (λ (k : ℕ). FiguresOf h.modulus.prime k (stands h) reduced powers a.multiplications) (ap (λ (m : Modulus). m.exponent) same ∙ exponent) made) in
    subst (λ (n : ℕ). Reports bytes (report_lines n reduced powers a.multiplications a.refusal)) (sym standing)
    (subst (λ (x : Option Refusal). Reports bytes (report_lines (length (stands h)) reduced powers a.multiplications x)) (sym refusal) (judged says listed with-list figures))
