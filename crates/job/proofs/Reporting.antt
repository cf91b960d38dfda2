-- There is only one report on given bytes. Assumes nothing.
use Rattle.std.proofs.Common.{◌≡◌, ℕ, ◌^◌, min, List, [], ◌∷◌, ◌++◌, length, Some, Option, sym, refl, ap, ◌∙◌, subst}
use Rattle.std.proofs.lemmas.List.{ext_get_or}
use Rattle.modulus.specs.Moduli.{Listed}
use Rattle.modulus.specs.declared.refusal.Refusal.{Refusal}
use Rattle.modulus.specs.declared.refusal.Refusal.TheVariants.{BadLine}
use Rattle.modulus.proofs.Bounds.{mu-unique}
use Rattle.modulus.proofs.Congruences.{cong_path, cong_sym, cong_trans, same-from_cong}
use Rattle.poly.specs.Polynomial.{form}
use Rattle.poly.specs.Reduced.{SameForm}
use Rattle.poly.proofs.Held.{from_same}
use Rattle.poly.proofs.Reports.{reported-unique}
use Rattle.fit.proofs.Offers.{no_offer_same}
use Rattle.plan.specs.Steps.{multiplications_of}
use Rattle.plan.specs.declared.step.Step.{Step}
use Rattle.planner.specs.declared.kind.Kind.TheVariants.{Ladder}
use Rattle.planner.proofs.Forms.{form-same}
use Rattle.planner.proofs.Plans.{one_plan}
use Rattle.job.specs.Report.{FiguresOf, Judged, OneReport, all_stand, judged, no_job, no_modulus, one_stands, refusal_lines, report_lines, turned_away}
use Rattle.job.specs.Text.{OneBadLine, OneJob, Says}

-- ---- the values of a job come to one end
pub judged-same : (m : ℕ) (vs ys end end' : List ℕ) (r r' : Option Refusal) → Judged m ys vs end r → Judged m ys vs end' r' → (end ≡ end') × (r ≡ r')
judged-same m [] ys end end' r r' all_stand all_stand = (refl, refl)
judged-same m (y ∷ vs) ys end end' r r' (turned_away {f} h) (turned_away {f = g} k) = (refl, ap (λ (x : Refusal). Some x) (no_offer_same m ys y f g h k))
judged-same m (y ∷ vs) ys end end' r r' (turned_away {f} h) (one_stands fits k) = absurd (fits f h)
judged-same m (y ∷ vs) ys end end' r r' (one_stands fits h) (turned_away {f} k) = absurd (fits f k)
judged-same m (y ∷ vs) ys end end' r r' (one_stands fits h) (one_stands fits' k) = judged-same m vs (ys ++ y ∷ []) end end' r r' h k

-- ---- the values that stand have one set of figures
pub figures_same : (p e : ℕ) (ys reduced reduced' powers powers' : List ℕ) (n n' : ℕ) → FiguresOf p e ys reduced powers n → FiguresOf p e ys reduced' powers' n'
    → (reduced ≡ reduced') × (powers ≡ powers') × (n ≡ n')
figures_same p e ys reduced reduced' powers powers' n n' a b =
    let same : SameForm reduced reduced' = reported-unique p e ys reduced reduced' a.reported b.reported in
    let long : length reduced ≡ length reduced' = a.long ∙ ap (λ (k : ℕ). min (length ys) k) (mu-unique p e a.mu b.mu a.least b.least) ∙ sym b.long in (
      ext_get_or 0 reduced reduced' long (λ i _. same i),
      ext_get_or 0 powers powers' (a.as_long ∙ long ∙ sym b.as_long)
          (λ i _.
          same-from_cong (cong_trans (from_same (p ^ e) (form reduced) powers a.same i)
          (cong_trans (cong_path (p ^ e) (form-same reduced reduced' same i)) (cong_sym (from_same (p ^ e) (form reduced') powers' b.same i)))) (a.below i) (b.below i)),
      a.multiply ∙ ap (λ (steps : List Step). multiplications_of steps) (one_plan p e ys Ladder a.ladder b.ladder a.planned b.planned) ∙ sym b.multiply,
    )

-- ---- one report
-- on a job with the values vs
lines_same : (p e : ℕ) (vs ys ys' reduced reduced' powers powers' : List ℕ) (n n' : ℕ) (r r' : Option Refusal) → Judged (p ^ e) [] vs ys r → FiguresOf p e ys reduced powers n
    → Judged (p ^ e) [] vs ys' r' × FiguresOf p e ys' reduced' powers' n' → report_lines (length ys) reduced powers n r ≡ report_lines (length ys') reduced' powers' n' r'
lines_same p e vs ys ys' reduced reduced' powers powers' n n' r r' j a (k, b) =
    let ends : (ys ≡ ys') × (r ≡ r') = judged-same (p ^ e) vs [] ys ys' r r' j k in
    let all : (reduced ≡ reduced') × (powers ≡ powers') × (n ≡ n') =
    figures_same p e ys reduced reduced' powers powers' n n' a (subst (λ (zs : List ℕ). FiguresOf p e zs reduced' powers' n') (sym ends.0) b) in
    ap (λ (zs : List ℕ). report_lines (length zs) reduced powers n r) ends.0 ∙ ap (λ (xs : List ℕ). report_lines (length ys') xs powers n r) all.0
    ∙ ap (λ (xs : List ℕ). report_lines (length ys') reduced' xs n r) all.1 ∙ ap (λ (k : ℕ). report_lines (length ys') reduced' powers' k r) all.2
    ∙ ap (λ (o : Option Refusal). report_lines (length ys') reduced' powers' n' o) ends.1

-- what holds of the job that the bytes are holds of it under any name
of_one_job : OneJob → (bytes : List ℕ) (p e q f : ℕ) (vs us : List ℕ) → Says bytes p e vs → Says bytes q f us → (P : ℕ → ℕ → List ℕ → Type 0) → P q f us → P p e vs
of_one_job law bytes p e q f vs us says says' P h =
    let same : (p ≡ q) × (e ≡ f) × (vs ≡ us) = (law bytes p e vs says).0 q f us says' in
    subst (λ (x : ℕ). P x e vs) (sym same.0) (subst (λ (x : ℕ). P q x vs) (sym same.1) (subst (λ (xs : List ℕ). P q f xs) (sym same.2) h))

pub one_report : OneJob → OneBadLine → OneReport
one_report law bad bytes out other (no_job {line} a) (no_job {line = k} b) = ap (λ (n : ℕ). refusal_lines (BadLine n)) (bad bytes line k a b)
one_report law bad bytes out other (no_job {line} a) (no_modulus {p} {e} {vs} says off) = absurd ((law bytes p e vs says).1 line a)
one_report law bad bytes out other (no_job {line} a) (judged {p} {e} {vs} says listed j g) = absurd ((law bytes p e vs says).1 line a)
one_report law bad bytes out other (no_modulus {p} {e} {vs} says off) (no_job {line} b) = absurd ((law bytes p e vs says).1 line b)
one_report law bad bytes out other (no_modulus says off) (no_modulus says' off') = refl
one_report law bad bytes out other (no_modulus {p} {e} {vs} says off) (judged {p = q} {e = f} {vs = us} says' listed j g) =
    absurd (off (of_one_job law bytes p e q f vs us says says' (λ (x y : ℕ) (zs : List ℕ). Listed x y) listed))
one_report law bad bytes out other (judged {p} {e} {vs} says listed j g) (no_job {line} b) = absurd ((law bytes p e vs says).1 line b)
one_report law bad bytes out other (judged {p} {e} {vs} says listed j g) (no_modulus {p = q} {e = f} {vs = us} says' off) =
    absurd (off (of_one_job law bytes q f p e us vs says' says (λ (x y : ℕ) (zs : List ℕ). Listed x y) listed))
one_report law bad bytes out other (judged {p} {e} {vs} {ys} {reduced} {powers} {multiplications = n} {r} says listed j g)
    (judged {p = q} {e = f} {vs = us} {ys = ys'} {reduced = reduced'} {powers = powers'} {multiplications = n'} {r = r'} says' listed' k b) =
    lines_same p e vs ys ys' reduced reduced' powers powers' n n' r r' j g
    (of_one_job law bytes p e q f vs us says says' (λ (x y : ℕ) (zs : List ℕ). Judged (x ^ y) [] zs ys' r' × FiguresOf x y ys' reduced' powers' n') (k, b))
