-- What the fit's own promises give for the book: one use, and one entry more. Assumes nothing.
use Rattle.std.proofs.Common.{◌≡◌, ℕ, ◌≤◌, List, [], ◌∷◌, ◌++◌, length, Ok, Err, Result, sym, refl, ap, ◌∙◌, subst, arith}
use Rattle.std.proofs.lemmas.List.{get_or_append_left, get_or_push, length_push}
use Rattle.modulus.specs.declared.listed.Modulus.{Modulus}
use Rattle.modulus.specs.declared.refusal.Refusal.{Refusal}
use Rattle.poly.proofs.Points.{below_suc}
use Rattle.poly.proofs.Reports.{reported}
use Rattle.fit.specs.Rules.{Offered}
use Rattle.fit.specs.Standing.{stands}
use Rattle.fit.specs.declared.table.Fit.{Fit}
use Rattle.fit.specs.declared.table.offer.Accepted.{Accepted}
use Rattle.fit.proofs.Offers.{not_both}
use Rattle.desk.proofs.Books.{some_stands}
use Rattle.plan.specs.declared.cost.Price.{Price}
use Rattle.plan.specs.declared.step.Step.{Step}
use Rattle.planner.specs.Plans.{Issued, NoPlan, no_size, no_room, Planned, Priced}
use Rattle.planner.specs.declared.kind.Kind.{Kind}
use Rattle.planner.proofs.Plans.{one_plan}
use Rattle.rack.specs.Lanes.{Wide}
use Rattle.rack.specs.Runs.{Meaning, NoRun, Runs}
use Rattle.rack.proofs.Laning.{due_lanes}
use Rattle.rack.proofs.Running.{run_not_refused}
use Rattle.full_desk.specs.Book.{Asked, offer, withdraw, plan, run, Told, accepts, withdrew, wrote, ran, Issue, Sheet, sheet, fresh, with_plan, Desk, desk, with_sheet, begins, part, room, written, issue_at, Owes, Refuses, refuses_offer, refuses_withdrawal, refuses_plan, refuses_run, stands_now, goes, issued, run_through, Due, turned_away, answered, Book, closed, entry}
use Rattle.full_desk.specs.Desk.{sheet_of, Sound, Performed, Booked, CarriedOut}

-- ---- no accepted offer is refused
offer-not_refused : (d : Desk) (y i c : ℕ) → Offered d.sheet.prime d.sheet.exponent d.sheet.values y i c → (f : Refusal) (t : Desk) → Refuses d (offer y) f t → ⊥
offer-not_refused d y i c h f t (refuses_offer no-offer) = not_both d.sheet.prime d.sheet.exponent d.sheet.values y i c f h no-offer

withdrawal_not_refused : (d : Desk) (zs : List ℕ) (y : ℕ) → d.sheet.values ≡ zs ++ y ∷ [] → (f : Refusal) (t : Desk) → Refuses d withdraw f t → ⊥
withdrawal_not_refused d zs y e f t (refuses_withdrawal h) = some_stands d.sheet.values zs y f e h

-- ---- nor is a plan that was written
pub plan-fits : (p e : ℕ) (ys : List ℕ) (kind : Kind) (steps : List Step) (most : ℕ) (f : Refusal) → Planned p e ys kind steps → length steps ≤ most → NoPlan p e ys most kind f → ⊥
plan-fits p e ys kind steps most f made fits (no_size never) = never made.sized
plan-fits p e ys kind steps most f made fits (no_room {steps = others} other short) = omega (arith, ap length (one_plan p e ys kind steps others made other))

plan-not_refused : (d : Desk) (kind : Kind) (start count : ℕ) (steps : List Step) → Planned d.sheet.prime d.sheet.exponent d.sheet.values kind steps
    → length steps ≤ room d.steps start count → (f : Refusal) (t : Desk) → Refuses d (plan kind start count) f t → ⊥
plan-not_refused d kind start count steps made fits f t (refuses_plan no-plan) =
    plan-fits d.sheet.prime d.sheet.exponent d.sheet.values kind steps (room d.steps start count) f made fits no-plan

-- ---- nor a run that was answered
answered-not_refused : (d : Desk) (p e start count : ℕ) (input x : Meaning) (after : List Meaning) → Runs p e (part d.steps start count) d.out d.trays input x after
    → (f : Refusal) (t : Desk) → Refuses d (run p e start count input) f t → ⊥
answered-not_refused d p e start count input x after h f t (refuses_run {after = other} no_run) =
    run_not_refused p e (part d.steps start count) d.out d.trays input x after other f h no_run

-- ---- sound lists of plans
pub sound_none : (f : Fit) → Sound f []
sound_none f k within = absurd (omega arith)

-- they stay so where the modulus stays
same-sound : (f g : Fit) (plans : List Issue) → g.modulus ≡ f.modulus → Sound f plans → Sound g plans
same-sound f g plans modulus sound k within =
    let here = sound k within in
    (here.0, subst (λ (m : Modulus). Issued m.prime m.exponent (issue_at plans k).copy here.0 (issue_at plans k).steps) (sym modulus) here.1)

-- and with one plan more
one_sound : (f : Fit) (plans : List Issue) (kind : Kind) (made : List Step) → Issued f.modulus.prime f.modulus.exponent (stands f) kind made → Sound f plans
    → Sound f (with_plan (sheet_of f plans) made).plans
one_sound f plans kind made plan-is sound k within =
    let new : Issue = record { steps = made; copy = stands f } in
    let none : Issue = record { steps = []; copy = [] } in
    let p = f.modulus.prime in
    let e = f.modulus.exponent in
    below_suc (λ (i : ℕ). (kind : Kind) × Issued p e (issue_at (plans ++ new ∷ []) i).copy kind (issue_at (plans ++ new ∷ []) i).steps) (length plans)
    (λ i l. subst (λ (x : Issue). (kind : Kind) × Issued p e x.copy kind x.steps) (sym (get_or_append_left plans (new ∷ []) none i l)) (sound i l))
    (subst (λ (x : Issue). (kind : Kind) × Issued p e x.copy kind x.steps) (sym (get_or_push plans new none (length plans) refl)) (kind, plan-is))
    k (omega (arith, length_push plans new))

-- ---- one use
sheet-is : (f g : Fit) (ys : List ℕ) (plans : List Issue) → g.modulus ≡ f.modulus → stands g ≡ ys → sheet f.modulus.prime f.modulus.exponent ys plans ≡ sheet_of g plans
sheet-is f g ys plans modulus is =
    ap (λ (m : Modulus). sheet m.prime m.exponent ys plans) (sym modulus) ∙ ap (λ (zs : List ℕ). sheet g.modulus.prime g.modulus.exponent zs plans) (sym is)

module _ (out : ℕ) (trays : List Meaning) where
  pub offer-due : (f g : Fit) (steps : List Step) (y : ℕ) (a : Accepted) → g.modulus ≡ f.modulus → Offered f.modulus.prime f.modulus.exponent (stands f) y a.place a.coefficient
      → stands g ≡ stands f ++ y ∷ [] → Performed out f steps trays (offer y) (Ok (accepts a)) g steps trays
  offer-due f g steps y a modulus h is plans sound =
      let d = desk (sheet_of f plans) steps out trays in (
        plans,
        same-sound f g plans modulus sound,
        subst (λ (t : Sheet). Due d (offer y) (Ok (accepts a)) (with_sheet d t)) (sheet-is f g (stands f ++ y ∷ []) plans modulus is)
            (answered (offer-not_refused d y a.place a.coefficient h) (stands_now h)),
      )

  pub withdrawal_due : (f g : Fit) (steps : List Step) (y : ℕ) → g.modulus ≡ f.modulus → stands f ≡ stands g ++ y ∷ [] → Performed out f steps trays withdraw (Ok (withdrew y)) g steps trays
  withdrawal_due f g steps y modulus is plans sound =
      let d = desk (sheet_of f plans) steps out trays in (
        plans,
        same-sound f g plans modulus sound,
        subst (λ (t : Sheet). Due d withdraw (Ok (withdrew y)) (with_sheet d t)) (sheet-is f g (stands g) plans modulus refl)
            (answered (withdrawal_not_refused d (stands g) y is) (goes is)),
      )

  pub plan_due : (f : Fit) (steps steps' : List Step) (kind : Kind) (start count : ℕ) (price : Price) (made : List Step)
      → Issued f.modulus.prime f.modulus.exponent (stands f) kind made → Priced made price → length made ≤ room steps start count
      → steps' ≡ written steps (begins steps start) made → Performed out f steps trays (plan kind start count) (Ok (wrote price)) f steps' trays
  plan_due f steps steps' kind start count price made plan-is priced fits is plans sound =
      let d = desk (sheet_of f plans) steps out trays in (
        (with_plan (sheet_of f plans) made).plans,
        one_sound f plans kind made plan-is sound,
        subst (λ (xs : List Step). Due d (plan kind start count) (Ok (wrote price)) (desk (with_plan (sheet_of f plans) made) xs out trays)) (sym is)
            (answered (plan-not_refused d kind start count made plan-is.planned fits) (issued plan-is priced fits)),
      )

  -- a run of an issued plan answers what is due for each lane
  run_owes : (f : Fit) (plans : List Issue) (p e width : ℕ) (steps : List Step) (input x : Meaning) (after : List Meaning) → Sound f plans → Wide width trays → length input.lanes ≡ width
      → Runs p e steps out trays input x after → Owes (sheet_of f plans) p e steps input x
  run_owes f plans p e width steps input x after sound wide long h prime exponent k within is j lane =
      let copy : List ℕ = (issue_at plans k).copy in
      let here = sound k within in
      let kind : Kind = here.0 in
      let made : Issued p e copy kind steps =
      subst (λ (xs : List Step). Issued p e copy kind xs) is
      (subst (λ (q : ℕ). Issued q e copy kind (issue_at plans k).steps) (sym prime)
      (subst (λ (n : ℕ). Issued f.modulus.prime n copy kind (issue_at plans k).steps) (sym exponent) here.1)) in
      due_lanes p e out width copy kind trays steps input x after wide long (omega (arith, h.room)) made h.ran j (omega (arith, long))

  pub run_due : (f : Fit) (steps : List Step) (trays' : List Meaning) (p e start count width : ℕ) (input x : Meaning) → Wide width trays → length input.lanes ≡ width
      → Runs p e (part steps start count) out trays input x trays' → Performed out f steps trays (run p e start count input) (Ok (ran x)) f steps trays'
  run_due f steps trays' p e start count width input x wide long h plans sound =
      let d = desk (sheet_of f plans) steps out trays in
      (plans, sound, answered (answered-not_refused d p e start count input x trays' h) (run_through h (run_owes f plans p e width (part steps start count) input x trays' sound wide long h)))

  pub run_refused : (f : Fit) (steps : List Step) (trays' : List Meaning) (p e start count : ℕ) (input : Meaning) (r : Refusal)
      → NoRun p e (part steps start count) out trays input r trays' → Performed out f steps trays (run p e start count input) (Err r) f steps trays'
  run_refused f steps trays' p e start count input r h plans sound = (plans, sound, turned_away (refuses_run h))

  pub refused-due : (f g : Fit) (steps steps' : List Step) (u : Asked) (r : Refusal) → g ≡ f → steps' ≡ steps
      → ((plans : List Issue) → Refuses (desk (sheet_of f plans) steps out trays) u r (desk (sheet_of f plans) steps out trays))
      → Performed out f steps trays u (Err r) g steps' trays
  refused-due f g steps steps' u r same stay h plans sound =
      let d = desk (sheet_of f plans) steps out trays in (
        plans,
        same-sound f g plans (ap (λ (x : Fit). x.modulus) same) sound,
        subst (λ (x : Fit). Due d u (Err r) (desk (sheet_of x plans) steps' out trays)) (sym same)
            (subst (λ (xs : List Step). Due d u (Err r) (desk (sheet_of f plans) xs out trays)) (sym stay) (turned_away (h plans))),
      )

-- ---- one entry more
pub book-more : {s mid end : Desk} {us : List Asked} {answers : List (Result Told Refusal)} {u : Asked} {a : Result Told Refusal}
    → Book s us answers mid → Due mid u a end → Book s (us ++ u ∷ []) (answers ++ a ∷ []) end
book-more closed due = entry due closed
book-more (entry first rest) due = entry first (book-more rest due)

-- and so in a walk over the list of uses
pub booked_none : (out : ℕ) (f : Fit) (steps : List Step) (trays : List Meaning) → Booked out f steps trays [] [] f steps trays
booked_none out f steps trays plans sound = (plans, sound, closed)

pub booked_more : (out : ℕ) (f g h : Fit) (xs ys zs : List Step) (trays mid end : List Meaning) (us : List Asked) (answers : List (Result Told Refusal)) (u : Asked) (a : Result Told Refusal)
    → Booked out f xs trays us answers g ys mid → Performed out g ys mid u a h zs end → Booked out f xs trays (us ++ u ∷ []) (answers ++ a ∷ []) h zs end
booked_more out f g h xs ys zs trays mid end us answers u a book due plans sound =
    let before = book plans sound in
    let here = due before.0 before.1 in
    (here.0, here.1, book-more before.2 here.2)

-- ---- the whole list, from a freshly opened fit
pub carried : (p e out : ℕ) (steps steps' : List Step) (trays trays' : List Meaning) (us : List Asked) (answers : List (Result Told Refusal)) (f g : Fit)
    → f.modulus.prime ≡ p → f.modulus.exponent ≡ e → stands f ≡ []
    → Booked out f steps trays us answers g steps' trays' → CarriedOut p e out steps trays us answers g steps' trays'
carried p e out steps steps' trays trays' us answers f g prime exponent empty book =
    let start : sheet_of f [] ≡ fresh p e =
    ap (λ (q : ℕ). sheet q f.modulus.exponent (stands f) []) prime ∙ ap (λ (k : ℕ). sheet p k (stands f) []) exponent ∙ ap (λ (ys : List ℕ). sheet p e ys []) empty in
    let whole = book [] (sound_none f) in
    record {
      end = sheet_of g whole.0;
      book = subst (λ (s : Sheet). Book (desk s steps out trays) us answers (desk (sheet_of g whole.0) steps' out trays')) start whole.2;
      agrees = refl;
      reports = reported g.modulus.prime g.modulus.exponent g.modulus.listed g.coefficients g.count g.reduced g.clear;
    }
