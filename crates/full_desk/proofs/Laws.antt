-- The two laws of the book: it leaves nothing open, and the values of a reduced form lead back to it. Assumes nothing.
use Rattle.std.proofs.Common.{◌≡◌, ℕ, suc, ◌%◌, ◌^◌, ◌<◌, List, [], ◌∷◌, ◌++◌, length, get_or, Ok, Err, Result, sym, refl, ap, ◌∙◌, subst, arith}
use Rattle.std.proofs.lemmas.List.{same_from_push}
use Rattle.modulus.specs.Moduli.{Listed}
use Rattle.modulus.specs.declared.refusal.Refusal.{Refusal}
use Rattle.modulus.specs.declared.refusal.Refusal.TheVariants.{ShortBuffer}
use Rattle.poly.specs.Reduced.{Reduced, Reported, value_at, standing}
use Rattle.poly.proofs.Standing.{length-standing, form_length-past}
use Rattle.poly.proofs.Reports.{reported, reported-unique}
use Rattle.fit.specs.Rules.{NoOffer, Offered}
use Rattle.fit.specs.declared.table.offer.Accepted.{Accepted}
use Rattle.fit.proofs.Offers.{no_offer_same}
use Rattle.desk.proofs.Laws.{no_withdrawal_same, accepted-same, offered-same, coefficient-reported, not_refused}
use Rattle.plan.specs.declared.cost.Price.{Price}
use Rattle.plan.specs.declared.step.Step.{Step}
use Rattle.planner.specs.Plans.{NoPlan, no_size, no_room, Priced}
use Rattle.planner.specs.declared.kind.Kind.{Kind}
use Rattle.planner.proofs.Plans.{one_plan}
use Rattle.rack.specs.Runs.{Meaning}
use Rattle.rack.proofs.Running.{no_run_same, runs_same}
use Rattle.full_desk.specs.Book.{Asked, offer, Told, accepts, withdrew, wrote, ran, sheet, with_values, with_plan, Desk, desk, with_sheet, with_trays, begins, part, room, written, Refuses, refuses_offer, refuses_withdrawal, refuses_plan, refuses_run, Gives, stands_now, goes, issued, run_through, Due, turned_away, answered, Book, closed, entry}
use Rattle.full_desk.specs.Law.{Decided, LeadsBack, accepted}
use Rattle.desk.proofs.Walks.{Walk, done, step, walks_same, values-taken}

-- ---- one refusal for one use
pub no_plan_same : (p e : ℕ) (ys : List ℕ) (most : ℕ) (kind : Kind) (f g : Refusal) → NoPlan p e ys most kind f → NoPlan p e ys most kind g → f ≡ g
no_plan_same p e ys most kind f g (no_size a) (no_size b) = refl
no_plan_same p e ys most kind f g (no_size a) (no_room b c) = absurd (a b.sized)
no_plan_same p e ys most kind f g (no_room a b) (no_size c) = absurd (c a.sized)
no_plan_same p e ys most kind f g (no_room {steps} a b) (no_room {steps = others} c d) =
    ap (λ (xs : List Step). ShortBuffer (length xs)) (one_plan p e ys kind steps others a c)

pub refuses-same : (d : Desk) (u : Asked) (f g : Refusal) (t t' : Desk) → Refuses d u f t → Refuses d u g t' → (f ≡ g) × (t ≡ t')
refuses-same d u f g t t' (refuses_offer {y} a) (refuses_offer b) = (no_offer_same (d.sheet.prime ^ d.sheet.exponent) d.sheet.values y f g a b, refl)
refuses-same d u f g t t' (refuses_withdrawal a) (refuses_withdrawal b) = (no_withdrawal_same d.sheet.values f g a b, refl)
refuses-same d u f g t t' (refuses_plan {kind} {start} {count} a) (refuses_plan b) =
    (no_plan_same d.sheet.prime d.sheet.exponent d.sheet.values (room d.steps start count) kind f g a b, refl)
refuses-same d u f g t t' (refuses_run {p} {e} {start} {count} {input} {after} a) (refuses_run {after = after'} b) =
    let same : (f ≡ g) × (after ≡ after') = no_run_same p e (part d.steps start count) d.out d.trays input f g after after' a b in
    (same.0, ap (λ (l : List Meaning). with_trays d l) same.1)

-- ---- one answer for one use
-- the price of a list is what it says
pub priced_same : (steps : List Step) (a b : Price) → Priced steps a → Priced steps b → a ≡ b
priced_same steps a b h k =
    ap (λ (n : ℕ). of n a.multiplications a.depth) (h.all ∙ sym k.all)
    ∙ ap (λ (n : ℕ). of b.steps n a.depth) (h.multiply ∙ sym k.multiply) ∙ ap (λ (n : ℕ). of b.steps b.multiplications n) (h.deep ∙ sym k.deep)
  where
    of : ℕ → ℕ → ℕ → Price
    of steps multiplications depth = record { steps = steps; multiplications = multiplications; depth = depth }

pub gives_same : (d : Desk) (u : Asked) (a b : Told) (t t' : Desk) → Gives d u a t → Gives d u b t' → (a ≡ b) × (t ≡ t')
gives_same d u a b t t' (stands_now {y} {a = x} h) (stands_now {a = z} k) =
    (ap (λ (r : Accepted). accepts r) (offered-same d.sheet.prime d.sheet.exponent d.sheet.values y x z h k), refl)
gives_same d u a b t t' (goes {ys} {y} h) (goes {ys = zs} {y = z} k) =
    let same : (ys ≡ zs) × (y ≡ z) = same_from_push ys zs y z (sym h ∙ k) in
    (ap (λ (r : ℕ). withdrew r) same.1, ap (λ (l : List ℕ). with_sheet d (with_values d.sheet l)) same.0)
gives_same d u a b t t' (issued {kind} {start} {count} {steps} {price} h p l) (issued {steps = others} {price = q} k r m) =
    let same : steps ≡ others = one_plan d.sheet.prime d.sheet.exponent d.sheet.values kind steps others h.planned k.planned in (
      ap (λ (x : Price). wrote x) (priced_same others price q (subst (λ (xs : List Step). Priced xs price) same p) r),
      ap (λ (xs : List Step). desk (with_plan d.sheet xs) (written d.steps (begins d.steps start) xs) d.out d.trays) same,
    )
gives_same d u a b t t' (run_through {p} {e} {start} {count} {input} {answer} {after} h l) (run_through {answer = answer'} {after = after'} k r) =
    let same : (answer ≡ answer') × (after ≡ after') = runs_same p e (part d.steps start count) d.out d.trays input answer answer' after after' h k in
    (ap (λ (x : Meaning). ran x) same.0, ap (λ (x : List Meaning). with_trays d x) same.1)

pub due_same : (d : Desk) (u : Asked) (a b : Result Told Refusal) (t t' : Desk) → Due d u a t → Due d u b t' → (a ≡ b) × (t ≡ t')
due_same d u a b t t' (turned_away {f} h) (turned_away {f = g} k) =
    let same : (f ≡ g) × (t ≡ t') = refuses-same d u f g t t' h k in
    (ap (λ (r : Refusal). Err r) same.0, same.1)
due_same d u a b t t' (turned_away {f} h) (answered no-refusal k) = absurd (no-refusal f t h)
due_same d u a b t t' (answered no-refusal h) (turned_away {f} k) = absurd (no-refusal f t' k)
due_same d u a b t t' (answered {a = x} l h) (answered {a = z} r k) =
    let same : (x ≡ z) × (t ≡ t') = gives_same d u x z t t' h k in
    (ap (λ (q : Told). Ok q) same.0, same.1)

-- a book is a walk by what is due
walk : {d end : Desk} {us : List Asked} {answers : List (Result Told Refusal)} → Book d us answers end → Walk Due d us answers end
walk closed = done
walk (entry first rest) = step first (walk rest)

pub decided : Decided
decided s end end' us answers answers' h k = walks_same Due due_same us s end end' answers answers' (walk h) (walk k)

-- an offer that no rule refuses is accepted
pub due_offer : (d : Desk) (y : ℕ) (a : Result Told Refusal) (end : Desk)
    → ((f : Refusal) → NoOffer (d.sheet.prime ^ d.sheet.exponent) d.sheet.values y f → ⊥) → Due d (offer y) a end
    → (x : Accepted) × Offered d.sheet.prime d.sheet.exponent d.sheet.values y x.place x.coefficient × (a ≡ Ok (accepts x))
    × (end ≡ with_sheet d (with_values d.sheet (d.sheet.values ++ y ∷ [])))
due_offer d y a end h (turned_away {f} (refuses_offer k)) = absurd (h f k)
due_offer d y a end h (answered l (stands_now {a = x} k)) = (x, k, refl, refl)

-- ---- offers of the values of a reduced form
-- a desk with the first n values of d
abbrev holding : ℕ → ℕ → List ℕ → ℕ → List Step → ℕ → List Meaning → Desk
holding p e d n steps out trays = desk (sheet p e (standing (p ^ e) d n) []) steps out trays

-- so it is accepted, with d's coefficient
pub offer-accepted : (p e : ℕ) → Listed p e → (d : List ℕ) → Reduced p e d → (n : ℕ) → n < p ^ e → (steps : List Step) (out : ℕ) (trays : List Meaning) (a : Result Told Refusal) (end : Desk)
    → Due (holding p e d n steps out trays) (offer (value_at d n % p ^ e)) a end
    → (a ≡ accepted n (get_or d n 0)) × (end ≡ holding p e d (suc n) steps out trays)
offer-accepted p e h d r n l steps out trays a end k =
    let got = due_offer (holding p e d n steps out trays) (value_at d n % p ^ e) a end (not_refused p e h d n l) k in
    let x : Accepted = got.0 in
    let here : x.place ≡ n = got.1.here ∙ length-standing (p ^ e) d n in
    let c : List ℕ = got.1.reports.0 in
    let coefficient : x.coefficient ≡ get_or d n 0 =
    got.1.reports.2 ∙ ap (λ (i : ℕ). get_or c i 0) here ∙ coefficient-reported p e h d r n c got.1.reports.1 in
    (got.2 ∙ ap (λ (q : Accepted). Ok (accepts q)) (accepted-same x (record { place = n; coefficient = get_or d n 0 }) here coefficient), got.3)

pub leads_back : LeadsBack
leads_back p e h d r n l steps out trays answers end k =
    let told = λ (i : ℕ). accepted i (get_or d i 0) in
    let held = λ (i : ℕ). holding p e d i steps out trays in
    let one = λ (i : ℕ) (b : i < p ^ e). offer-accepted p e h d r i b steps out trays in
    let taken = values-taken Due (p ^ e) d (λ (y : ℕ). offer y) held told (accepted 0 0) (p ^ e) one n l answers end (walk k) in
    let stands : end.sheet.values ≡ standing (p ^ e) d n = ap (λ (s : Desk). s.sheet.values) taken.ends in (
      stands,
      taken.each,
      λ short c q.
          reported-unique p e (standing (p ^ e) d n) c d (subst (λ (ys : List ℕ). Reported p e ys c) stands q)
          (reported p e h d n r (λ i m. form_length-past d i (omega arith))),
    )
