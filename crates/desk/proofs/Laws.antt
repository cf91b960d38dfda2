-- The two laws of the book: it leaves nothing open, and the values of a reduced form lead back to it. Assumes nothing.
use Rattle.std.proofs.Common.{◌≡◌, ℕ, suc, ◌%◌, ◌^◌, ◌<◌, List, [], ◌∷◌, ◌++◌, get_or, take, Ok, Err, Result, sym, refl, ap, ◌∙◌, subst, mod-lt, arith}
use native.Mathlib.Decide.{dec_lt}
use Rattle.std.proofs.lemmas.List.{same_from_push, length-take, get_or-take, get_or_past}
use Rattle.modulus.specs.Moduli.{Listed}
use Rattle.modulus.specs.Bounds.{w}
use Rattle.modulus.specs.declared.refusal.Refusal.{Refusal}
use Rattle.modulus.proofs.Bounds.{w-positive, above_one}
use Rattle.poly.specs.Reduced.{Reduced, Reported, value_at, standing}
use Rattle.poly.proofs.Standing.{length-standing, standing-same, form_length-past}
use Rattle.poly.proofs.Reports.{fits-standing, reported, reported-unique}
use Rattle.fit.proofs.Offers.{no_offer_same}
use Rattle.fit.specs.Rules.{NoOffer, full, large, unfit, Offered, NoWithdrawal, none}
use Rattle.fit.specs.declared.table.offer.Accepted.{Accepted}
use Rattle.desk.specs.Book.{Sheet, sheet, Refuses, refuses_offer, refuses_withdrawal, Gives, stands_now, goes, Due, turned_away, answered, Book, closed, entry}
use Rattle.desk.specs.Law.{Decided, LeadsBack, accepted}
use Rattle.desk.proofs.Walks.{Walk, done, step, walks_same, values-taken}
use Rattle.desk.specs.declared.uses.Use.{Use}
use Rattle.desk.specs.declared.uses.Use.TheVariants.{Offer}
use Rattle.desk.specs.declared.uses.Answer.{Answer}
use Rattle.desk.specs.declared.uses.Answer.TheVariants.{Stands, Withdrawn}

-- ---- one refusal for one use
pub no_withdrawal_same : (ys : List ℕ) (f g : Refusal) → NoWithdrawal ys f → NoWithdrawal ys g → f ≡ g
no_withdrawal_same ys f g (none a) (none b) = refl

pub refuses-same : (s : Sheet) (u : Use) (f g : Refusal) → Refuses s u f → Refuses s u g → f ≡ g
refuses-same s u f g (refuses_offer {y} a) (refuses_offer b) = no_offer_same (s.prime ^ s.exponent) s.values y f g a b
refuses-same s u f g (refuses_withdrawal a) (refuses_withdrawal b) = no_withdrawal_same s.values f g a b

-- ---- one answer for one use
pub accepted-same : (a b : Accepted) → a.place ≡ b.place → a.coefficient ≡ b.coefficient → a ≡ b
accepted-same a b i c = ap (λ (k : ℕ). at k a.coefficient) i ∙ ap (λ (k : ℕ). at b.place k) c
  where
    at : ℕ → ℕ → Accepted
    at i c = record { place = i; coefficient = c }

pub offered-same : (p e : ℕ) (ys : List ℕ) (y : ℕ) (a b : Accepted) → Offered p e ys y a.place a.coefficient → Offered p e ys y b.place b.coefficient → a ≡ b
offered-same p e ys y a b h k =
    let same : a.place ≡ b.place = h.here ∙ sym k.here in
    accepted-same a b same
    (h.reports.2 ∙ reported-unique p e (ys ++ y ∷ []) h.reports.0 k.reports.0 h.reports.1 k.reports.1 a.place
    ∙ ap (λ (i : ℕ). get_or k.reports.0 i 0) same ∙ sym k.reports.2)

pub gives_same : (s : Sheet) (u : Use) (a b : Answer) (t t' : Sheet) → Gives s u a t → Gives s u b t' → (a ≡ b) × (t ≡ t')
gives_same s u a b t t' (stands_now {y} {a = x} h) (stands_now {a = z} k) =
    (ap (λ (r : Accepted). Stands r) (offered-same s.prime s.exponent s.values y x z h k), refl)
gives_same s u a b t t' (goes {ys} {y} h) (goes {ys = zs} {y = z} k) =
    let same : (ys ≡ zs) × (y ≡ z) = same_from_push ys zs y z (sym h ∙ k) in
    (ap (λ (r : ℕ). Withdrawn r) same.1, ap (λ (l : List ℕ). sheet s.prime s.exponent l) same.0)

pub due_same : (s : Sheet) (u : Use) (a b : Result Answer Refusal) (t t' : Sheet) → Due s u a t → Due s u b t' → (a ≡ b) × (t ≡ t')
due_same s u a b t t' (turned_away {f} h) (turned_away {f = g} k) = (ap (λ (r : Refusal). Err r) (refuses-same s u f g h k), refl)
due_same s u a b t t' (turned_away {f} h) (answered no-refusal k) = absurd (no-refusal f h)
due_same s u a b t t' (answered no-refusal h) (turned_away {f} k) = absurd (no-refusal f k)
due_same s u a b t t' (answered {a = x} l h) (answered {a = z} r k) =
    let same : (x ≡ z) × (t ≡ t') = gives_same s u x z t t' h k in
    (ap (λ (q : Answer). Ok q) same.0, same.1)

-- a book is a walk by what is due
walk : {s end : Sheet} {us : List Use} {answers : List (Result Answer Refusal)} → Book s us answers end → Walk Due s us answers end
walk closed = done
walk (entry first rest) = step first (walk rest)

pub decided : Decided
decided s end end' us answers answers' h k = walks_same Due due_same us s end end' answers answers' (walk h) (walk k)

-- an offer that no rule refuses is accepted
pub due_offer : (s : Sheet) (y : ℕ) (a : Result Answer Refusal) (end : Sheet)
    → ((f : Refusal) → NoOffer (s.prime ^ s.exponent) s.values y f → ⊥) → Due s (Offer y) a end
    → (x : Accepted) × Offered s.prime s.exponent s.values y x.place x.coefficient × (a ≡ Ok (Stands x))
    × (end ≡ sheet s.prime s.exponent (s.values ++ y ∷ []))
due_offer s y a end h (turned_away {f} (refuses_offer k)) = absurd (h f k)
due_offer s y a end h (answered l (stands_now {a = x} k)) = (x, k, refl, refl)

-- ---- the first coefficients of a reduced form
pub take-reduced : (p e : ℕ) → Listed p e → (d : List ℕ) → Reduced p e d → (k : ℕ) → Reduced p e (take k d)
take-reduced p e h d r k i = go (dec_lt i k)
  where
    go : Dec (i < k) → get_or (take k d) i 0 < w p e i
    go (yes l) = subst (λ (x : ℕ). x < w p e i) (sym (get_or-take k d i 0 l)) (r i)
    go (no l) = subst (λ (x : ℕ). x < w p e i) (sym (get_or_past (take k d) i 0 (simp length-take (omega arith)))) (w-positive p e i h)

-- the first k coefficients are what is reported for the first k values
pub reported-take : (p e : ℕ) → Listed p e → (d : List ℕ) → Reduced p e d → (k : ℕ) → Reported p e (standing (p ^ e) d k) (take k d)
reported-take p e h d r k =
    subst (λ (ys : List ℕ). Reported p e ys (take k d)) (standing-same (p ^ e) (take k d) d k (λ i l. get_or-take k d i 0 l))
    (reported p e h (take k d) k (take-reduced p e h d r k) (λ i l. get_or_past (take k d) i 0 (simp length-take (omega arith))))

-- what is reported for the first n + 1 values has d's coefficient in place n
pub coefficient-reported : (p e : ℕ) → Listed p e → (d : List ℕ) → Reduced p e d → (n : ℕ) (c : List ℕ) → Reported p e (standing (p ^ e) d (suc n)) c
    → get_or c n 0 ≡ get_or d n 0
coefficient-reported p e h d r n c k =
    reported-unique p e (standing (p ^ e) d (suc n)) c (take (suc n) d) k (reported-take p e h d r (suc n)) n ∙ get_or-take (suc n) d n 0 (omega arith)

-- ---- offers of the values of a reduced form
-- no rule refuses the next value
pub not_refused : (p e : ℕ) → Listed p e → (d : List ℕ) (n : ℕ) → n < p ^ e → (f : Refusal)
    → NoOffer (p ^ e) (standing (p ^ e) d n) (value_at d n % p ^ e) f → ⊥
not_refused p e h d n l f (full a) = omega (arith, length-standing (p ^ e) d n)
not_refused p e h d n l f (large a b) =
    let positive : 0 < p ^ e = omega (arith, above_one p e h) in
    omega (arith, mod-lt (value_at d n) positive)
not_refused p e h d n l f (unfit a b k) = k (fits-standing (p ^ e) d (suc n))

-- so it is accepted, with d's coefficient
pub offer-accepted : (p e : ℕ) → Listed p e → (d : List ℕ) → Reduced p e d → (n : ℕ) → n < p ^ e → (a : Result Answer Refusal) (end : Sheet)
    → Due (sheet p e (standing (p ^ e) d n)) (Offer (value_at d n % p ^ e)) a end
    → (a ≡ accepted n (get_or d n 0)) × (end ≡ sheet p e (standing (p ^ e) d (suc n)))
offer-accepted p e h d r n l a end k =
    let got = due_offer (sheet p e (standing (p ^ e) d n)) (value_at d n % p ^ e) a end (not_refused p e h d n l) k in
    let x : Accepted = got.0 in
    let here : x.place ≡ n = got.1.here ∙ length-standing (p ^ e) d n in
    let c : List ℕ = got.1.reports.0 in
    let coefficient : x.coefficient ≡ get_or d n 0 =
    got.1.reports.2 ∙ ap (λ (i : ℕ). get_or c i 0) here ∙ coefficient-reported p e h d r n c got.1.reports.1 in
    (got.2 ∙ ap (λ (q : Accepted). Ok (Stands q)) (accepted-same x (record { place = n; coefficient = get_or d n 0 }) here coefficient), got.3)

pub leads_back : LeadsBack
leads_back p e h d r n l answers end k =
    let told = λ (i : ℕ). accepted i (get_or d i 0) in
    let holding = λ (i : ℕ). sheet p e (standing (p ^ e) d i) in
    let taken = values-taken Due (p ^ e) d (λ (y : ℕ). Offer y) holding told (accepted 0 0) (p ^ e) (offer-accepted p e h d r) n l answers end (walk k) in
    let stands : end.values ≡ standing (p ^ e) d n = ap (λ (s : Sheet). s.values) taken.ends in (
      stands,
      taken.each,
      λ short c q.
          reported-unique p e (standing (p ^ e) d n) c d (subst (λ (ys : List ℕ). Reported p e ys c) stands q)
          (reported p e h d n r (λ i m. form_length-past d i (omega arith))),
    )
