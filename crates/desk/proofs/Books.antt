-- What the fit's own promises give for the book: one use, and one entry more. Assumes nothing.
use Rattle.std.proofs.Common.{◌≡◌, ℕ, ◌+◌, ◌<◌, List, [], ◌∷◌, ◌++◌, length, get_or, take, Ok, Err, Result, sym, refl, ap, ◌∙◌, subst, arith}
use Rattle.std.proofs.lemmas.List.{length_push, take_more}
use Rattle.modulus.specs.declared.listed.Modulus.{Modulus}
use Rattle.modulus.specs.Moduli.{Listed}
use Rattle.modulus.specs.declared.refusal.Refusal.{Refusal}
use Rattle.modulus.specs.declared.refusal.Refusal.TheVariants.{Unlisted}
use Rattle.poly.proofs.Reports.{reported}
use Rattle.fit.proofs.Offers.{not_both}
use Rattle.fit.specs.Rules.{Offered, NoWithdrawal, none}
use Rattle.fit.specs.Standing.{stands}
use Rattle.fit.specs.declared.table.Fit.{Fit}
use Rattle.fit.specs.declared.table.offer.Accepted.{Accepted}
use Rattle.desk.specs.Book.{Sheet, sheet, fresh, Refuses, refuses_offer, refuses_withdrawal, stands_now, goes, Due, turned_away, answered, Book, closed, entry}
use Rattle.desk.specs.Desk.{sheet_of, CarriedOut}
use Rattle.desk.specs.Stops.{Stops, off_the_list}
use Rattle.desk.specs.declared.carry.Stopped.TheVariants.{Refused}
use Rattle.desk.specs.declared.uses.Use.{Use}
use Rattle.desk.specs.declared.uses.Use.TheVariants.{Offer, Withdraw}
use Rattle.desk.specs.declared.uses.Answer.{Answer}
use Rattle.desk.specs.declared.uses.Answer.TheVariants.{Stands, Withdrawn}

-- ---- no accepted offer is refused
offer-not_refused : (s : Sheet) (y i c : ℕ) → Offered s.prime s.exponent s.values y i c → (f : Refusal) → Refuses s (Offer y) f → ⊥
offer-not_refused s y i c h f (refuses_offer no-offer) = not_both s.prime s.exponent s.values y i c f h no-offer

pub some_stands : (ys zs : List ℕ) (y : ℕ) (f : Refusal) → ys ≡ zs ++ y ∷ [] → NoWithdrawal ys f → ⊥
some_stands ys zs y f e (none empty) = omega (arith, ap length (sym empty ∙ e), length_push zs y)

withdrawal_not_refused : (s : Sheet) (zs : List ℕ) (y : ℕ) → s.values ≡ zs ++ y ∷ [] → (f : Refusal) → Refuses s Withdraw f → ⊥
withdrawal_not_refused s zs y e f (refuses_withdrawal h) = some_stands s.values zs y f e h

-- ---- one use
sheet-is : (f g : Fit) (ys : List ℕ) → g.modulus ≡ f.modulus → stands g ≡ ys → sheet f.modulus.prime f.modulus.exponent ys ≡ sheet_of g
sheet-is f g ys modulus is = ap (λ (m : Modulus). sheet m.prime m.exponent ys) (sym modulus) ∙ ap (λ (zs : List ℕ). sheet g.modulus.prime g.modulus.exponent zs) (sym is)

pub offer-due : (f g : Fit) (y : ℕ) (a : Accepted) → g.modulus ≡ f.modulus → Offered f.modulus.prime f.modulus.exponent (stands f) y a.place a.coefficient
    → stands g ≡ stands f ++ y ∷ [] → Due (sheet_of f) (Offer y) (Ok (Stands a)) (sheet_of g)
offer-due f g y a modulus h is =
    subst (λ (t : Sheet). Due (sheet_of f) (Offer y) (Ok (Stands a)) t) (sheet-is f g (stands f ++ y ∷ []) modulus is)
    (answered (offer-not_refused (sheet_of f) y a.place a.coefficient h) (stands_now h))

pub withdrawal_due : (f g : Fit) (y : ℕ) → g.modulus ≡ f.modulus → stands f ≡ stands g ++ y ∷ [] → Due (sheet_of f) Withdraw (Ok (Withdrawn y)) (sheet_of g)
withdrawal_due f g y modulus is =
    subst (λ (t : Sheet). Due (sheet_of f) Withdraw (Ok (Withdrawn y)) t) (sheet-is f g (stands g) modulus refl)
    (answered (withdrawal_not_refused (sheet_of f) (stands g) y is) (goes is))

pub refused-due : (f g : Fit) (u : Use) (r : Refusal) → g ≡ f → Refuses (sheet_of f) u r → Due (sheet_of f) u (Err r) (sheet_of g)
refused-due f g u r same h = subst (λ (x : Fit). Due (sheet_of f) u (Err r) (sheet_of x)) (sym same) (turned_away h)

-- ---- one entry more
pub book-more : {s mid end : Sheet} {us : List Use} {answers : List (Result Answer Refusal)} {u : Use} {a : Result Answer Refusal}
    → Book s us answers mid → Due mid u a end → Book s (us ++ u ∷ []) (answers ++ a ∷ []) end
book-more closed due = entry due closed
book-more (entry first rest) due = entry first (book-more rest due)

-- and so in a walk over the list of uses
pub book-step : (s mid end : Sheet) (us : List Use) (i : ℕ) (d : Use) (answers answers' : List (Result Answer Refusal)) (a : Result Answer Refusal)
    → i < length us → Book s (take i us) answers mid → Due mid (get_or us i d) a end → answers' ≡ answers ++ a ∷ [] → Book s (take (i + 1) us) answers' end
book-step s mid end us i d answers answers' a within book due is =
    subst (λ (vs : List Use). Book s vs answers' end) (sym (take_more us i d within))
    (subst (λ (bs : List (Result Answer Refusal)). Book s (take i us ++ get_or us i d ∷ []) bs end) (sym is) (book-more book due))

-- ---- no use is carried out where no fit opens
pub stops_open : (p e : ℕ) (f : Refusal) → (Listed p e → ⊥) → f ≡ Unlisted → Stops p e (Refused f)
stops_open p e f never is = subst (λ (g : Refusal). Stops p e (Refused g)) (sym is) (off_the_list never)

-- ---- the whole list, from a freshly opened fit
pub carried : (p e : ℕ) (us : List Use) (answers : List (Result Answer Refusal)) (f g : Fit) → f.modulus.prime ≡ p → f.modulus.exponent ≡ e → stands f ≡ []
    → Book (sheet_of f) us answers (sheet_of g) → CarriedOut p e us answers g
carried p e us answers f g prime exponent empty book =
    let start : sheet_of f ≡ fresh p e =
    ap (λ (q : ℕ). sheet q f.modulus.exponent (stands f)) prime ∙ ap (λ (k : ℕ). sheet p k (stands f)) exponent ∙ ap (λ (ys : List ℕ). sheet p e ys) empty in
    record {
      end = sheet_of g;
      book = subst (λ (s : Sheet). Book s us answers (sheet_of g)) start book;
      agrees = refl;
      reports = reported g.modulus.prime g.modulus.exponent g.modulus.listed g.coefficients g.count g.reduced g.clear;
    }
