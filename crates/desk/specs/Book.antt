-- The law over every list of uses of a freshly opened fit. A sheet is kept beside the fit: it is fed the arguments alone and says what stands.
-- Rests on the rules of offers and withdrawals.
use Rattle.std.specs.Prelude.{◌≡◌, ℕ, ◌^◌, List, [], ◌∷◌, ◌++◌, Ok, Err, Result}
use Rattle.modulus.specs.declared.refusal.Refusal.{Refusal}
use Rattle.fit.specs.Rules.{NoOffer, Offered, NoWithdrawal}
use Rattle.fit.specs.declared.table.offer.Accepted.{Accepted}
use Rattle.desk.specs.declared.uses.Use.{Use}
use Rattle.desk.specs.declared.uses.Use.TheVariants.{Offer, Withdraw}
use Rattle.desk.specs.declared.uses.Answer.{Answer}
use Rattle.desk.specs.declared.uses.Answer.TheVariants.{Stands, Withdrawn}

-- the sheet: the modulus and the values that stand
pub record Sheet : Type 0 where
  pub prime : ℕ
  pub exponent : ℕ
  pub values : List ℕ

abbrev pub sheet : ℕ → ℕ → List ℕ → Sheet
sheet p e ys = record { prime = p; exponent = e; values = ys }

-- beside a freshly opened fit
abbrev pub fresh : ℕ → ℕ → Sheet
fresh p e = sheet p e []

-- the table of refusals: which use the rules refuse, and how
pub data Refuses (s : Sheet) : Use → Refusal → Type 0 where
  refuses_offer : {y : ℕ} {f : Refusal} → NoOffer (s.prime ^ s.exponent) s.values y f → Refuses s (Offer y) f
  refuses_withdrawal : {f : Refusal} → NoWithdrawal s.values f → Refuses s Withdraw f

-- what a use that the rules do not refuse answers, and what it makes of the sheet: an offer joins the end, a withdrawal takes the last value
pub data Gives (s : Sheet) : Use → Answer → Sheet → Type 0 where
  stands_now : {y : ℕ} {a : Accepted} → Offered s.prime s.exponent s.values y a.place a.coefficient
      → Gives s (Offer y) (Stands a) (sheet s.prime s.exponent (s.values ++ y ∷ []))
  goes : {ys : List ℕ} {y : ℕ} → s.values ≡ ys ++ y ∷ [] → Gives s Withdraw (Withdrawn y) (sheet s.prime s.exponent ys)

-- what is due for one use: it is turned away and the sheet stays, or no refusal holds and it is answered
pub data Due (s : Sheet) (u : Use) : Result Answer Refusal → Sheet → Type 0 where
  turned_away : {f : Refusal} → Refuses s u f → Due s u (Err f) s
  answered : {a : Answer} {t : Sheet} → ((f : Refusal) → Refuses s u f → ⊥) → Gives s u a t → Due s u (Ok a) t

-- the answers of a whole list of uses, each having met what the earlier ones made of the sheet
pub data Book : Sheet → List Use → List (Result Answer Refusal) → Sheet → Type 0 where
  closed : {s : Sheet} → Book s [] [] s
  entry : {s t end : Sheet} {u : Use} {a : Result Answer Refusal} {us : List Use} {rest : List (Result Answer Refusal)}
      → Due s u a t → Book t us rest end → Book s (u ∷ us) (a ∷ rest) end
