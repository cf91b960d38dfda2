-- What one coefficient more, and one less, makes of a fit. Assumes nothing.
use Rattle.std.proofs.Common.{◌≡◌, ℕ, suc, ◌+◌, ◌*◌, ◌%◌, ◌^◌, ◌<◌, ◌≤◌, List, [], ◌∷◌, ◌++◌, length, get_or, take, pos, Ok, Err, Result, sym, refl, ap, ◌∙◌, subst, add-one, arith, MatchResult}
use native.Mathlib.Decide.{dec_le, ℕ_discrete}
use Rattle.modulus.specs.Bounds.{factorial}
use Rattle.modulus.specs.Congruence.{Cong}
use Rattle.modulus.specs.declared.listed.Modulus.{Modulus}
use Rattle.poly.specs.Polynomial.{Fits}
use Rattle.poly.specs.Powers.{NoPowers, long, short}
use Rattle.poly.specs.Reduced.{Reported, standing, value_at}
use Rattle.poly.proofs.Reports.{extended, fits-standing, reported}
use Rattle.poly.proofs.Standing.{length-standing, standing-same, front_same}
use Rattle.modulus.specs.declared.refusal.Refusal.{Refusal}
use Rattle.modulus.specs.declared.refusal.Refusal.TheVariants.{TooLarge, Full, NoPolynomial}
use Rattle.fit.specs.Rules.{NoOffer, full, large, unfit, Offered}
use Rattle.fit.specs.Standing.{power_of, report_length, stands}
use Rattle.fit.proofs.Tables.{past-mu}
use Rattle.fit.specs.declared.table.Fit.{Fit}

-- g is f with the coefficient d behind the others
pub record Grown (f g : Fit) (d : ℕ) : Type 0 where
  pub modulus : g.modulus ≡ f.modulus
  pub count : g.count ≡ f.count + 1
  pub same : (i : ℕ) → i < f.count → get_or g.coefficients i 0 ≡ get_or f.coefficients i 0
  pub last : get_or g.coefficients f.count 0 ≡ d

pub grown : (f g : Fit) (y d : ℕ) → Grown f g d → y < power_of f.modulus
    → Cong (power_of f.modulus) (pos (value_at f.coefficients f.count + d * factorial f.count)) (pos y) → stands g ≡ stands f ++ y ∷ []
grown f g y d h small solves =
    let m = f.modulus in
    ap (λ (n : Modulus). standing (power_of n) g.coefficients g.count) h.modulus
    ∙ ap (λ (n : ℕ). standing (power_of m) g.coefficients n) (h.count ∙ add-one f.count)
    ∙ extended m.prime m.exponent m.listed f.coefficients g.coefficients f.count y d small f.clear h.same h.last solves

pub offered : (f g : Fit) (y d : ℕ) → Grown f g d → y < power_of f.modulus → f.count < power_of f.modulus
    → Cong (power_of f.modulus) (pos (value_at f.coefficients f.count + d * factorial f.count)) (pos y)
    → Offered f.modulus.prime f.modulus.exponent (stands f) y f.count d
offered f g y d h small room solves =
    let m = f.modulus in
    let is = grown f g y d h small solves in
    let len = length-standing (power_of m) f.coefficients f.count in
    let report : Reported g.modulus.prime g.modulus.exponent (stands g) g.coefficients = reported g.modulus.prime g.modulus.exponent g.modulus.listed g.coefficients g.count g.reduced g.clear in
    record {
      room = omega arith;
      small = small;
      fits = subst (λ (ys : List ℕ). Fits (power_of m) ys) is (subst (λ (n : Modulus). Fits (power_of n) (stands g)) h.modulus (fits-standing (power_of g.modulus) g.coefficients g.count));
      here = sym len;
      reports = (g.coefficients, subst (λ (ys : List ℕ). Reported m.prime m.exponent ys g.coefficients) is (subst (λ (n : Modulus). Reported n.prime n.exponent (stands g) g.coefficients) h.modulus report), sym h.last);
    }

-- the last value goes: what stands before it is as it was
pub shrunk : (f : Fit) (cs : List ℕ) (n y : ℕ) → f.count ≡ suc n → ((i : ℕ) → i < n → get_or cs i 0 ≡ get_or f.coefficients i 0)
    → y ≡ value_at f.coefficients n % power_of f.modulus → stands f ≡ standing (power_of f.modulus) cs n ++ y ∷ []
shrunk f cs n y count same value =
    let m = power_of f.modulus in
    ap (λ (k : ℕ). standing m f.coefficients k) count
    ∙ ap (λ (ys : List ℕ). ys ++ (value_at f.coefficients n % m) ∷ []) (sym (standing-same m cs f.coefficients n same))
    ∙ ap (λ (z : ℕ). standing m cs n ++ z ∷ []) (sym value)

-- no coefficient that is not 0 lies past a report
pub past-report : (f : Fit) (n : ℕ) → n ≡ report_length f → (i : ℕ) → n ≤ i → get_or f.coefficients i 0 ≡ 0
past-report f n e i le = go (dec_le f.count i)
  where
    go : Dec (f.count ≤ i) → get_or f.coefficients i 0 ≡ 0
    go (yes past) = f.clear i past
    go (no within) = past-mu f.modulus.prime f.modulus.exponent f.modulus.mu f.coefficients f.modulus.least f.reduced i (omega arith)

-- a front of the coefficients that has all that are not 0 reports what stands
pub reports : (f : Fit) (cs : List ℕ) → ((i : ℕ) → get_or cs i 0 ≡ get_or f.coefficients i 0) → Reported f.modulus.prime f.modulus.exponent (stands f) cs
reports f cs same =
    let m = f.modulus in
    subst (λ (ys : List ℕ). Reported m.prime m.exponent ys cs) (standing-same (power_of m) cs f.coefficients f.count (λ i _. same i))
    (reported m.prime m.exponent m.listed cs f.count (λ i. rw (same i) (f.reduced i)) (λ i le. same i ∙ f.clear i le))

-- so the front that is as long as a report does
pub front_reports : (f : Fit) (n : ℕ) → n ≡ report_length f → Reported f.modulus.prime f.modulus.exponent (stands f) (take n f.coefficients)
front_reports f n e = reports f (take n f.coefficients) (front_same f.coefficients n (past-report f n e))

-- ---- powers of X for a buffer that is long enough
-- a form that fits the buffer is not refused
pub never : (n room : ℕ) (f : Refusal) → n ≤ 64 → n ≤ room → NoPowers n room f → ⊥
never n room f few fits (long h) = omega arith
never n room f few fits (short h k) = omega arith

pub answered : (r : Result ℕ Refusal) (P : ℕ → Type 0) (Q : Refusal → Type 0) → MatchResult r P Q → ((f : Refusal) → Q f → ⊥) → (n : ℕ) × P n
answered (Ok n) P Q h no-err = (n, h)
answered (Err f) P Q h no-err = absurd (no-err f h)

-- ---- the refusals of an offer to a fit
is-full : (m n y : ℕ) (ys : List ℕ) → length ys ≡ n → n ≡ m → NoOffer m ys y (Full n)
is-full m n y ys len h = subst (λ (k : ℕ). NoOffer m ys y (Full k)) len (full (len ∙ h))

is-large : (m n y : ℕ) (ys : List ℕ) → length ys ≡ n → n < m → m ≤ y → NoOffer m ys y (TooLarge n)
is-large m n y ys len h k = subst (λ (j : ℕ). NoOffer m ys y (TooLarge j)) len (large (omega arith) k)

-- the two that need no polynomial
pub out_of_range : (f : Fit) (y : ℕ) (r : Refusal) → (f.count ≡ f.modulus.value → r ≡ Full f.count)
    → ((f.count ≡ f.modulus.value → ⊥) → (f.modulus.value ≤ y) × (r ≡ TooLarge f.count)) → NoOffer (power_of f.modulus) (stands f) y r
out_of_range f y r at-full past = go (ℕ_discrete f.count f.modulus.value)
  where
    len : length (stands f) ≡ f.count
    len = length-standing (power_of f.modulus) f.coefficients f.count

    go : Dec (f.count ≡ f.modulus.value) → NoOffer (power_of f.modulus) (stands f) y r
    go (yes all) = subst (λ (x : Refusal). NoOffer (power_of f.modulus) (stands f) y x) (sym (at-full all)) (is-full (power_of f.modulus) f.count y (stands f) len (all ∙ f.modulus.power))
    go (no room) =
        let got = past room in
        subst (λ (x : Refusal). NoOffer (power_of f.modulus) (stands f) y x) (sym got.1)
        (is-large (power_of f.modulus) f.count y (stands f) len (omega (arith, f.within, f.modulus.power)) (omega (arith, got.0, f.modulus.power)))

pub is-unfit : (f : Fit) (y : ℕ) → f.count < power_of f.modulus → y < power_of f.modulus → (Fits (power_of f.modulus) (stands f ++ y ∷ []) → ⊥)
    → NoOffer (power_of f.modulus) (stands f) y (NoPolynomial f.count)
is-unfit f y room small never =
    let m = power_of f.modulus in
    let len = length-standing m f.coefficients f.count in
    subst (λ (j : ℕ). NoOffer m (stands f) y (NoPolynomial j)) len (unfit (omega arith) small never)

-- ---- no accepted offer is refused
pub not_both : (p e : ℕ) (ys : List ℕ) (y i c : ℕ) (f : Refusal) → Offered p e ys y i c → NoOffer (p ^ e) ys y f → ⊥
not_both p e ys y i c f h (full all) = omega (arith, h.room)
not_both p e ys y i c f h (large room big) = omega (arith, h.small)
not_both p e ys y i c f h (unfit room small never) = never h.fits

-- one refusal for one offer
pub no_offer_same : (m : ℕ) (ys : List ℕ) (y : ℕ) (f g : Refusal) → NoOffer m ys y f → NoOffer m ys y g → f ≡ g
no_offer_same m ys y f g (full a) (full b) = refl
no_offer_same m ys y f g (full a) (large b c) = absurd (omega arith)
no_offer_same m ys y f g (full a) (unfit b c d) = absurd (omega arith)
no_offer_same m ys y f g (large a b) (full c) = absurd (omega arith)
no_offer_same m ys y f g (large a b) (large c d) = refl
no_offer_same m ys y f g (large a b) (unfit c d k) = absurd (omega arith)
no_offer_same m ys y f g (unfit a b h) (full c) = absurd (omega arith)
no_offer_same m ys y f g (unfit a b h) (large c d) = absurd (omega arith)
no_offer_same m ys y f g (unfit a b h) (unfit c d k) = refl
