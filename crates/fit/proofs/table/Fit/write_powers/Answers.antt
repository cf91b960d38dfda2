use Rattle.std.proofs.Common.{◌≡◌, ℕ, ◌<◌, ◌≤◌, List, length, get_or, take, drop, ◌∙◌, subst, refl, arith, rules, Ok, Err, Result, MatchResult}
use Rattle.std.proofs.lemmas.List.{length-take-le}
use Rattle.modulus.specs.declared.refusal.Refusal.{Refusal}
use Rattle.modulus.specs.declared.refusal.Refusal.TheVariants.{ShortBuffer}
use Rattle.poly.specs.Equivalents.{SamePolynomial, ints}
use Rattle.poly.specs.Polynomial.{form}
use Rattle.poly.specs.Powers.{Holds, NoPowers, long, short}
use Rattle.fit.specs.Standing.{WrittenPowers, report_length}
use Rattle.fit.specs.declared.table.Fit.{Fit}
use Rattle.fit.proofs.Offers.{front_reports}
use Rattle.fit.proofs.table.Fit.write_powers.Goals as goal

-- the front of the coefficients that a report has
few : (f : Fit) (n : ℕ) → n ≡ report_length f → length f.coefficients ≡ 52 → (length (take n f.coefficients) ≡ n) × (n ≤ 64)
few f n e len = (length-take-le n f.coefficients (omega (arith, f.modulus.few)), omega (arith, f.modulus.few))

-- a report is never longer than 64, so the buffer is too short
refused : (n room : ℕ) (r : Refusal) → n ≤ 64 → NoPowers n room r → (r ≡ ShortBuffer n) × (room < n)
refused n room r le (long h) = absurd (omega arith)
refused n room r le (short h k) = (refl, k)

written : (f : Fit) (n : ℕ) (xs : List ℕ) → n ≡ report_length f → Holds f.modulus.value (form (take n f.coefficients)) n xs → WrittenPowers f xs
written f n xs e held =
    let m = f.modulus in
    record {
      form_of = take n f.coefficients;
      reported = front_reports f n e;
      is = subst (λ (k : ℕ). SamePolynomial k (ints xs) (form (take n f.coefficients))) m.power held.is;
      below = λ k. subst (λ (b : ℕ). get_or xs k 0 < b) m.power (held.below k);
    }

-- what the library of polynomials answers, as the fit says it
powers_answered : (f : Fit) (n : ℕ) (before after : List ℕ) (r : Result ℕ Refusal) → n ≡ report_length f → length f.coefficients ≡ 52
    → MatchResult r (λ k. (k ≡ length (take n f.coefficients)) × (k ≤ 64) × (k ≤ length before) × Holds f.modulus.value (form (take n f.coefficients)) k (take k after) × (drop k after ≡ drop k before))
    (λ e. NoPowers (length (take n f.coefficients)) (length before) e × (after ≡ before))
    → MatchResult r (λ _. (n ≤ length before) × WrittenPowers f (take n after) × (drop n after ≡ drop n before)) (λ e. (e ≡ ShortBuffer n) × (length before < n) × (after ≡ before))
powers_answered f n before after (Ok k) e len h =
    let got = rw (h.0 ∙ (few f n e len).0) at h in
    (got.2, written f n (take n after) e got.3, got.4)
powers_answered f n before after (Err r) e len h =
    let size = few f n e len in
    let no = refused n (length before) r size.1 (rw size.0 at h.0) in
    (no.0, no.1, h.1)

pub returns : goal.returns
returns c = powers_answered c.args.self.now c.args.needed c.args.out.now c.powers.new.out c.powers.result c.requires (search rules) c.powers.ensures
