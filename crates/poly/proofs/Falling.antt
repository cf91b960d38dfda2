-- Falling factorials at whole numbers: i! times a binomial coefficient, and the laws of the points 0, 1, 2, … Assumes nothing.
use Rattle.std.proofs.Common.{◌≡◌, ℕ, zero, suc, ◌+◌, ◌-◌, ◌*◌, ◌^◌, ◌<◌, ◌≤◌, ℤ, pos, ◌-ℤ◌, ◌*ℤ◌, sym, refl, ap, ◌∙◌, mul-zero, arith}
use native.Mathlib.Decide.{dec_le}
use Rattle.modulus.specs.Congruence.{Cong}
use Rattle.modulus.specs.Moduli.{Listed}
use Rattle.modulus.specs.Bounds.{factorial, v}
use Rattle.modulus.proofs.Integers.{zlin}
use Rattle.modulus.proofs.Congruences.{cong_path, cong_trans}
use Rattle.modulus.proofs.Primes.{Prime, Inverse, inverse_lift}
use Rattle.modulus.proofs.Exponents.{Parts, factorial-parts}
use Rattle.modulus.proofs.Bounds.{listed-prime}
use Rattle.poly.specs.Reduced.{falls}
use Rattle.poly.specs.Basis.{ordinary}
use Rattle.poly.proofs.Points.{basis, Laws, basis_past}

-- the binomial coefficient
abbrev pub choose : ℕ → ℕ → ℕ
choose x zero = 1
choose zero (suc i) = 0
choose (suc x) (suc i) = choose x i + choose x (suc i)

pub falls-past : (x i : ℕ) → x < i → falls x i ≡ 0
falls-past x zero l = absurd (omega arith)
falls-past x (suc i) l =
    let none : x - i ≡ 0 = omega arith in
    ap (λ (n : ℕ). falls x i * n) none ∙ mul-zero (falls x i)

-- the first factor taken out
pub falls-suc : (x i : ℕ) → falls (suc x) (suc i) ≡ suc x * falls x i
falls-suc x zero = omega arith
falls-suc x (suc i) =
    let less : suc x - suc i ≡ x - i = omega arith in
    ap (λ (n : ℕ). falls (suc x) (suc i) * n) less ∙ ap (λ (n : ℕ). n * (x - i)) (falls-suc x i) ∙ regroup (suc x) (falls x i) (x - i)
  where
    regroup : (a b c : ℕ) → a * b * c ≡ a * (b * c)
    regroup a b c = omega arith

pub falls-pascal : (x i : ℕ) → falls (suc x) (suc i) ≡ falls x (suc i) + suc i * falls x i
falls-pascal x i = falls-suc x i ∙ go (dec_le i x)
  where
    go : Dec (i ≤ x) → suc x * falls x i ≡ falls x i * (x - i) + suc i * falls x i
    go (yes l) =
        let whole : suc x ≡ x - i + suc i = omega arith in
        ap (λ (n : ℕ). n * falls x i) whole ∙ parts (x - i) (suc i) (falls x i)
      where
        parts : (a b c : ℕ) → (a + b) * c ≡ c * a + b * c
        parts a b c = omega arith
    go (no n) =
        let none : falls x i ≡ 0 = falls-past x i (omega arith) in
        rw none (omega arith)

pub falls-self : (n : ℕ) → falls n n ≡ factorial n
falls-self zero = refl
falls-self (suc n) = falls-suc n n ∙ ap (λ (k : ℕ). suc n * k) (falls-self n)

pub choose_past : (x i : ℕ) → x < i → choose x i ≡ 0
choose_past x zero l = absurd (omega arith)
choose_past zero (suc i) l = refl
choose_past (suc x) (suc i) l = omega (arith, choose_past x i (omega arith), choose_past x (suc i) (omega arith))

pub choose_self : (n : ℕ) → choose n n ≡ 1
choose_self zero = refl
choose_self (suc n) = omega (arith, choose_self n, choose_past n (suc n) (omega arith))

pub falls-choose : (x i : ℕ) → falls x i ≡ factorial i * choose x i
falls-choose x zero = refl
falls-choose zero (suc i) = falls-past 0 (suc i) (omega arith) ∙ omega arith
falls-choose (suc x) (suc i) =
    falls-pascal x i ∙ ap (λ (n : ℕ). n + suc i * falls x i) (falls-choose x (suc i))
    ∙ ap (λ (n : ℕ). factorial (suc i) * choose x (suc i) + suc i * n) (falls-choose x i) ∙ parts (suc i) (factorial i) (choose x i) (choose x (suc i))
  where
    parts : (s f a b : ℕ) → s * f * b + s * (f * a) ≡ s * f * (a + b)
    parts s f a b = omega arith

-- ---- over the integers
pub pos_minus : (x i : ℕ) → i ≤ x → pos x -ℤ pos i ≡ pos (x - i)
pos_minus x i l = omega zlin

pub basis_falls : (i x : ℕ) → basis ordinary i (pos x) ≡ pos (falls x i)
basis_falls zero x = refl
basis_falls (suc i) x = go (dec_le i x) (basis_falls i x)
  where
    go : Dec (i ≤ x) → basis ordinary i (pos x) ≡ pos (falls x i) → basis ordinary (suc i) (pos x) ≡ pos (falls x (suc i))
    go (yes l) e = ap (λ (z : ℤ). z *ℤ (pos x -ℤ pos i)) e ∙ ap (λ (z : ℤ). pos (falls x i) *ℤ z) (pos_minus x i l)
    go (no n) e = basis_past ordinary (suc i) x (omega arith) ∙ ap pos (sym (falls-past x (suc i) (omega arith)))

-- ---- the laws of the ordinary points
pub ordinary-laws : (p e : ℕ) → Listed p e → Laws p e ordinary (v p)
ordinary-laws p e h =
    record {
      positive = omega (arith, P.above);
      part = λ i t. pos ((parts i).unit * choose t i);
      divides = divides;
      inverse = λ i. (lifted i).by;
      inverts = inverts;
    }
  where
    P : Prime p
    P = listed-prime p e h

    parts : (i : ℕ) → Parts p (factorial i) (v p i)
    parts = factorial-parts p P

    lifted : (i : ℕ) → Inverse (p ^ e) (pos (parts i).unit)
    lifted i = inverse_lift p e (pos (parts i).unit) (parts i).inverse

    regroup : (a b c : ℕ) → a * b * c ≡ a * (b * c)
    regroup a b c = omega arith

    divides : (i t : ℕ) → basis ordinary i (pos t) ≡ pos (p ^ v p i) *ℤ pos ((parts i).unit * choose t i)
    divides i t =
        basis_falls i t
        ∙ ap pos (falls-choose t i ∙ ap (λ (n : ℕ). n * choose t i) (parts i).is ∙ regroup (p ^ v p i) (parts i).unit (choose t i))

    whole : (i : ℕ) → (parts i).unit * choose i i ≡ (parts i).unit
    whole i = ap (λ (n : ℕ). (parts i).unit * n) (choose_self i) ∙ omega arith

    inverts : (i : ℕ) → Cong (p ^ e) (pos ((parts i).unit * choose i i) *ℤ (lifted i).by) (pos 1)
    inverts i = cong_trans (cong_path (p ^ e) (ap (λ (n : ℕ). pos n *ℤ (lifted i).by) (whole i))) (lifted i).one
