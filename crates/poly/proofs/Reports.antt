-- The form that is reported for a table of values: that it is the reported one, and when a further value fits. Assumes nothing.
use Rattle.std.proofs.Common.{◌≡◌, ℕ, zero, suc, ◌+◌, ◌-◌, ◌*◌, ◌%◌, ◌^◌, ◌<◌, ◌≤◌, List, [], ◌∷◌, ◌++◌, length, get_or, ℤ, pos, negsuc, ◌-ℤ◌, ◌*ℤ◌, sym, ap, ◌∙◌, subst, le_refl, mod-lt, mod-eq_of_lt, arith, pow-add}
use native.Mathlib.Decide.{dec_lt}
use Rattle.std.proofs.lemmas.List.{length_push, get_or_push, get_or_append_left, get_or_past}
use Rattle.modulus.specs.Congruence.{Cong}
use Rattle.modulus.specs.Moduli.{Listed}
use Rattle.modulus.specs.Bounds.{factorial, v}
use Rattle.modulus.proofs.Integers.{zring, zlin}
use Rattle.modulus.proofs.Congruences.{cong_refl, cong_path, cong_sym, cong_trans, cong_add, cong_mul, cong_mod, cong_from_mod, mod_from_cong, same-from_cong}
use Rattle.modulus.proofs.Exponents.{Parts, factorial-parts, power_positive}
use Rattle.modulus.proofs.Bounds.{listed-prime, w-positive}
use Rattle.poly.specs.Polynomial.{Takes, Fits, DegreeBelow, form}
use Rattle.poly.specs.Reduced.{Reduced, SameForm, form_length, Reported, falls, value_at, standing}
use Rattle.poly.proofs.Points.{newton, Laws, unique}
use Rattle.poly.proofs.Basis.{exact, least}
use Rattle.poly.specs.Basis.{ordinary}
use Rattle.poly.proofs.Falling.{falls-self, basis_falls, ordinary-laws}
use Rattle.poly.proofs.Standing.{newton_is, value-is, sum_to-same, value_at-stop, value_at-past, length-standing, standing-at, standing-same, form_length-le, form_length-past}
use Rattle.poly.proofs.Rings.{back_ring, one_ring}

-- ---- what a form takes
pub value-standing : (m : ℕ) (c : List ℕ) (n i : ℕ) → i < n → Cong m (pos (value_at c i)) (pos (get_or (standing m c n) i 0))
value-standing m c n i l = cong_trans (cong_mod m (value_at c i)) (cong_path m (ap pos (sym (standing-at m c n i l))))

pub standing-taken : (m : ℕ) (c : List ℕ) (n : ℕ) → Takes m (form c) (standing m c n)
standing-taken m c n i l = cong_trans (cong_path m (value-is c i)) (value-standing m c n i (omega (arith, length-standing m c n)))

pub fits-standing : (m : ℕ) (c : List ℕ) (n : ℕ) → Fits m (standing m c n)
fits-standing m c n = (form c, standing-taken m c n)

-- the coefficients as integers
abbrev pub coefficients : List ℕ → ℕ → ℤ
coefficients c i = pos (get_or c i 0)

pub newton_standing : (m : ℕ) (c : List ℕ) (n i : ℕ) → i < n → Cong m (newton ordinary (coefficients c) n (pos i)) (pos (get_or (standing m c n) i 0))
newton_standing m c n i l = cong_trans (cong_path m (newton_is c n i ∙ ap pos (sym (value_at-past c i n l)))) (value-standing m c n i l)

pub residues : (m : ℕ) (c : List ℕ) (n : ℕ) → 0 < m → (i : ℕ) → get_or (standing m c n) i 0 < m
residues m c n h i = go (dec_lt i n)
  where
    go : Dec (i < n) → get_or (standing m c n) i 0 < m
    go (yes l) = subst (λ (x : ℕ). x < m) (sym (standing-at m c n i l)) (mod-lt (value_at c i) h)
    go (no l) = subst (λ (x : ℕ). x < m) (sym (get_or_past (standing m c n) i 0 (omega (arith, length-standing m c n)))) h

-- ---- one form for one table
-- reduced forms with no coefficients from n on that agree at the points below n are one form
pub same-from_values : (p e : ℕ) → Listed p e → (c d : List ℕ) (n : ℕ) → Reduced p e c → Reduced p e d
    → ((i : ℕ) → n ≤ i → get_or c i 0 ≡ 0) → ((i : ℕ) → n ≤ i → get_or d i 0 ≡ 0)
    → ((i : ℕ) → i < n → Cong (p ^ e) (pos (value_at c i)) (pos (value_at d i))) → SameForm c d
same-from_values p e h c d n rc rd zc zd s i = go (dec_lt i n)
  where
    flat : (c : List ℕ) (t : ℕ) → t < n → newton ordinary (coefficients c) n (pos t) ≡ pos (value_at c t)
    flat c t l = newton_is c n t ∙ ap pos (sym (value_at-past c t n l))

    agree : (t : ℕ) → t < n → Cong (p ^ e) (newton ordinary (coefficients c) n (pos t)) (newton ordinary (coefficients d) n (pos t))
    agree t l = cong_trans (cong_path (p ^ e) (flat c t l)) (cong_trans (s t l) (cong_path (p ^ e) (sym (flat d t l))))

    go : Dec (i < n) → get_or c i 0 ≡ get_or d i 0
    go (yes l) =
        same-from_cong (unique (ordinary-laws p e h) (coefficients c) (coefficients d) n n n (le_refl n) (le_refl n) agree i l) (rc i) (rd i)
    go (no l) = zc i (omega arith) ∙ sym (zd i (omega arith))

pub leads_back : (p e : ℕ) → Listed p e → (c d : List ℕ) (n : ℕ) → Reduced p e c → Reduced p e d → form_length c ≤ n → form_length d ≤ n
    → standing (p ^ e) c n ≡ standing (p ^ e) d n → SameForm c d
leads_back p e h c d n rc rd lc ld s =
    same-from_values p e h c d n rc rd (λ i l. form_length-past c i (omega arith)) (λ i l. form_length-past d i (omega arith))
    (λ i l. cong_from_mod (p ^ e) (value_at c i) (value_at d i) (sym (standing-at (p ^ e) c n i l) ∙ ap (λ (ys : List ℕ). get_or ys i 0) s ∙ standing-at (p ^ e) d n i l))

pub reported : (p e : ℕ) → Listed p e → (c : List ℕ) (n : ℕ) → Reduced p e c → ((i : ℕ) → n ≤ i → get_or c i 0 ≡ 0)
    → Reported p e (standing (p ^ e) c n) c
reported p e h c n r z =
    record {
      reduced = r;
      within = omega (arith, form_length-le c n z, length-standing (p ^ e) c n);
      takes = standing-taken (p ^ e) c n;
      least = λ f t k g. form_length-le c k (λ i l. from f t k g i l (dec_lt i n));
      only = λ d rd ld t. same-from_values p e h d c n rd r (λ i l. form_length-past d i (omega (arith, length-standing (p ^ e) c n))) z (agree d t);
    }
  where
    ys : List ℕ
    ys = standing (p ^ e) c n

    inside : (t : ℕ) → t < n → t < length ys
    inside t l = omega (arith, length-standing (p ^ e) c n)

    from : (f : List ℤ) → Takes (p ^ e) f ys → (k : ℕ) → DegreeBelow (p ^ e) f k → (i : ℕ) → k ≤ i → Dec (i < n) → get_or c i 0 ≡ 0
    from f t k g i l (yes s) =
        same-from_cong
        (least (ordinary-laws p e h) (coefficients c) (λ (i : ℕ). pos (get_or ys i 0)) n k f (newton_standing (p ^ e) c n) (λ i l. t i (inside i l)) g i s l)
        (r i) (w-positive p e i h)
    from f t k g i l (no s) = z i (omega arith)

    agree : (d : List ℕ) → Takes (p ^ e) (form d) ys → (i : ℕ) → i < n → Cong (p ^ e) (pos (value_at d i)) (pos (value_at c i))
    agree d t i l =
        cong_trans (cong_path (p ^ e) (sym (value-is d i))) (cong_trans (t i (inside i l)) (cong_sym (value-standing (p ^ e) c n i l)))

pub reported-unique : (p e : ℕ) (ys c d : List ℕ) → Reported p e ys c → Reported p e ys d → SameForm c d
reported-unique p e ys c d h k = k.only c h.reduced h.within h.takes

-- ---- a further value
-- every integer has a natural number that agrees with it
pub natural_residue : (m : ℕ) → 0 < m → (z : ℤ) → (d : ℕ) × Cong m (pos d) z
natural_residue m l (pos a) = (a, cong_refl m (pos a))
natural_residue zero l (negsuc a) = absurd (omega arith)
natural_residue (suc m) l (negsuc a) = (suc a * m, record { times = pos (suc a); is = omega zlin })

-- the value at n once place n has the coefficient d
pub value-extended : (c c' : List ℕ) (n d : ℕ) → ((i : ℕ) → n ≤ i → get_or c i 0 ≡ 0) → ((i : ℕ) → i < n → get_or c' i 0 ≡ get_or c i 0) → get_or c' n 0 ≡ d
    → value_at c' n ≡ value_at c n + d * factorial n
value-extended c c' n d z s t =
    value_at-past c' n (suc n) (omega arith) ∙ ap (λ (x : ℕ). x + get_or c' n 0 * falls n n) (sum_to-same c' c n n s ∙ sym (value_at-stop c n n z))
    ∙ ap (λ (x : ℕ). value_at c n + x * falls n n) t ∙ ap (λ (x : ℕ). value_at c n + d * x) (falls-self n)

pub extended : (p e : ℕ) → Listed p e → (c c' : List ℕ) (n y d : ℕ) → y < p ^ e → ((i : ℕ) → n ≤ i → get_or c i 0 ≡ 0)
    → ((i : ℕ) → i < n → get_or c' i 0 ≡ get_or c i 0) → get_or c' n 0 ≡ d → Cong (p ^ e) (pos (value_at c n + d * factorial n)) (pos y)
    → standing (p ^ e) c' (suc n) ≡ standing (p ^ e) c n ++ y ∷ []
extended p e h c c' n y d small z s t g =
    ap (λ (l : List ℕ). l ++ (value_at c' n % p ^ e) ∷ []) (standing-same (p ^ e) c' c n s)
    ∙ ap (λ (x : ℕ). standing (p ^ e) c n ++ x ∷ []) (ap (λ (x : ℕ). x % p ^ e) (value-extended c c' n d z s t) ∙ mod_from_cong g ∙ mod-eq_of_lt small)

pub solvable_past : (p e : ℕ) → Listed p e → (n : ℕ) → e ≤ v p n → (d : ℕ) → Cong (p ^ e) (pos (d * factorial n)) (pos 0)
solvable_past p e h n l d = record { times = pos (d * (p ^ (v p n - e) * parts.unit)); is = ap pos whole }
  where
    parts : Parts p (factorial n) (v p n)
    parts = factorial-parts p (listed-prime p e h) n

    regroup : (d a b u : ℕ) → d * (a * b * u) ≡ 0 + d * (b * u) * a
    regroup d a b u = omega arith

    whole : d * factorial n ≡ 0 + d * (p ^ (v p n - e) * parts.unit) * p ^ e
    whole =
        let split : v p n ≡ e + (v p n - e) = omega arith in
        ap (λ (x : ℕ). d * x) (parts.is ∙ ap (λ (x : ℕ). x * parts.unit) (ap (λ (x : ℕ). p ^ x) split ∙ pow-add p e (v p n - e)))
        ∙ regroup d (p ^ e) (p ^ (v p n - e)) parts.unit

unit_ring : (z s q u : ℤ) → z *ℤ s *ℤ (q *ℤ u) ≡ q *ℤ z *ℤ (u *ℤ s)
unit_ring z s q u = simp zring

-- a multiple of p ^ v(n) is a multiple of n!, modulo p ^ e
pub solvable : (p e : ℕ) → Listed p e → (n a y : ℕ) (z : ℤ) → Cong (p ^ e) (pos y -ℤ pos a) (pos (p ^ v p n) *ℤ z)
    → (d : ℕ) × Cong (p ^ e) (pos (a + d * factorial n)) (pos y)
solvable p e h n a y z g =
    let m : ℕ = p ^ e in
    let L : Laws p e ordinary (v p) = ordinary-laws p e h in
    let q : ℤ = pos (p ^ v p n) in
    let u : ℤ = L.part n n in
    let s : ℤ = L.inverse n in
    let found : (d : ℕ) × Cong m (pos d) (z *ℤ s) = natural_residue m (power_positive p e (listed-prime p e h).above) (z *ℤ s) in
    let whole : pos (factorial n) ≡ q *ℤ u = ap pos (sym (falls-self n)) ∙ sym (basis_falls n n) ∙ L.divides n n in
    let term : Cong m (pos found.0 *ℤ pos (factorial n)) (q *ℤ z *ℤ (u *ℤ s)) =
    cong_trans (cong_mul found.1 (cong_path m whole)) (cong_path m (unit_ring z s q u)) in
    let less : Cong m (q *ℤ z *ℤ (u *ℤ s)) (pos y -ℤ pos a) =
    cong_trans (cong_mul (cong_refl m (q *ℤ z)) (L.inverts n)) (cong_trans (cong_path m (one_ring q z)) (cong_sym g)) in
    (found.0, cong_trans (cong_add (cong_refl m (pos a)) (cong_trans term less)) (cong_path m (back_ring (pos a) (pos y))))

-- where no coefficient at place n gives y, no polynomial takes the values with y behind them
pub no_fit : (p e : ℕ) → Listed p e → (c : List ℕ) (n y : ℕ) → Reduced p e c → ((i : ℕ) → n ≤ i → get_or c i 0 ≡ 0)
    → ((d : ℕ) → Cong (p ^ e) (pos (value_at c n + d * factorial n)) (pos y) → ⊥) → Fits (p ^ e) (standing (p ^ e) c n ++ y ∷ []) → ⊥
no_fit p e h c n y r z none fit =
    let m : ℕ = p ^ e in
    let ys : List ℕ = standing m c n in
    let long : length ys ≡ n = length-standing m c n in
    let longer : length (ys ++ y ∷ []) ≡ n + 1 = length_push ys y ∙ ap (λ (k : ℕ). k + 1) long in
    let taken : ℕ → ℤ = λ i. pos (get_or (ys ++ y ∷ []) i 0) in
    let below : (t : ℕ) → t < n → Cong m (newton ordinary (coefficients c) n (pos t)) (taken t) =
    λ t l. cong_trans (newton_standing m c n t l) (cong_path m (ap pos (sym (get_or_append_left ys (y ∷ []) 0 t (omega arith))))) in
    let got : (q : ℤ) × Cong m (taken n -ℤ newton ordinary (coefficients c) n (pos n)) (pos (p ^ v p n) *ℤ q) =
    exact (ordinary-laws p e h) (coefficients c) taken n fit.0 below (λ t l. fit.1 t (omega arith)) in
    let last : taken n ≡ pos y = ap pos (get_or_push ys y 0 n long) in
    let here : newton ordinary (coefficients c) n (pos n) ≡ pos (value_at c n) = newton_is c n n ∙ ap pos (sym (value_at-stop c n n z)) in
    let rest : pos y -ℤ pos (value_at c n) ≡ taken n -ℤ newton ordinary (coefficients c) n (pos n) =
    ap (λ (k : ℤ). k -ℤ pos (value_at c n)) (sym last) ∙ ap (λ (k : ℤ). taken n -ℤ k) (sym here) in
    let solved = solvable p e h n (value_at c n) y got.0 (cong_trans (cong_path m rest) got.1) in
    none solved.0 solved.1
