-- The reduced form of a polynomial, what tells two polynomials apart, and what spans the null ones. Assumes nothing.
use Rattle.std.proofs.Common.{◌≡◌, ℕ, zero, suc, ◌+◌, ◌*◌, ◌%◌, ◌^◌, ◌<◌, ◌≤◌, List, [], ◌∷◌, length, get_or, take, ℤ, pos, negsuc, ◌+ℤ◌, ◌*ℤ◌, sym, refl, ap, ◌∙◌, subst, mod-lt, arith}
use native.Mathlib.Decide.{dec_lt}
use Rattle.std.proofs.lemmas.List.{get_or_past}
use Rattle.modulus.specs.Congruence.{Cong}
use Rattle.modulus.specs.Moduli.{Listed}
use Rattle.modulus.specs.Bounds.{v, w, Mu}
use Rattle.modulus.proofs.Integers.{zring, zlin}
use Rattle.modulus.proofs.Congruences.{cong_refl, cong_path, cong_sym, cong_trans, cong_add, cong_mul, cong_one, cong_mod, cong_lower}
use Rattle.modulus.proofs.Bounds.{w-past, w-positive}
use Rattle.poly.specs.Polynomial.{value, scaled, falling, form}
use Rattle.poly.specs.Reduced.{Reduced, SameForm}
use Rattle.poly.specs.Equivalents.{Alike, Null, SamePolynomial, Reduces, null_at, combination, difference, GivesBack, Span, ToldApart}
use Rattle.poly.proofs.Points.{everywhere, unique, vanish}
use Rattle.poly.specs.Basis.{ordinary, to_newton}
use Rattle.poly.proofs.Basis.{to_newton-value}
use Rattle.poly.proofs.Values.{value-plus, value-scaled, value-falling, value-form}
use Rattle.poly.proofs.Falling.{ordinary-laws}
use Rattle.poly.proofs.Standing.{value-is, value_same, front_same}
use Rattle.poly.proofs.Reports.{coefficients, same-from_values}
use Rattle.poly.proofs.Coefficients.{get_or-plus, get_or-scaled, sum_of, get_or-sum_suc, to_newton-polynomial, same_alike}
use Rattle.poly.proofs.Rings.{zeros_ring}

-- ---- the reduced form
-- one form has one list of values
pub same-form_alike : (m : ℕ) (c d : List ℕ) → SameForm c d → Alike m (form c) (form d)
same-form_alike m c d h x = cong_path m (value-is c x ∙ ap pos (value_same c d x (λ i l. h i)) ∙ sym (value-is d x))

-- reduced forms that are alike are one
pub alike-same_form : (p e : ℕ) → Listed p e → (c d : List ℕ) → Reduced p e c → Reduced p e d → Alike (p ^ e) (form c) (form d) → SameForm c d
alike-same_form p e h c d rc rd a =
    same-from_values p e h c d (length c + length d) rc rd (λ i l. get_or_past c i 0 (omega arith)) (λ i l. get_or_past d i 0 (omega arith))
    (λ i l. cong_trans (cong_path (p ^ e) (sym (value-is c i))) (cong_trans (a i) (cong_path (p ^ e) (value-is d i))))

-- a form whose coefficients agree with those of f modulo w(i) below μ is alike to f
pub newton_alike : (p e : ℕ) → Listed p e → (f : List ℤ) (c : List ℕ) (k : ℕ) → Mu p e k
    → ((i : ℕ) → i < k → Cong (w p e i) (pos (get_or c i 0)) (to_newton ordinary f i)) → Alike (p ^ e) (form c) f
newton_alike p e h f c k mu s x =
    let n : ℕ = length c + length f in
    cong_trans (cong_path (p ^ e) (value-form c n (omega arith) (pos x)))
    (cong_trans (everywhere (ordinary-laws p e h) (coefficients c) (to_newton ordinary f) n (λ i l. agree i (dec_lt i k)) x)
    (cong_path (p ^ e) (to_newton-value ordinary f n (omega arith) (pos x))))
  where
    agree : (i : ℕ) → Dec (i < k) → Cong (w p e i) (pos (get_or c i 0)) (to_newton ordinary f i)
    agree i (yes l) = s i l
    agree i (no l) =
        subst (λ (m : ℕ). Cong m (pos (get_or c i 0)) (to_newton ordinary f i)) (sym (w-past p e k i mu (omega arith)))
        (cong_one (pos (get_or c i 0)) (to_newton ordinary f i))

pub reduces : (p e : ℕ) → Listed p e → (f : List ℤ) (c : List ℕ) (k : ℕ) → Mu p e k → Reduced p e c
    → ((i : ℕ) → i < k → Cong (w p e i) (pos (get_or c i 0)) (to_newton ordinary f i)) → Reduces p e f c
reduces p e h f c k mu r s =
    let a : Alike (p ^ e) (form c) f = newton_alike p e h f c k mu s in
    record {
      reduced = r;
      alike = a;
      only = λ d rd b. alike-same_form p e h d c rd r (λ x. cong_trans (b x) (cong_sym (a x)));
    }

pub gives_back : GivesBack
gives_back p e c d f r same k = k.only c r (same_alike (p ^ e) (form c) f same)

-- ---- what tells two polynomials apart
value-difference : (f g : List ℤ) (x : ℤ) → value (difference f g) x ≡ value f x +ℤ negsuc 0 *ℤ value g x
value-difference f g x = value-plus f (scaled (negsuc 0) g) x ∙ ap (λ (z : ℤ). value f x +ℤ z) (value-scaled (negsuc 0) g x)

gone_ring : (a : ℤ) → a +ℤ negsuc 0 *ℤ a ≡ pos 0
gone_ring a = simp zring (omega zlin)

back_ring : (a b : ℤ) → a ≡ a +ℤ negsuc 0 *ℤ b +ℤ b
back_ring a b = simp zring (omega zlin)

here-ring : (b : ℤ) → pos 0 +ℤ b ≡ b
here-ring b = simp zring

pub alike-null : (m : ℕ) (f g : List ℤ) → Alike m f g → Null m (difference f g)
alike-null m f g h x =
    let b : ℤ = value g (pos x) in
    cong_trans (cong_path m (value-difference f g (pos x)))
    (cong_trans (cong_add (h x) (cong_refl m (negsuc 0 *ℤ b))) (cong_path m (gone_ring b)))

pub null_alike : (m : ℕ) (f g : List ℤ) → Null m (difference f g) → Alike m f g
null_alike m f g h x =
    let b : ℤ = value g (pos x) in
    cong_trans (cong_path m (back_ring (value f (pos x)) b ∙ ap (λ (z : ℤ). z +ℤ b) (sym (value-difference f g (pos x)))))
    (cong_trans (cong_add (h x) (cong_refl m b)) (cong_path m (here-ring b)))

pub told_apart : ToldApart
told_apart p e h f g c d rf rg = (
  (alike-null (p ^ e) f g, null_alike (p ^ e) f g),
  (
    λ a. rg.only c rf.reduced (λ x. cong_trans (rf.alike x) (a x)),
    λ s x. cong_trans (cong_sym (rf.alike x)) (cong_trans (same-form_alike (p ^ e) c d s x) (rg.alike x)),
  ),
)

-- ---- null polynomials
pub null_at-null : (p e : ℕ) → Listed p e → (i : ℕ) → Null (p ^ e) (null_at p e i)
null_at-null p e h i x =
    cong_trans
    (cong_path (p ^ e) (value-scaled (pos (w p e i)) (falling i) (pos x) ∙ ap (λ (z : ℤ). pos (w p e i) *ℤ z) (value-falling i (pos x))))
    (vanish (ordinary-laws p e h) i x)

pub combination-null : (p e : ℕ) → Listed p e → (k : ℕ → ℤ) (n : ℕ) → Null (p ^ e) (combination p e k n)
combination-null p e h k zero x = cong_refl (p ^ e) (pos 0)
combination-null p e h k (suc n) x =
    cong_trans
    (cong_path (p ^ e)
    (value-plus (combination p e k n) (scaled (k n) (null_at p e n)) (pos x)
    ∙ ap (λ (z : ℤ). value (combination p e k n) (pos x) +ℤ z) (value-scaled (k n) (null_at p e n) (pos x))))
    (cong_trans (cong_add (combination-null p e h k n x) (cong_mul (cong_refl (p ^ e) (k n)) (null_at-null p e h n x)))
    (cong_path (p ^ e) (zeros_ring (k n))))

-- the Newton coefficients of a null polynomial are multiples of the bounds
pub null_coefficient : (p e : ℕ) → Listed p e → (f : List ℤ) → Null (p ^ e) f → (i : ℕ) → Cong (w p e i) (to_newton ordinary f i) (pos 0)
null_coefficient p e h f null i =
    let n : ℕ = suc i + length f in
    unique (ordinary-laws p e h) (to_newton ordinary f) (to_newton ordinary []) n n (suc i) (omega arith) (omega arith)
    (λ t l.
    cong_trans (cong_path (p ^ e) (to_newton-value ordinary f n (omega arith) (pos t)))
    (cong_trans (null t) (cong_path (p ^ e) (sym (to_newton-value ordinary [] n (omega arith) (pos t))))))
    i (omega arith)

term_ring : (k w b : ℤ) → (pos 0 +ℤ k *ℤ w) *ℤ b ≡ k *ℤ (w *ℤ b)
term_ring k w b = simp zring

-- a sum of falling factorials whose coefficients are k i · w(i)
pub sum-combination : (p e : ℕ) (c k : ℕ → ℤ) → ((i : ℕ) → c i ≡ pos 0 +ℤ k i *ℤ pos (w p e i)) → (n j : ℕ)
    → get_or (sum_of c n) j (pos 0) ≡ get_or (combination p e k n) j (pos 0)
sum-combination p e c k h zero j = refl
sum-combination p e c k h (suc n) j =
    let b : ℤ = get_or (falling n) j (pos 0) in
    let s : ℤ = get_or (combination p e k n) j (pos 0) in
    get_or-sum_suc c n j ∙ ap (λ (z : ℤ). z +ℤ c n *ℤ b) (sum-combination p e c k h n j)
    ∙ ap (λ (z : ℤ). s +ℤ z *ℤ b) (h n) ∙ ap (λ (z : ℤ). s +ℤ z) (term_ring (k n) (pos (w p e n)) b)
    ∙ ap (λ (z : ℤ). s +ℤ k n *ℤ z) (sym (get_or-scaled (pos (w p e n)) (falling n) j))
    ∙ ap (λ (z : ℤ). s +ℤ z) (sym (get_or-scaled (k n) (null_at p e n) j))
    ∙ sym (get_or-plus (combination p e k n) (scaled (k n) (null_at p e n)) j)

-- a null polynomial is such a combination, with as many terms as it has coefficients or more
pub null_combination : (p e : ℕ) → Listed p e → (f : List ℤ) (n : ℕ) → length f ≤ n → Null (p ^ e) f
    → (k : ℕ → ℤ) × SamePolynomial (p ^ e) f (combination p e k n)
null_combination p e h f n l null =
    let k : ℕ → ℤ = λ i. (null_coefficient p e h f null i).times in (
      k,
      λ j.
          cong_path (p ^ e)
          (to_newton-polynomial f n l j ∙ sum-combination p e (to_newton ordinary f) k (λ i. (null_coefficient p e h f null i).is) n j),
    )

pub span : Span
span p e h f l = (
  null_combination p e h f 64 l,
  λ s x. cong_trans (same_alike (p ^ e) f (combination p e s.0 64) s.1 x) (combination-null p e h s.0 64 x),
)

-- ---- an example: 2X + 2X² is null modulo 4
triangle : (x : ℕ) → (t : ℕ) × (x * (2 + x * (2 + x * 0)) ≡ t * 4)
triangle zero = (0, refl)
triangle (suc x) = let t = triangle x in (t.0 + suc x, omega (arith, t.1))

pub null_example : Null 4 (pos 0 ∷ pos 2 ∷ pos 2 ∷ [])
null_example x = record { times = pos (triangle x).0; is = ap (λ (n : ℕ). pos (0 + n)) (triangle x).1 }

-- ---- remainders by the bounds of a Newton form that is not reduced yet, at all of n places
pub reduces_remainders : (p e m u n : ℕ) → Listed p e → m ≡ p ^ e → Mu p e u → u ≤ n → (f : List ℤ) (ks c : List ℕ)
    → ((k : ℕ) → Cong m (pos (get_or ks k 0)) (to_newton ordinary f k)) → ((k : ℕ) → k < n → get_or c k 0 ≡ get_or ks k 0 % w p e k) → ((k : ℕ) → n ≤ k → get_or c k 0 ≡ 0)
    → Reduces p e f c
reduces_remainders p e m u n listed is mu few f ks c held made past =
    reduces p e listed f c u mu small
    (λ i lt. cong_trans (cong_path (w p e i) (ap pos (made i (omega arith))))
    (cong_trans (cong_sym (cong_mod (w p e i) (get_or ks i 0))) (cong_lower p e (v p i) (subst (λ (n : ℕ). Cong n (pos (get_or ks i 0)) (to_newton ordinary f i)) is (held i)))))
  where
    small : (i : ℕ) → get_or c i 0 < w p e i
    small i = go (dec_lt i n)
      where
        go : Dec (i < n) → get_or c i 0 < w p e i
        go (yes lt) = rw (made i lt) (mod-lt (get_or ks i 0) (w-positive p e i listed))
        go (no ge) = rw (past i (omega arith)) (w-positive p e i listed)

-- a form that is the same in every place serves as well
pub reduces_same : (p e : ℕ) (f : List ℤ) (c d : List ℕ) → Reduces p e f c → SameForm d c → Reduces p e f d
reduces_same p e f c d h same =
    record {
      reduced = λ i. rw (same i) (h.reduced i);
      alike = λ x. cong_trans (same-form_alike (p ^ e) d c same x) (h.alike x);
      only = λ b reduced alike i. h.only b reduced alike i ∙ sym (same i);
    }

-- a reduced form has no coefficient from place μ on
pub reduced-past : (p e u : ℕ) → Mu p e u → (c : List ℕ) → Reduced p e c → (k : ℕ) → u ≤ k → get_or c k 0 ≡ 0
reduced-past p e u mu c reduced k le =
    let one : w p e k ≡ 1 = w-past p e u k mu le in
    omega (arith, reduced k)

-- so its first coefficients, behind which there are only zeros, are all of it
pub reduces_front : (p e : ℕ) (f : List ℤ) (c : List ℕ) (n : ℕ) → Reduces p e f c → ((k : ℕ) → n ≤ k → get_or c k 0 ≡ 0) → Reduces p e f (take n c)
reduces_front p e f c n h clear = reduces_same p e f c (take n c) h (front_same c n clear)
