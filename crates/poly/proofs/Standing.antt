-- The values of a Newton form at whole numbers as they are computed, the list of the first of them, and the length of a form. Assumes nothing.
use Rattle.std.proofs.Common.{◌≡◌, ℕ, zero, suc, ◌+◌, ◌*◌, ◌%◌, ◌<◌, ◌≤◌, List, [], ◌∷◌, ◌++◌, length, get_or, take, replicate, ℤ, pos, ◌+ℤ◌, ◌*ℤ◌, sym, refl, ap, ◌∙◌, le_refl, arith}
use native.Mathlib.Decide.{dec_lt}
use Rattle.std.proofs.lemmas.List.{length_push, length-take, get_or_push, get_or-take, get_or_append_left, get_or_past}
use Rattle.poly.specs.Polynomial.{value, form}
use Rattle.poly.specs.Reduced.{longer, form_length, falls, sum_to, value_at, standing}
use Rattle.poly.proofs.Points.{newton, below_suc}
use Rattle.poly.proofs.Values.{value-form}
use Rattle.poly.specs.Basis.{ordinary}
use Rattle.poly.proofs.Falling.{falls-past, basis_falls}

-- ---- the value of a form
pub newton_is : (c : List ℕ) (k x : ℕ) → newton ordinary (λ (i : ℕ). pos (get_or c i 0)) k (pos x) ≡ pos (sum_to c x k)
newton_is c zero x = refl
newton_is c (suc k) x =
    ap (λ (z : ℤ). newton ordinary (λ (i : ℕ). pos (get_or c i 0)) k (pos x) +ℤ pos (get_or c k 0) *ℤ z) (basis_falls k x)
    ∙ ap (λ (z : ℤ). z +ℤ pos (get_or c k 0 * falls x k)) (newton_is c k x)

pub value-is : (c : List ℕ) (x : ℕ) → value (form c) (pos x) ≡ pos (value_at c x)
value-is c x = value-form c (length c) (le_refl (length c)) (pos x) ∙ newton_is c (length c) x

-- ---- which terms it has
pub sum_to-same : (c d : List ℕ) (x k : ℕ) → ((i : ℕ) → i < k → get_or c i 0 ≡ get_or d i 0) → sum_to c x k ≡ sum_to d x k
sum_to-same c d x zero h = refl
sum_to-same c d x (suc k) h =
    ap (λ (n : ℕ). n + get_or c k 0 * falls x k) (sum_to-same c d x k (λ i l. h i (omega arith)))
    ∙ ap (λ (n : ℕ). sum_to d x k + n * falls x k) (h k (omega arith))

-- terms past x vanish
pub sum_to-past : (c : List ℕ) (x k : ℕ) → x < k → sum_to c x k ≡ sum_to c x (suc x)
sum_to-past c x zero l = absurd (omega arith)
sum_to-past c x (suc k) l =
    below_suc (λ (x : ℕ). sum_to c x (suc k) ≡ sum_to c x (suc x)) k
    (λ x l. ap (λ (n : ℕ). sum_to c x k + get_or c k 0 * n) (falls-past x k l) ∙ none (sum_to c x k) (get_or c k 0) ∙ sum_to-past c x k l)
    refl
    x l
  where
    none : (s a : ℕ) → s + a * 0 ≡ s
    none s a = omega arith

-- terms whose coefficients are 0 add nothing
pub sum_to-stop : (c : List ℕ) (x j k : ℕ) → ((i : ℕ) → j ≤ i → get_or c i 0 ≡ 0) → sum_to c x (j + k) ≡ sum_to c x j
sum_to-stop c x j zero h =
    let same : j + zero ≡ j = omega arith in
    ap (λ (n : ℕ). sum_to c x n) same
sum_to-stop c x j (suc k) h =
    let step : j + suc k ≡ suc (j + k) = omega arith in
    ap (λ (n : ℕ). sum_to c x n) step ∙ ap (λ (n : ℕ). sum_to c x (j + k) + n * falls x (j + k)) (h (j + k) (omega arith))
    ∙ none (sum_to c x (j + k)) (falls x (j + k)) ∙ sum_to-stop c x j k h
  where
    none : (s a : ℕ) → s + 0 * a ≡ s
    none s a = omega arith

pub value_at-more : (c : List ℕ) (x k : ℕ) → value_at c x ≡ sum_to c x (length c + k)
value_at-more c x k = sym (sum_to-stop c x (length c) k (λ i l. get_or_past c i 0 l))

pub value_at-stop : (c : List ℕ) (x k : ℕ) → ((i : ℕ) → k ≤ i → get_or c i 0 ≡ 0) → value_at c x ≡ sum_to c x k
value_at-stop c x k h =
    let turn : length c + k ≡ k + length c = omega arith in
    value_at-more c x k ∙ ap (λ (n : ℕ). sum_to c x n) turn ∙ sum_to-stop c x k (length c) h

pub value_at-past : (c : List ℕ) (x k : ℕ) → x < k → value_at c x ≡ sum_to c x k
value_at-past c x k l = value_at-more c x k ∙ sum_to-past c x (length c + k) (omega arith) ∙ sym (sum_to-past c x k l)

-- the value at x looks only at places up to x
pub value_same : (c d : List ℕ) (x : ℕ) → ((i : ℕ) → i ≤ x → get_or c i 0 ≡ get_or d i 0) → value_at c x ≡ value_at d x
value_same c d x h =
    value_at-past c x (suc x) (omega arith) ∙ sum_to-same c d x (suc x) (λ i l. h i (omega arith)) ∙ sym (value_at-past d x (suc x) (omega arith))

-- ---- the list of the first values
pub length-standing : (m : ℕ) (c : List ℕ) (n : ℕ) → length (standing m c n) ≡ n
length-standing m c zero = refl
length-standing m c (suc n) = omega (arith, length_push (standing m c n) (value_at c n % m), length-standing m c n)

pub standing-at : (m : ℕ) (c : List ℕ) (n i : ℕ) → i < n → get_or (standing m c n) i 0 ≡ value_at c i % m
standing-at m c zero i l = absurd (omega arith)
standing-at m c (suc n) i l =
    below_suc (λ (i : ℕ). get_or (standing m c (suc n)) i 0 ≡ value_at c i % m) n
    (λ i l. get_or_append_left (standing m c n) (value_at c n % m ∷ []) 0 i (omega (arith, length-standing m c n)) ∙ standing-at m c n i l)
    (get_or_push (standing m c n) (value_at c n % m) 0 n (length-standing m c n))
    i l

pub standing-same : (m : ℕ) (c d : List ℕ) (n : ℕ) → ((i : ℕ) → i < n → get_or c i 0 ≡ get_or d i 0) → standing m c n ≡ standing m d n
standing-same m c d zero h = refl
standing-same m c d (suc n) h =
    ap (λ (l : List ℕ). l ++ (value_at c n % m) ∷ []) (standing-same m c d n (λ i l. h i (omega arith)))
    ∙ ap (λ (x : ℕ). standing m d n ++ (x % m) ∷ []) (value_same c d n (λ i l. h i (omega arith)))

-- ---- the length of a form
longer-none : (a k : ℕ) → longer a k ≤ 0 → a ≡ 0
longer-none zero k l = refl
longer-none (suc a) zero l = absurd (omega arith)
longer-none (suc a) (suc k) l = absurd (omega arith)

longer-rest : (a k i : ℕ) → longer a k ≤ suc i → k ≤ i
longer-rest a zero i l = omega arith
longer-rest a (suc k) i l = omega (arith, l)

longer-zero : (a k : ℕ) → a ≡ 0 → k ≤ 0 → longer a k ≤ 0
longer-zero zero zero e l = omega arith
longer-zero (suc a) k e l = absurd (omega arith)
longer-zero zero (suc k) e l = absurd (omega arith)

longer-suc : (a k i : ℕ) → k ≤ i → longer a k ≤ suc i
longer-suc zero zero i l = omega arith
longer-suc (suc a) zero i l = omega arith
longer-suc a (suc k) i l = omega arith

pub form_length-le : (c : List ℕ) (k : ℕ) → ((i : ℕ) → k ≤ i → get_or c i 0 ≡ 0) → form_length c ≤ k
form_length-le [] k h = omega arith
form_length-le (a ∷ c) zero h = longer-zero a (form_length c) (h 0 (omega arith)) (form_length-le c 0 (λ i l. h (suc i) (omega arith)))
form_length-le (a ∷ c) (suc k) h = longer-suc a (form_length c) k (form_length-le c k (λ i l. h (suc i) (omega arith)))

pub form_length-past : (c : List ℕ) (i : ℕ) → form_length c ≤ i → get_or c i 0 ≡ 0
form_length-past [] i l = refl
form_length-past (a ∷ c) zero l = longer-none a (form_length c) l
form_length-past (a ∷ c) (suc i) l = form_length-past c i (longer-rest a (form_length c) i l)

-- a list of zeros reads 0 everywhere
pub zeros : (n k : ℕ) → get_or {A = ℕ} (replicate n 0) k 0 ≡ 0
zeros zero k = refl
zeros (suc n) zero = refl
zeros (suc n) (suc k) = zeros n k

-- ---- the front of a list that has all that is not 0
pub front_same : (c : List ℕ) (k : ℕ) → ((i : ℕ) → k ≤ i → get_or c i 0 ≡ 0) → (i : ℕ) → get_or (take k c) i 0 ≡ get_or c i 0
front_same c k clear i = go (dec_lt i k)
  where
    go : Dec (i < k) → get_or (take k c) i 0 ≡ get_or c i 0
    go (yes lt) = get_or-take k c i 0 lt
    go (no ge) = get_or_past (take k c) i 0 (omega (arith, length-take k c)) ∙ sym (clear i (omega arith))
