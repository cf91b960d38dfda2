-- The coefficients of sums, multiples, falling factorials and Newton forms in powers of X, and the change of basis read on them. Assumes nothing.
use Rattle.std.proofs.Common.{◌≡◌, ℕ, zero, suc, ◌+◌, ◌-◌, ◌*◌, ◌<◌, ◌≤◌, List, [], ◌∷◌, length, get_or, ℤ, pos, ◌+ℤ◌, ◌*ℤ◌, neg_ℤ, sym, refl, ap, ◌∙◌, zero-add, arith}
use lib.IntN.{+ℤ_idl, +ℤ_idr, *ℤ-zero}
use Rattle.modulus.specs.Congruence.{Cong}
use Rattle.modulus.proofs.Integers.{zring, zlin}
use Rattle.modulus.proofs.Congruences.{cong_refl, cong_path, cong_trans, cong_add, cong_mul}
use Rattle.poly.specs.Polynomial.{value, plus, scaled, times_less, falling, form_from, form}
use Rattle.poly.specs.Equivalents.{Alike, SamePolynomial}
use Rattle.poly.proofs.Points.{below_suc}
use Rattle.poly.specs.Basis.{ordinary, to_newton}
use Rattle.poly.proofs.Basis.{to_newton-past}
use Rattle.poly.proofs.Rings.{zeros_ring, none-ring, drop-ring, form-ring}

-- ---- sums, multiples and falling factorials
pub get_or-plus : (f g : List ℤ) (k : ℕ) → get_or (plus f g) k (pos 0) ≡ get_or f k (pos 0) +ℤ get_or g k (pos 0)
get_or-plus [] g k = sym (+ℤ_idl (get_or g k (pos 0)))
get_or-plus (a ∷ f) [] k = sym (+ℤ_idr (get_or (a ∷ f) k (pos 0)))
get_or-plus (a ∷ f) (b ∷ g) zero = refl
get_or-plus (a ∷ f) (b ∷ g) (suc k) = get_or-plus f g k

pub get_or-scaled : (c : ℤ) (f : List ℤ) (k : ℕ) → get_or (scaled c f) k (pos 0) ≡ c *ℤ get_or f k (pos 0)
get_or-scaled c [] k = sym (*ℤ-zero c)
get_or-scaled c (a ∷ f) zero = refl
get_or-scaled c (a ∷ f) (suc k) = get_or-scaled c f k

pub get_or-times_less_zero : (a : ℤ) (f : List ℤ) → get_or (times_less a f) 0 (pos 0) ≡ neg_ℤ a *ℤ get_or f 0 (pos 0)
get_or-times_less_zero a f =
    get_or-plus (pos 0 ∷ f) (scaled (neg_ℤ a) f) 0 ∙ +ℤ_idl (get_or (scaled (neg_ℤ a) f) 0 (pos 0)) ∙ get_or-scaled (neg_ℤ a) f 0

pub get_or-times_less_suc : (a : ℤ) (f : List ℤ) (k : ℕ) → get_or (times_less a f) (suc k) (pos 0) ≡ get_or f k (pos 0) +ℤ neg_ℤ a *ℤ get_or f (suc k) (pos 0)
get_or-times_less_suc a f k =
    get_or-plus (pos 0 ∷ f) (scaled (neg_ℤ a) f) (suc k) ∙ ap (λ (z : ℤ). get_or f k (pos 0) +ℤ z) (get_or-scaled (neg_ℤ a) f (suc k))

-- (X)_i has no coefficient past place i
pub falling-past : (i k : ℕ) → i < k → get_or (falling i) k (pos 0) ≡ pos 0
falling-past i zero l = absurd (omega arith)
falling-past zero (suc k) l = refl
falling-past (suc i) (suc k) l =
    get_or-times_less_suc (pos i) (falling i) k ∙ ap (λ (z : ℤ). z +ℤ neg_ℤ (pos i) *ℤ get_or (falling i) (suc k) (pos 0)) (falling-past i k (omega arith))
    ∙ ap (λ (z : ℤ). pos 0 +ℤ neg_ℤ (pos i) *ℤ z) (falling-past i (suc k) (omega arith)) ∙ zeros_ring (neg_ℤ (pos i))

-- ---- sums of falling factorials
-- the sum of c i · (X)_i over i below n
abbrev pub sum_of : (ℕ → ℤ) → ℕ → List ℤ
sum_of c zero = []
sum_of c (suc n) = plus (sum_of c n) (scaled (c n) (falling n))

pub get_or-sum_suc : (c : ℕ → ℤ) (n k : ℕ)
    → get_or (sum_of c (suc n)) k (pos 0) ≡ get_or (sum_of c n) k (pos 0) +ℤ c n *ℤ get_or (falling n) k (pos 0)
get_or-sum_suc c n k =
    get_or-plus (sum_of c n) (scaled (c n) (falling n)) k ∙ ap (λ (z : ℤ). get_or (sum_of c n) k (pos 0) +ℤ z) (get_or-scaled (c n) (falling n) k)

-- terms whose coefficients are 0 add nothing
pub sum_of-stop : (c : ℕ → ℤ) (j n : ℕ) → j ≤ n → ((i : ℕ) → j ≤ i → c i ≡ pos 0) → (k : ℕ)
    → get_or (sum_of c n) k (pos 0) ≡ get_or (sum_of c j) k (pos 0)
sum_of-stop c j zero l h k =
    let same : zero ≡ j = omega arith in
    ap (λ (n : ℕ). get_or (sum_of c n) k (pos 0)) same
sum_of-stop c j (suc n) l h k =
    below_suc (λ (j : ℕ). ((i : ℕ) → j ≤ i → c i ≡ pos 0) → get_or (sum_of c (suc n)) k (pos 0) ≡ get_or (sum_of c j) k (pos 0)) (suc n)
    (λ j l h. get_or-sum_suc c n k ∙ ap (λ (z : ℤ). get_or (sum_of c n) k (pos 0) +ℤ z *ℤ get_or (falling n) k (pos 0)) (h n (omega arith))
    ∙ none-ring (get_or (sum_of c n) k (pos 0)) (get_or (falling n) k (pos 0)) ∙ sum_of-stop c j n (omega arith) h k)
    (λ h. refl)
    j (omega arith) h

-- ---- the change of basis, coefficient by coefficient
start_ring : (a g : ℤ) → pos 0 +ℤ (a +ℤ pos 0 *ℤ g) *ℤ pos 1 ≡ a +ℤ pos 0 *ℤ g *ℤ pos 1
start_ring a g = simp zring

start_suc_ring : (a g : ℤ) → pos 0 +ℤ (a +ℤ pos 0 *ℤ g) *ℤ pos 0 ≡ pos 0 +ℤ pos 0 *ℤ g *ℤ pos 0
start_suc_ring a g = simp zring

step-ring : (a q g b r h : ℤ) → a +ℤ q *ℤ g *ℤ b +ℤ (g +ℤ r *ℤ h) *ℤ (neg_ℤ q *ℤ b) ≡ a +ℤ r *ℤ h *ℤ (neg_ℤ q *ℤ b)
step-ring a q g b r h = simp zring (omega zlin)

step-suc_ring : (s q g b c r h : ℤ) → s +ℤ q *ℤ g *ℤ c +ℤ (g +ℤ r *ℤ h) *ℤ (b +ℤ neg_ℤ q *ℤ c) ≡ s +ℤ g *ℤ b +ℤ r *ℤ h *ℤ (b +ℤ neg_ℤ q *ℤ c)
step-suc_ring s q g b c r h = simp zring (omega zlin)

-- the first n + 1 terms for a + X·f at place 0
sum_of-cons_zero : (a : ℤ) (f : List ℤ) (n : ℕ)
    → get_or (sum_of (to_newton ordinary (a ∷ f)) (suc n)) 0 (pos 0) ≡ a +ℤ pos n *ℤ to_newton ordinary f n *ℤ get_or (falling n) 0 (pos 0)
sum_of-cons_zero a f zero = get_or-sum_suc (to_newton ordinary (a ∷ f)) 0 0 ∙ start_ring a (to_newton ordinary f 0)
sum_of-cons_zero a f (suc n) =
    let t : ℕ → ℤ = to_newton ordinary f in
    let b : ℤ = get_or (falling n) 0 (pos 0) in
    let last : get_or (falling (suc n)) 0 (pos 0) ≡ neg_ℤ (pos n) *ℤ b = get_or-times_less_zero (pos n) (falling n) in
    get_or-sum_suc (to_newton ordinary (a ∷ f)) (suc n) 0
    ∙ ap (λ (z : ℤ). z +ℤ (t n +ℤ pos (suc n) *ℤ t (suc n)) *ℤ get_or (falling (suc n)) 0 (pos 0)) (sum_of-cons_zero a f n)
    ∙ ap (λ (z : ℤ). a +ℤ pos n *ℤ t n *ℤ b +ℤ (t n +ℤ pos (suc n) *ℤ t (suc n)) *ℤ z) last
    ∙ step-ring a (pos n) (t n) b (pos (suc n)) (t (suc n))
    ∙ ap (λ (z : ℤ). a +ℤ pos (suc n) *ℤ t (suc n) *ℤ z) (sym last)

-- and at the places behind it, by the first n terms for f
sum_of-cons_suc : (a : ℤ) (f : List ℤ) (n k : ℕ)
    → get_or (sum_of (to_newton ordinary (a ∷ f)) (suc n)) (suc k) (pos 0)
    ≡ get_or (sum_of (to_newton ordinary f) n) k (pos 0) +ℤ pos n *ℤ to_newton ordinary f n *ℤ get_or (falling n) (suc k) (pos 0)
sum_of-cons_suc a f zero k = get_or-sum_suc (to_newton ordinary (a ∷ f)) 0 (suc k) ∙ start_suc_ring a (to_newton ordinary f 0)
sum_of-cons_suc a f (suc n) k =
    let t : ℕ → ℤ = to_newton ordinary f in
    let b : ℤ = get_or (falling n) k (pos 0) in
    let c : ℤ = get_or (falling n) (suc k) (pos 0) in
    let s : ℤ = get_or (sum_of t n) k (pos 0) in
    let last : get_or (falling (suc n)) (suc k) (pos 0) ≡ b +ℤ neg_ℤ (pos n) *ℤ c = get_or-times_less_suc (pos n) (falling n) k in
    get_or-sum_suc (to_newton ordinary (a ∷ f)) (suc n) (suc k)
    ∙ ap (λ (z : ℤ). z +ℤ (t n +ℤ pos (suc n) *ℤ t (suc n)) *ℤ get_or (falling (suc n)) (suc k) (pos 0)) (sum_of-cons_suc a f n k)
    ∙ ap (λ (z : ℤ). s +ℤ pos n *ℤ t n *ℤ c +ℤ (t n +ℤ pos (suc n) *ℤ t (suc n)) *ℤ z) last
    ∙ step-suc_ring s (pos n) (t n) b c (pos (suc n)) (t (suc n))
    ∙ ap (λ (z : ℤ). z +ℤ pos (suc n) *ℤ t (suc n) *ℤ (b +ℤ neg_ℤ (pos n) *ℤ c)) (sym (get_or-sum_suc t n k))
    ∙ ap (λ (z : ℤ). get_or (sum_of t (suc n)) k (pos 0) +ℤ pos (suc n) *ℤ t (suc n) *ℤ z) (sym last)

-- f is the sum of its Newton coefficients times the falling factorials
pub to_newton-polynomial : (f : List ℤ) (n : ℕ) → length f ≤ n → (k : ℕ) → get_or f k (pos 0) ≡ get_or (sum_of (to_newton ordinary f) n) k (pos 0)
to_newton-polynomial [] n l k = sym (sum_of-stop (to_newton ordinary []) 0 n (omega arith) (λ i g. refl) k)
to_newton-polynomial (a ∷ f) zero l k = absurd (omega arith)
to_newton-polynomial (a ∷ f) (suc n) l zero =
    sym
    (sum_of-cons_zero a f n ∙ ap (λ (z : ℤ). a +ℤ pos n *ℤ z *ℤ get_or (falling n) 0 (pos 0)) (to_newton-past ordinary f n (omega arith))
    ∙ drop-ring a (pos n) (get_or (falling n) 0 (pos 0)))
to_newton-polynomial (a ∷ f) (suc n) l (suc k) =
    let s : ℤ = get_or (sum_of (to_newton ordinary f) n) k (pos 0) in
    to_newton-polynomial f n (omega arith) k
    ∙ sym
    (sum_of-cons_suc a f n k ∙ ap (λ (z : ℤ). s +ℤ pos n *ℤ z *ℤ get_or (falling n) (suc k) (pos 0)) (to_newton-past ordinary f n (omega arith))
    ∙ drop-ring s (pos n) (get_or (falling n) (suc k) (pos 0)))

-- ---- a Newton form
-- the terms below j and the form from j on make up the whole
form-sum_from : (c : List ℕ) (d : ℕ → ℤ) (j n : ℕ) → j + length c ≤ n → ((i t : ℕ) → t ≡ j + i → d t ≡ pos (get_or c i 0)) → (k : ℕ)
    → get_or (form_from j c) k (pos 0) +ℤ get_or (sum_of d j) k (pos 0) ≡ get_or (sum_of d n) k (pos 0)
form-sum_from [] d j n l h k =
    +ℤ_idl (get_or (sum_of d j) k (pos 0)) ∙ sym (sum_of-stop d j n (omega arith) (λ i g. h (i - j) i (omega arith)) k)
form-sum_from (a ∷ c) d j n l h k =
    let b : ℤ = get_or (falling j) k (pos 0) in
    let s : ℤ = get_or (sum_of d j) k (pos 0) in
    let f : ℤ = get_or (form_from (suc j) c) k (pos 0) in
    ap (λ (z : ℤ). z +ℤ s)
    (get_or-plus (scaled (pos a) (falling j)) (form_from (suc j) c) k ∙ ap (λ (z : ℤ). z +ℤ f) (get_or-scaled (pos a) (falling j) k))
    ∙ form-ring (pos a) b f s ∙ ap (λ (z : ℤ). f +ℤ (s +ℤ z *ℤ b)) (sym (h 0 j (omega arith)))
    ∙ ap (λ (z : ℤ). f +ℤ z) (sym (get_or-sum_suc d j k)) ∙ form-sum_from c d (suc j) n (omega arith) (λ i t e. h (suc i) t (omega arith)) k

pub form-sum : (c : List ℕ) (n : ℕ) → length c ≤ n → (k : ℕ) → get_or (form c) k (pos 0) ≡ get_or (sum_of (λ (i : ℕ). pos (get_or c i 0)) n) k (pos 0)
form-sum c n l k =
    sym (+ℤ_idr (get_or (form c) k (pos 0)))
    ∙ form-sum_from c (λ (i : ℕ). pos (get_or c i 0)) 0 n (omega arith) (λ i t e. ap (λ (n : ℕ). pos (get_or c n 0)) (e ∙ zero-add i)) k

-- ---- coefficients that agree modulo m give values that agree
pub same-values : (m : ℕ) (f g : List ℤ) → SamePolynomial m f g → (x : ℤ) → Cong m (value f x) (value g x)
same-values m [] [] h x = cong_refl m (pos 0)
same-values m [] (b ∷ g) h x =
    cong_trans (cong_path m (sym (zeros_ring x))) (cong_add (h 0) (cong_mul (cong_refl m x) (same-values m [] g (λ k. h (suc k)) x)))
same-values m (a ∷ f) [] h x =
    cong_trans (cong_add (h 0) (cong_mul (cong_refl m x) (same-values m f [] (λ k. h (suc k)) x))) (cong_path m (zeros_ring x))
same-values m (a ∷ f) (b ∷ g) h x = cong_add (h 0) (cong_mul (cong_refl m x) (same-values m f g (λ k. h (suc k)) x))

pub same_alike : (m : ℕ) (f g : List ℤ) → SamePolynomial m f g → Alike m f g
same_alike m f g h x = same-values m f g h (pos x)

-- ---- lists of natural numbers that agree with coefficients modulo m, one step further
-- t stands for −i: from (X)_i to (X)_(i + 1)
pub same-falling_step : (m i : ℕ) (ks ls : List ℕ) → ((k : ℕ) → Cong m (pos (get_or ks k 0)) (get_or (falling i) k (pos 0)))
    → (t : ℕ) → Cong m (pos t) (neg_ℤ (pos i)) → Cong m (pos (get_or ls 0 0)) (pos (t * get_or ks 0 0))
    → ((k : ℕ) → Cong m (pos (get_or ls (suc k) 0)) (pos (get_or ks k 0 + t * get_or ks (suc k) 0)))
    → (k : ℕ) → Cong m (pos (get_or ls k 0)) (get_or (falling (suc i)) k (pos 0))
same-falling_step m i ks ls h t g first rest zero =
    cong_trans first (cong_trans (cong_mul g (h 0)) (cong_path m (sym (get_or-times_less_zero (pos i) (falling i)))))
same-falling_step m i ks ls h t g first rest (suc k) =
    cong_trans (rest k) (cong_trans (cong_add (h k) (cong_mul g (h (suc k)))) (cong_path m (sym (get_or-times_less_suc (pos i) (falling i) k))))

-- from f to a + X·f
pub same-newton_step : (m a : ℕ) (f : List ℤ) (ks ls : List ℕ) → ((k : ℕ) → Cong m (pos (get_or ks k 0)) (to_newton ordinary f k))
    → Cong m (pos (get_or ls 0 0)) (pos a) → ((k : ℕ) → Cong m (pos (get_or ls (suc k) 0)) (pos (get_or ks k 0 + suc k * get_or ks (suc k) 0)))
    → (k : ℕ) → Cong m (pos (get_or ls k 0)) (to_newton ordinary (pos a ∷ f) k)
same-newton_step m a f ks ls h first rest zero = cong_trans first (cong_path m (sym (none-ring (pos a) (to_newton ordinary f 0))))
same-newton_step m a f ks ls h first rest (suc k) = cong_trans (rest k) (cong_add (h k) (cong_mul (cong_refl m (pos (suc k))) (h (suc k))))
