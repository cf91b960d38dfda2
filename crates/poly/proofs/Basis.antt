-- The change from powers of X to a Newton form, and what a polynomial says of the form through its values. Assumes nothing.
use Rattle.std.proofs.Common.{◌≡◌, ℕ, zero, suc, ◌+◌, ◌-◌, ◌^◌, ◌<◌, ◌≤◌, List, [], ◌∷◌, length, get_or, ℤ, pos, ◌+ℤ◌, ◌-ℤ◌, ◌*ℤ◌, sym, refl, ap, ◌∙◌, le_refl, arith}
use Rattle.modulus.specs.Congruence.{Cong}
use Rattle.modulus.proofs.Integers.{zring, zlin}
use Rattle.modulus.proofs.Congruences.{cong_refl, cong_path, cong_sym, cong_trans, cong_add, cong_mul, cong_neg, cong_lower}
use Rattle.poly.specs.Basis.{to_newton}
use Rattle.poly.specs.Polynomial.{value}
use Rattle.poly.proofs.Points.{basis, newton, Laws, newton_past, everywhere, unique}
use Rattle.poly.proofs.Rings.{zeros_ring, none-ring, drop-ring}

pub to_newton-past : (pt : ℕ → ℤ) (f : List ℤ) (i : ℕ) → length f ≤ i → to_newton pt f i ≡ pos 0
to_newton-past pt [] i l = refl
to_newton-past pt (a ∷ f) zero l = absurd (omega arith)
to_newton-past pt (a ∷ f) (suc i) l =
    ap (λ (z : ℤ). z +ℤ pt (suc i) *ℤ to_newton pt f (suc i)) (to_newton-past pt f i (omega arith))
    ∙ ap (λ (z : ℤ). pos 0 +ℤ pt (suc i) *ℤ z) (to_newton-past pt f (suc i) (omega arith)) ∙ zeros_ring (pt (suc i))

-- ---- the value
start_ring : (a q g x : ℤ) → pos 0 +ℤ (a +ℤ q *ℤ g) *ℤ pos 1 ≡ a +ℤ x *ℤ pos 0 +ℤ q *ℤ g *ℤ pos 1
start_ring a q g x = simp zring

step-ring : (a x n q g b r h : ℤ) → a +ℤ x *ℤ n +ℤ q *ℤ g *ℤ b +ℤ (g +ℤ r *ℤ h) *ℤ (b *ℤ (x -ℤ q)) ≡ a +ℤ x *ℤ (n +ℤ g *ℤ b) +ℤ r *ℤ h *ℤ (b *ℤ (x -ℤ q))
step-ring a x n q g b r h = simp zring (omega zlin)

-- the first k + 1 terms for a + X·f, by the first k terms for f
newton_cons : (pt : ℕ → ℤ) (a : ℤ) (f : List ℤ) (k : ℕ) (x : ℤ)
    → newton pt (to_newton pt (a ∷ f)) (suc k) x ≡ a +ℤ x *ℤ newton pt (to_newton pt f) k x +ℤ pt k *ℤ to_newton pt f k *ℤ basis pt k x
newton_cons pt a f zero x = start_ring a (pt 0) (to_newton pt f 0) x
newton_cons pt a f (suc k) x =
    ap (λ (z : ℤ). z +ℤ to_newton pt (a ∷ f) (suc k) *ℤ basis pt (suc k) x) (newton_cons pt a f k x)
    ∙ step-ring a x (newton pt (to_newton pt f) k x) (pt k) (to_newton pt f k) (basis pt k x) (pt (suc k)) (to_newton pt f (suc k))

pub to_newton-value : (pt : ℕ → ℤ) (f : List ℤ) (k : ℕ) → length f ≤ k → (x : ℤ) → newton pt (to_newton pt f) k x ≡ value f x
to_newton-value pt [] zero l x = refl
to_newton-value pt [] (suc k) l x = none-ring (newton pt (to_newton pt []) k x) (basis pt k x) ∙ to_newton-value pt [] k (omega arith) x
to_newton-value pt (a ∷ f) zero l x = absurd (omega arith)
to_newton-value pt (a ∷ f) (suc k) l x =
    newton_cons pt a f k x
    ∙ ap (λ (z : ℤ). a +ℤ x *ℤ newton pt (to_newton pt f) k x +ℤ pt k *ℤ z *ℤ basis pt k x) (to_newton-past pt f k (omega arith))
    ∙ drop-ring (a +ℤ x *ℤ newton pt (to_newton pt f) k x) (pt k) (basis pt k x)
    ∙ ap (λ (z : ℤ). a +ℤ x *ℤ z) (to_newton-value pt f k (omega arith) x)

-- ---- the degree, read modulo m
cong_zeros : {m : ℕ} {a b : ℤ} (x : ℤ) → Cong m a (pos 0) → Cong m b (pos 0) → Cong m (a +ℤ x *ℤ b) (pos 0)
cong_zeros {m} x h k = cong_trans (cong_add h (cong_mul (cong_refl m x) k)) (cong_path m (zeros_ring x))

pub to_newton-degree : (m : ℕ) (pt : ℕ → ℤ) (f : List ℤ) (k : ℕ) → ((i : ℕ) → k ≤ i → Cong m (get_or f i (pos 0)) (pos 0))
    → (i : ℕ) → k ≤ i → Cong m (to_newton pt f i) (pos 0)
to_newton-degree m pt [] k h i l = cong_refl m (pos 0)
to_newton-degree m pt (a ∷ f) k h zero l = cong_zeros (pt 0) (h 0 l) (to_newton-degree m pt f k (λ i j. h (suc i) (omega arith)) 0 l)
to_newton-degree m pt (a ∷ f) k h (suc i) l =
    let above : (j : ℕ) → i ≤ j → Cong m (get_or f j (pos 0)) (pos 0) = λ j g. h (suc j) (omega arith) in
    cong_zeros (pt (suc i)) (to_newton-degree m pt f i above i (le_refl i)) (to_newton-degree m pt f i above (suc i) (omega arith))

-- ---- what a polynomial with given values says of the form with those values
-- modulo p ^ (e - ω i), the form's coefficients are the polynomial's
pub same-below : {p e : ℕ} {pt : ℕ → ℤ} {ω : ℕ → ℕ} (L : Laws p e pt ω) (c y : ℕ → ℤ) (n : ℕ) (f : List ℤ)
    → ((t : ℕ) → t < n → Cong (p ^ e) (newton pt c n (pt t)) (y t)) → ((t : ℕ) → t < n → Cong (p ^ e) (value f (pt t)) (y t))
    → (i : ℕ) → i < n → Cong (p ^ (e - ω i)) (c i) (to_newton pt f i)
same-below {p} {e} {pt} L c y n f h k =
    let d : ℕ → ℤ = to_newton pt f in
    unique L c d n (n + length f) n (le_refl n) (omega arith)
    (λ t l. cong_trans (h t l) (cong_trans (cong_sym (k t l)) (cong_path (p ^ e) (sym (to_newton-value pt f (n + length f) (omega arith) (pt t))))))

less-ring : (s a : ℤ) → s +ℤ a -ℤ s ≡ a
less-ring s a = simp zring (omega zlin)

out-ring : (a q x : ℤ) → a *ℤ (q *ℤ x) ≡ q *ℤ (a *ℤ x)
out-ring a q x = simp zring

-- a further value of the polynomial differs from the form's by a multiple of p ^ ω n
pub exact : {p e : ℕ} {pt : ℕ → ℤ} {ω : ℕ → ℕ} (L : Laws p e pt ω) (c y : ℕ → ℤ) (n : ℕ) (f : List ℤ)
    → ((t : ℕ) → t < n → Cong (p ^ e) (newton pt c n (pt t)) (y t)) → ((t : ℕ) → t < suc n → Cong (p ^ e) (value f (pt t)) (y t))
    → (z : ℤ) × Cong (p ^ e) (y n -ℤ newton pt c n (pt n)) (pos (p ^ ω n) *ℤ z)
exact {p} {e} {pt} {ω} L c y n f h k =
    let d : ℕ → ℤ = to_newton pt f in
    let m : ℕ = p ^ e in
    let s : ℤ = newton pt d n (pt n) in
    let b : ℤ = basis pt n (pt n) in
    let same : Cong m (newton pt c n (pt n)) s = everywhere L c d n (same-below L c y n f h (λ t l. k t (omega arith))) n in
    let at_n : value f (pt n) ≡ s +ℤ d n *ℤ b = sym (to_newton-value pt f (suc n + length f) (omega arith) (pt n)) ∙ newton_past pt d (suc n + length f) n (omega arith) in
    let last : Cong m (y n) (s +ℤ d n *ℤ b) = cong_trans (cong_sym (k n (omega arith))) (cong_path m at_n) in (
      d n *ℤ L.part n n,
      cong_trans (cong_add last (cong_neg same))
          (cong_path m (less-ring s (d n *ℤ b) ∙ ap (λ (z : ℤ). d n *ℤ z) (L.divides n n) ∙ out-ring (d n) (pos (p ^ ω n)) (L.part n n))),
    )

-- if the polynomial has, modulo p ^ e, no coefficient from place k on, neither has the form below n
pub least : {p e : ℕ} {pt : ℕ → ℤ} {ω : ℕ → ℕ} (L : Laws p e pt ω) (c y : ℕ → ℤ) (n k : ℕ) (f : List ℤ)
    → ((t : ℕ) → t < n → Cong (p ^ e) (newton pt c n (pt t)) (y t)) → ((t : ℕ) → t < n → Cong (p ^ e) (value f (pt t)) (y t))
    → ((i : ℕ) → k ≤ i → Cong (p ^ e) (get_or f i (pos 0)) (pos 0)) → (i : ℕ) → i < n → k ≤ i → Cong (p ^ (e - ω i)) (c i) (pos 0)
least {p} {e} {pt} {ω} L c y n k f h v g i l j =
    cong_trans (same-below L c y n f h v i l) (cong_lower p e (ω i) (to_newton-degree (p ^ e) pt f k g i j))
