-- Newton forms over a sequence of points: which coefficients give the same values modulo p ^ e. Assumes nothing.
use Rattle.std.proofs.Common.{◌≡◌, ℕ, zero, suc, ◌+◌, ◌-◌, ◌*◌, ◌^◌, ◌<◌, ◌≤◌, ℤ, pos, ◌+ℤ◌, ◌-ℤ◌, ◌*ℤ◌, sym, refl, ap, ◌∙◌, arith, pow-add, below_more}
use lib.IntN.{zero-*ℤ}
use Rattle.modulus.specs.Congruence.{Cong}
use Rattle.modulus.proofs.Integers.{zring, zlin}
use Rattle.modulus.proofs.Congruences.{cong_refl, cong_path, cong_sym, cong_trans, cong_add, cong_mul, cong_rest, cong_cancel_power}
use Rattle.poly.proofs.Rings.{split_ring, one_ring}

-- the product of x − pt j over j below i
abbrev pub basis : (ℕ → ℤ) → ℕ → ℤ → ℤ
basis pt zero x = pos 1
basis pt (suc i) x = basis pt i x *ℤ (x -ℤ pt i)

-- the sum of c i · basis i x over i below k
abbrev pub newton : (ℕ → ℤ) → (ℕ → ℤ) → ℕ → ℤ → ℤ
newton pt c zero x = pos 0
newton pt c (suc k) x = newton pt c k x +ℤ c k *ℤ basis pt k x

-- p ^ ω i divides basis i at every point, and at point i what is left has an inverse modulo p ^ e
pub record Laws (p e : ℕ) (pt : ℕ → ℤ) (ω : ℕ → ℕ) : Type 0 where
  pub positive : 0 < p
  pub part : ℕ → ℕ → ℤ
  pub divides : (i t : ℕ) → basis pt i (pt t) ≡ pos (p ^ ω i) *ℤ part i t
  pub inverse : ℕ → ℤ
  pub inverts : (i : ℕ) → Cong (p ^ e) (part i i *ℤ inverse i) (pos 1)

-- what holds below i and at i holds below suc i
pub below_suc : (P : ℕ → Type 0) (i : ℕ) → ((k : ℕ) → k < i → P k) → P i → (k : ℕ) → k < suc i → P k
below_suc P i all here k l = below_more P i all here k (omega arith)

-- ---- terms past a point vanish there
minus-ring : (b x : ℤ) → b *ℤ (x -ℤ x) ≡ pos 0
minus-ring b x = simp zring (omega zlin)

pub basis_past : (pt : ℕ → ℤ) (i t : ℕ) → t < i → basis pt i (pt t) ≡ pos 0
basis_past pt zero t l = absurd (omega arith)
basis_past pt (suc i) t l =
    below_suc (λ (t : ℕ). basis pt (suc i) (pt t) ≡ pos 0) i
    (λ t l. ap (λ (z : ℤ). z *ℤ (pt t -ℤ pt i)) (basis_past pt i t l) ∙ zero-*ℤ (pt t -ℤ pt i))
    (minus-ring (basis pt i (pt i)) (pt i))
    t l

term_ring : (s a : ℤ) → s +ℤ a *ℤ pos 0 ≡ s
term_ring s a = simp zring

pub newton_past : (pt c : ℕ → ℤ) (k t : ℕ) → t < k → newton pt c k (pt t) ≡ newton pt c (suc t) (pt t)
newton_past pt c zero t l = absurd (omega arith)
newton_past pt c (suc k) t l =
    below_suc (λ (t : ℕ). newton pt c (suc k) (pt t) ≡ newton pt c (suc t) (pt t)) k
    (λ t l. ap (λ (z : ℤ). newton pt c k (pt t) +ℤ c k *ℤ z) (basis_past pt k t l) ∙ term_ring (newton pt c k (pt t)) (c k) ∙ newton_past pt c k t l)
    refl
    t l

-- ---- forms whose coefficients agree modulo p ^ (e - ω i) agree at every point
power_ring : (a b x : ℤ) → a *ℤ b *ℤ x ≡ pos 0 +ℤ b *ℤ x *ℤ a
power_ring a b x = simp zring

-- p ^ e divides p ^ (e - ω i) times basis i at every point
pub vanish : {p e : ℕ} {pt : ℕ → ℤ} {ω : ℕ → ℕ} (L : Laws p e pt ω) (i t : ℕ) → Cong (p ^ e) (pos (p ^ (e - ω i)) *ℤ basis pt i (pt t)) (pos 0)
vanish {p} {e} {pt} {ω} L i t =
    let w : ℕ = ω i in
    let q : ℤ = L.part i t in
    let same : e - w + w ≡ e + (w - e) = omega arith in
    let powers : p ^ (e - w) * p ^ w ≡ p ^ e * p ^ (w - e) = sym (pow-add p (e - w) w) ∙ ap (λ (n : ℕ). p ^ n) same ∙ pow-add p e (w - e) in
    record {
      times = pos (p ^ (w - e)) *ℤ q;
      is = ap (λ (z : ℤ). pos (p ^ (e - w)) *ℤ z) (L.divides i t) ∙ split_ring (pos (p ^ (e - w))) (pos (p ^ w)) q
          ∙ ap (λ (n : ℕ). pos n *ℤ q) powers ∙ power_ring (pos (p ^ e)) (pos (p ^ (w - e))) q;
    }

over_ring : (b s m x : ℤ) → (b +ℤ s *ℤ m) *ℤ x ≡ b *ℤ x +ℤ s *ℤ (m *ℤ x)
over_ring b s m x = simp zring

over_end : (b s v m : ℤ) → b +ℤ s *ℤ (pos 0 +ℤ v *ℤ m) ≡ b +ℤ s *ℤ v *ℤ m
over_end b s v m = simp zring

-- coefficients that agree modulo p ^ (e - ω i) give terms that agree
pub term_agrees : {p e : ℕ} {pt : ℕ → ℤ} {ω : ℕ → ℕ} {a b : ℤ} (L : Laws p e pt ω) (i t : ℕ) → Cong (p ^ (e - ω i)) a b
    → Cong (p ^ e) (a *ℤ basis pt i (pt t)) (b *ℤ basis pt i (pt t))
term_agrees {p} {e} {pt} {ω} {a} {b} L i t h =
    let x : ℤ = basis pt i (pt t) in
    let v : Cong (p ^ e) (pos (p ^ (e - ω i)) *ℤ x) (pos 0) = vanish L i t in
    record {
      times = h.times *ℤ v.times;
      is = ap (λ (z : ℤ). z *ℤ x) h.is ∙ over_ring b h.times (pos (p ^ (e - ω i))) x
          ∙ ap (λ (z : ℤ). b *ℤ x +ℤ h.times *ℤ z) v.is ∙ over_end (b *ℤ x) h.times v.times (pos (p ^ e));
    }

pub everywhere : {p e : ℕ} {pt : ℕ → ℤ} {ω : ℕ → ℕ} (L : Laws p e pt ω) (c d : ℕ → ℤ) (k : ℕ)
    → ((i : ℕ) → i < k → Cong (p ^ (e - ω i)) (c i) (d i)) → (t : ℕ) → Cong (p ^ e) (newton pt c k (pt t)) (newton pt d k (pt t))
everywhere {p} {e} L c d zero h t = cong_refl (p ^ e) (pos 0)
everywhere {p} {e} L c d (suc k) h t = cong_add (everywhere L c d k (λ i l. h i (omega arith)) t) (term_agrees L k t (h k (omega arith)))

-- ---- and conversely: forms that agree at the first n points have coefficients that agree so below n
unit_ring : (a q x v : ℤ) → a *ℤ (q *ℤ x) *ℤ v ≡ a *ℤ q *ℤ (x *ℤ v)
unit_ring a q x v = simp zring

-- the unit and then the power of p are stripped from a term at its own point
pub strip : {p e : ℕ} {pt : ℕ → ℤ} {ω : ℕ → ℕ} {a b : ℤ} (L : Laws p e pt ω) (i : ℕ)
    → Cong (p ^ e) (a *ℤ basis pt i (pt i)) (b *ℤ basis pt i (pt i)) → Cong (p ^ (e - ω i)) a b
strip {p} {e} {pt} {ω} {a} {b} L i h =
    cong_cancel_power p e (ω i) L.positive (cong_trans (cong_sym (side a)) (cong_trans (cong_mul h (cong_refl (p ^ e) (L.inverse i))) (side b)))
  where
    side : (a : ℤ) → Cong (p ^ e) (a *ℤ basis pt i (pt i) *ℤ L.inverse i) (a *ℤ pos (p ^ ω i))
    side a =
        cong_trans
        (cong_path (p ^ e) (ap (λ (z : ℤ). a *ℤ z *ℤ L.inverse i) (L.divides i i) ∙ unit_ring a (pos (p ^ ω i)) (L.part i i) (L.inverse i)))
        (cong_trans (cong_mul (cong_refl (p ^ e) (a *ℤ pos (p ^ ω i))) (L.inverts i)) (cong_path (p ^ e) (one_ring a (pos (p ^ ω i)))))

unique_at : {p e : ℕ} {pt : ℕ → ℤ} {ω : ℕ → ℕ} (L : Laws p e pt ω) (c d : ℕ → ℤ) (j k i : ℕ) → i < j → i < k
    → Cong (p ^ e) (newton pt c j (pt i)) (newton pt d k (pt i)) → ((t : ℕ) → t < i → Cong (p ^ (e - ω t)) (c t) (d t)) → Cong (p ^ (e - ω i)) (c i) (d i)
unique_at {p} {e} {pt} L c d j k i lj lk h below =
    strip L i
    (cong_rest (cong_trans (cong_path (p ^ e) (sym (newton_past pt c j i lj))) (cong_trans h (cong_path (p ^ e) (newton_past pt d k i lk)))) (everywhere L c d i below i))

pub unique : {p e : ℕ} {pt : ℕ → ℤ} {ω : ℕ → ℕ} (L : Laws p e pt ω) (c d : ℕ → ℤ) (j k n : ℕ) → n ≤ j → n ≤ k
    → ((t : ℕ) → t < n → Cong (p ^ e) (newton pt c j (pt t)) (newton pt d k (pt t))) → (i : ℕ) → i < n → Cong (p ^ (e - ω i)) (c i) (d i)
unique L c d j k zero lj lk h i l = absurd (omega arith)
unique {p} {e} {pt} {ω} L c d j k (suc n) lj lk h i l =
    let below : (i : ℕ) → i < n → Cong (p ^ (e - ω i)) (c i) (d i) = unique L c d j k n (omega arith) (omega arith) (λ t l. h t (omega arith)) in
    below_suc (λ (i : ℕ). Cong (p ^ (e - ω i)) (c i) (d i)) n below (unique_at L c d j k n lj lk (h n (omega arith)) below) i l
