-- The values of sums, multiples, falling factorials and Newton forms given as lists. Assumes nothing.
use Rattle.std.proofs.Common.{◌≡◌, ℕ, zero, suc, ◌+◌, ◌-◌, ◌≤◌, List, [], ◌∷◌, length, get_or, ℤ, pos, ◌+ℤ◌, ◌-ℤ◌, ◌*ℤ◌, neg_ℤ, sym, refl, ap, ◌∙◌, zero-add, arith}
use lib.IntN.{+ℤ_idl, +ℤ_idr, *ℤ-zero}
use Rattle.modulus.proofs.Integers.{zring}
use Rattle.poly.specs.Polynomial.{value, plus, scaled, times_less, falling, form_from, form}
use Rattle.poly.proofs.Points.{basis, newton, below_suc}
use Rattle.poly.proofs.Rings.{none-ring, turn_ring, form-ring}

plus-ring : (a b x f g : ℤ) → a +ℤ b +ℤ x *ℤ (f +ℤ g) ≡ a +ℤ x *ℤ f +ℤ (b +ℤ x *ℤ g)
plus-ring a b x f g = simp zring

pub value-plus : (f g : List ℤ) (x : ℤ) → value (plus f g) x ≡ value f x +ℤ value g x
value-plus [] g x = sym (+ℤ_idl (value g x))
value-plus (a ∷ f) [] x = sym (+ℤ_idr (value (a ∷ f) x))
value-plus (a ∷ f) (b ∷ g) x = ap (λ (z : ℤ). a +ℤ b +ℤ x *ℤ z) (value-plus f g x) ∙ plus-ring a b x (value f x) (value g x)

scaled-ring : (c a x f : ℤ) → c *ℤ a +ℤ x *ℤ (c *ℤ f) ≡ c *ℤ (a +ℤ x *ℤ f)
scaled-ring c a x f = simp zring

pub value-scaled : (c : ℤ) (f : List ℤ) (x : ℤ) → value (scaled c f) x ≡ c *ℤ value f x
value-scaled c [] x = sym (*ℤ-zero c)
value-scaled c (a ∷ f) x = ap (λ (z : ℤ). c *ℤ a +ℤ x *ℤ z) (value-scaled c f x) ∙ scaled-ring c a x (value f x)

less-ring : (a x f : ℤ) → pos 0 +ℤ x *ℤ f +ℤ neg_ℤ a *ℤ f ≡ (x -ℤ a) *ℤ f
less-ring a x f = simp zring

pub value-times_less : (a : ℤ) (f : List ℤ) (x : ℤ) → value (times_less a f) x ≡ (x -ℤ a) *ℤ value f x
value-times_less a f x =
    value-plus (pos 0 ∷ f) (scaled (neg_ℤ a) f) x ∙ ap (λ (z : ℤ). pos 0 +ℤ x *ℤ value f x +ℤ z) (value-scaled (neg_ℤ a) f x) ∙ less-ring a x (value f x)

one_ring : (x : ℤ) → pos 1 +ℤ x *ℤ pos 0 ≡ pos 1
one_ring x = simp zring

pub value-falling : (i : ℕ) (x : ℤ) → value (falling i) x ≡ basis (λ (k : ℕ). pos k) i x
value-falling zero x = one_ring x
value-falling (suc i) x = value-times_less (pos i) (falling i) x ∙ turn_ring (x -ℤ pos i) (value (falling i) x) ∙ ap (λ (z : ℤ). z *ℤ (x -ℤ pos i)) (value-falling i x)

-- terms whose coefficients are 0 add nothing
pub newton_stop : (pt c : ℕ → ℤ) (j k : ℕ) → j ≤ k → ((i : ℕ) → j ≤ i → c i ≡ pos 0) → (x : ℤ) → newton pt c k x ≡ newton pt c j x
newton_stop pt c j zero l h x =
    let same : zero ≡ j = omega arith in
    ap (λ (n : ℕ). newton pt c n x) same
newton_stop pt c j (suc k) l h x =
    below_suc (λ (j : ℕ). ((i : ℕ) → j ≤ i → c i ≡ pos 0) → newton pt c (suc k) x ≡ newton pt c j x) (suc k)
    (λ j l h. ap (λ (z : ℤ). newton pt c k x +ℤ z *ℤ basis pt k x) (h k (omega arith)) ∙ none-ring (newton pt c k x) (basis pt k x) ∙ newton_stop pt c j k (omega arith) h x)
    (λ h. refl)
    j (omega arith) h

-- the terms below j and the form from j on make up the whole
pub value-form_from : (c : List ℕ) (d : ℕ → ℤ) (j k : ℕ) → j + length c ≤ k → ((i t : ℕ) → t ≡ j + i → d t ≡ pos (get_or c i 0)) → (x : ℤ)
    → value (form_from j c) x +ℤ newton (λ (k : ℕ). pos k) d j x ≡ newton (λ (k : ℕ). pos k) d k x
value-form_from [] d j k l h x =
    +ℤ_idl (newton (λ (k : ℕ). pos k) d j x) ∙ sym (newton_stop (λ (k : ℕ). pos k) d j k (omega arith) (λ i g. h (i - j) i (omega arith)) x)
value-form_from (a ∷ c) d j k l h x =
    let b : ℤ = basis (λ (k : ℕ). pos k) j x in
    let s : ℤ = newton (λ (k : ℕ). pos k) d j x in
    let f : ℤ = value (form_from (suc j) c) x in
    ap (λ (z : ℤ). z +ℤ s)
    (value-plus (scaled (pos a) (falling j)) (form_from (suc j) c) x
    ∙ ap (λ (z : ℤ). z +ℤ f) (value-scaled (pos a) (falling j) x ∙ ap (λ (z : ℤ). pos a *ℤ z) (value-falling j x)))
    ∙ form-ring (pos a) b f s ∙ ap (λ (z : ℤ). f +ℤ (s +ℤ z *ℤ b)) (sym (h 0 j (omega arith)))
    ∙ value-form_from c d (suc j) k (omega arith) (λ i t e. h (suc i) t (omega arith)) x

pub value-form : (c : List ℕ) (k : ℕ) → length c ≤ k → (x : ℤ) → value (form c) x ≡ newton (λ (k : ℕ). pos k) (λ (i : ℕ). pos (get_or c i 0)) k x
value-form c k l x =
    sym (+ℤ_idr (value (form c) x)) ∙ value-form_from c (λ (i : ℕ). pos (get_or c i 0)) 0 k (omega arith) (λ i t e. ap (λ (n : ℕ). pos (get_or c n 0)) (e ∙ zero-add i)) x
