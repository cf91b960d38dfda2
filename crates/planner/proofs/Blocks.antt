-- A block plan computes its polynomial. Assumes nothing.
use Rattle.std.proofs.Common.{◌≡◌, ℕ, zero, suc, ◌+◌, ◌-◌, ◌*◌, ◌/◌, ◌%◌, ◌<◌, ◌≤◌, List, [], ◌∷◌, ◌++◌, get_or, drop, ℤ, pos, ◌+ℤ◌, ◌*ℤ◌, sym, refl, ap, ◌∙◌, subst, add-zero, add-suc, mod-lt, suc-add, zero-add, arith}
use native.Mathlib.Nat.{lt-div-mul-add}
use lib.IntN.{*ℤ-zero}
use Rattle.modulus.specs.Congruence.{Cong}
use Rattle.modulus.proofs.Integers.{zring}
use Rattle.modulus.proofs.Congruences.{cong_refl, cong_path, cong_sym, cong_trans, cong_add, cong_mul, cong_mod}
use Rattle.poly.specs.Polynomial.{value}
use Rattle.poly.specs.Equivalents.{ints}
use Rattle.poly.proofs.Points.{below_suc}
use Rattle.poly.proofs.Rings.{start_ring, split_ring, turn_ring}
use Rattle.plan.specs.Trays.{put, after, last_from, answer}
use Rattle.plan.specs.declared.step.Step.{Step}
use Rattle.planner.specs.Layout.{adds, multiplies, scales, powers, terms, filled, lower, blocks, block}
use Rattle.planner.specs.Plans.{Computes}
use Rattle.planner.proofs.Stores.{put_same, put_other}

-- ---- one step list behind another
pub after-++ : (m : ℕ) (trays : ℕ → ℕ) (xs ys : List Step) → after m trays (xs ++ ys) ≡ after m (after m trays xs) ys
after-++ m trays [] ys = refl
after-++ m trays (x ∷ xs) ys = after-++ m (after m trays (x ∷ [])) xs ys

pub last_++ : (t : ℕ) (xs ys : List Step) → last_from t (xs ++ ys) ≡ last_from (last_from t xs) ys
last_++ t [] ys = refl
last_++ t (x ∷ xs) ys = last_++ x.to xs ys

-- ---- powers over the integers
abbrev pw : ℤ → ℕ → ℤ
pw x zero = pos 1
pw x (suc j) = x *ℤ pw x j

one_ring : (b : ℤ) → b ≡ pos 1 *ℤ b
one_ring b = simp zring

pw_add : (x : ℤ) (i j : ℕ) → pw x (i + j) ≡ pw x i *ℤ pw x j
pw_add x zero j = ap (pw x) (zero-add j) ∙ one_ring (pw x j)
pw_add x (suc i) j = ap (pw x) (suc-add i j) ∙ ap (λ (z : ℤ). x *ℤ z) (pw_add x i j) ∙ split_ring x (pw x i) (pw x j)

-- ---- a value from place k on, in parts
end-ring : (x : ℤ) → pos 0 ≡ pos 0 +ℤ x *ℤ pos 0
end-ring x = simp zring

value-drop : (a : List ℕ) (k : ℕ) (x : ℤ) → value (ints (drop k a)) x ≡ pos (get_or a k 0) +ℤ x *ℤ value (ints (drop (suc k) a)) x
value-drop [] zero x = end-ring x
value-drop [] (suc k) x = end-ring x
value-drop (c ∷ a) zero x = refl
value-drop (c ∷ a) (suc k) x = value-drop a k x

-- the n coefficients from place `at` on, as a polynomial of their own
abbrev part : List ℕ → ℕ → ℕ → ℤ → ℤ
part a at zero x = pos 0
part a at (suc n) x = part a at n x +ℤ pos (get_or a (at + n) 0) *ℤ pw x n

next_ring : (s p c x v : ℤ) → s +ℤ p *ℤ (c +ℤ x *ℤ v) ≡ s +ℤ c *ℤ p +ℤ x *ℤ p *ℤ v
next_ring s p c x v = simp zring

value-parts : (a : List ℕ) (k n : ℕ) (x : ℤ) → value (ints (drop k a)) x ≡ part a k n x +ℤ pw x n *ℤ value (ints (drop (k + n) a)) x
value-parts a k zero x =
    start_ring (value (ints (drop k a)) x) ∙ ap (λ (i : ℕ). pos 0 +ℤ pos 1 *ℤ value (ints (drop i a)) x) (sym (add-zero k))
value-parts a k (suc n) x =
    let rest : ℤ = value (ints (drop (suc (k + n)) a)) x in
    value-parts a k n x ∙ ap (λ (z : ℤ). part a k n x +ℤ pw x n *ℤ z) (value-drop a (k + n) x)
    ∙ next_ring (part a k n x) (pw x n) (pos (get_or a (k + n) 0)) x rest
    ∙ ap (λ (i : ℕ). part a k (suc n) x +ℤ pw x (suc n) *ℤ value (ints (drop i a)) x) (sym (add-suc k n))

-- zeros have the value 0
value-clear : (a : List ℕ) (k : ℕ) → ((i : ℕ) → k ≤ i → get_or a i 0 ≡ 0) → (x : ℤ) → value (ints (drop k a)) x ≡ pos 0
value-clear [] zero h x = refl
value-clear [] (suc k) h x = refl
value-clear (c ∷ a) zero h x =
    ap (λ (n : ℕ). pos n +ℤ x *ℤ value (ints a) x) (h 0 (omega arith))
    ∙ ap (λ (z : ℤ). pos 0 +ℤ x *ℤ z) (value-clear a zero (λ i l. h (suc i) (omega arith)) x) ∙ sym (end-ring x)
value-clear (c ∷ a) (suc k) h x = value-clear a k (λ i l. h (suc i) (omega arith)) x

-- ---- what the trays have on the way
-- the trays below n have the powers of x from the first on
abbrev Powers : ℕ → ℤ → ℕ → (ℕ → ℕ) → Type 0
Powers m x n trays = (j : ℕ) → j < n → Cong m (pos (trays j)) (pw x (suc j))

-- they do, and tray s has a number below m that agrees with z
record Stands (m : ℕ) (x : ℤ) (s : ℕ) (z : ℤ) (trays : ℕ → ℕ) : Type 0 where
  ready : Powers m x s trays
  agrees : Cong m (pos (trays s)) z
  below : trays s < m

-- a write to tray s or to one above it leaves the powers
powers-keep : (m : ℕ) (x : ℤ) (s : ℕ) (trays : ℕ → ℕ) (t n : ℕ) → s ≤ t → Powers m x s trays → Powers m x s (put trays t n)
powers-keep m x s trays t n l h j g = cong_trans (cong_path m (ap pos (put_other trays t n j (λ e. omega arith)))) (h j g)

stands-write : (m : ℕ) (x : ℤ) (s : ℕ) (z : ℤ) (trays : ℕ → ℕ) (n : ℕ) → 0 < m → Powers m x s trays → Cong m (pos n) z
    → Stands m x s z (put trays s (n % m))
stands-write m x s z trays n some h g =
    record {
      ready = powers-keep m x s trays s (n % m) (omega arith) h;
      agrees = cong_trans (cong_path m (ap pos (put_same trays s (n % m)))) (cong_trans (cong_sym (cong_mod m n)) g);
      below = subst (λ (k : ℕ). k < m) (sym (put_same trays s (n % m))) (mod-lt n some);
    }

stands-as : (m : ℕ) (x : ℤ) (s : ℕ) (z y : ℤ) (trays : ℕ → ℕ) → z ≡ y → Stands m x s z trays → Stands m x s y trays
stands-as m x s z y trays e h = subst (λ (y : ℤ). Stands m x s y trays) e h

-- ---- the powers
first_ring : (x : ℤ) → x ≡ x *ℤ pos 1
first_ring x = simp zring

-- the trays of ⌊j/2⌋ and ⌈j/2⌉ come before that of j = i + 2, and the two halves make up j
halves : (i : ℕ)
    → (suc (suc i) / 2 - 1 < suc i) × ((suc (suc i) + 1) / 2 - 1 < suc i)
    × (suc (suc (suc i) / 2 - 1) + suc ((suc (suc i) + 1) / 2 - 1) ≡ suc (suc i))
halves i = omega arith

powers-made : (m : ℕ) (trays : ℕ → ℕ) (n : ℕ) → Powers m (pos (trays 0)) n (after m trays (powers n))
powers-made m trays zero j l = absurd (omega arith)
powers-made m trays (suc zero) j l =
    below_suc (λ (j : ℕ). Cong m (pos (trays j)) (pw (pos (trays 0)) (suc j))) 0
    (λ j l. absurd (omega arith))
    (cong_path m (first_ring (pos (trays 0))))
    j l
powers-made m trays (suc (suc i)) j l =
    let x : ℤ = pos (trays 0) in
    let here : ℕ → ℕ = after m trays (powers (suc i)) in
    let low : ℕ = suc (suc i) / 2 - 1 in
    let high : ℕ = (suc (suc i) + 1) / 2 - 1 in
    let h : Powers m x (suc i) here = powers-made m trays (suc i) in
    let n : ℕ = here low * here high in
    let both : Cong m (pos n) (pw x (suc low) *ℤ pw x (suc high)) = cong_mul (h low (halves i).0) (h high (halves i).1) in
    let whole : pw x (suc low) *ℤ pw x (suc high) ≡ pw x (suc (suc i)) = sym (pw_add x (suc low) (suc high)) ∙ ap (pw x) (halves i).2 in
    let made : Cong m (pos n) (pw x (suc (suc i))) = cong_trans both (cong_path m whole) in
    subst (λ (end : ℕ → ℕ). Cong m (pos (end j)) (pw x (suc j))) (sym (after-++ m trays (powers (suc i)) (multiplies (suc i) low high ∷ [])))
    (below_suc (λ (j : ℕ). Cong m (pos (put here (suc i) (n % m) j)) (pw x (suc j))) (suc i)
    (powers-keep m x (suc i) here (suc i) (n % m) (omega arith) h)
    (cong_trans (cong_path m (ap pos (put_same here (suc i) (n % m)))) (cong_trans (cong_sym (cong_mod m n)) made))
    j l)

-- ---- the blocks
-- the tray that is written last is tray s
last_terms : (s : ℕ) (a : List ℕ) (at n : ℕ) → last_from s (terms s a at n) ≡ s
last_terms s a at zero = refl
last_terms s a at (suc i) = last_++ s (terms s a at i) (scales (s + 1) i (get_or a (at + suc i) 0) ∷ adds s s (s + 1) ∷ [])

last_lower : (s : ℕ) (a : List ℕ) (b : ℕ) → last_from s (lower s a b) ≡ s
last_lower s a zero = refl
last_lower s a (suc b) =
    last_++ s (filled s a (b * s)) (lower s a b) ∙ ap (λ (t : ℕ). last_from t (lower s a b)) (last_terms s a (b * s) (s - 1)) ∙ last_lower s a b

term_ring : (z b c : ℤ) → z +ℤ b +ℤ c ≡ z +ℤ (b +ℤ c)
term_ring z b c = simp zring

swap_ring : (z c : ℤ) → z +ℤ c ≡ c +ℤ z
swap_ring z c = simp zring

top_ring : (z c : ℤ) → z +ℤ c ≡ z +ℤ (pos 0 +ℤ c *ℤ pos 1)
top_ring z c = simp zring

module _ (m : ℕ) (some : 0 < m) (x : ℤ) (s : ℕ) (a : List ℕ) where
  -- tray j is scaled into the scratch tray and added
  term_stands : (z : ℤ) (trays : ℕ → ℕ) (j k : ℕ) → j < s → Stands m x s z trays
      → Stands m x s (z +ℤ pos k *ℤ pw x (suc j)) (after m trays (scales (s + 1) j k ∷ adds s s (s + 1) ∷ []))
  term_stands z trays j k l h =
      let n : ℕ = trays j * k in
      let there : ℕ → ℕ = put trays (s + 1) (n % m) in
      let y : ℤ = pos k *ℤ pw x (suc j) in
      let sum : Cong m (pos (there s)) z = cong_trans (cong_path m (ap pos (put_other trays (s + 1) (n % m) s (λ e. omega arith)))) h.agrees in
      let product : Cong m (pos n) y = cong_trans (cong_mul (h.ready j l) (cong_refl m (pos k))) (cong_path m (turn_ring (pw x (suc j)) (pos k))) in
      let read : there (s + 1) ≡ n % m = put_same trays (s + 1) (n % m) in
      let term : Cong m (pos (there (s + 1))) y = cong_trans (cong_path m (ap pos read)) (cong_trans (cong_sym (cong_mod m n)) product) in
      stands-write m x s (z +ℤ y) there (there s + there (s + 1)) some
      (powers-keep m x s trays (s + 1) (n % m) (omega arith) h.ready)
      (cong_add sum term)

  terms_stand : (z : ℤ) (trays : ℕ → ℕ) (at n : ℕ) → n < s → Stands m x s (z +ℤ part a at 1 x) trays
      → Stands m x s (z +ℤ part a at (suc n) x) (after m trays (terms s a at n))
  terms_stand z trays at zero l h = h
  terms_stand z trays at (suc i) l h =
      let k : ℕ = get_or a (at + suc i) 0 in
      let here : ℕ → ℕ = after m trays (terms s a at i) in
      subst (Stands m x s (z +ℤ part a at (suc (suc i)) x)) (sym (after-++ m trays (terms s a at i) (scales (s + 1) i k ∷ adds s s (s + 1) ∷ [])))
      (stands-as m x s (z +ℤ part a at (suc i) x +ℤ pos k *ℤ pw x (suc i)) (z +ℤ part a at (suc (suc i)) x)
      (after m here (scales (s + 1) i k ∷ adds s s (s + 1) ∷ [])) (term_ring z (part a at (suc i) x) (pos k *ℤ pw x (suc i)))
      (term_stands (z +ℤ part a at (suc i) x) here i k (omega arith) (terms_stand z trays at i (omega arith) h)))

  filled_stands : 1 ≤ s → (z : ℤ) (trays : ℕ → ℕ) (at : ℕ) → Stands m x s z trays → Stands m x s (z +ℤ part a at s x) (after m trays (filled s a at))
  filled_stands one z trays at h =
      let k : ℕ = get_or a at 0 in
      let whole : suc (s - 1) ≡ s = omega arith in
      let same : k ≡ get_or a (at + 0) 0 = ap (λ (i : ℕ). get_or a i 0) (sym (add-zero at)) in
      let first : z +ℤ pos k ≡ z +ℤ part a at 1 x = top_ring z (pos k) ∙ ap (λ (n : ℕ). z +ℤ (pos 0 +ℤ pos n *ℤ pos 1)) same in
      subst (λ (n : ℕ). Stands m x s (z +ℤ part a at n x) (after m trays (filled s a at))) whole
      (terms_stand z (put trays s ((trays s + k) % m)) at (s - 1) (omega arith)
      (stands-write m x s (z +ℤ part a at 1 x) trays (trays s + k) some h.ready
      (cong_trans (cong_add h.agrees (cong_refl m (pos k))) (cong_path m first))))

  -- a block at place b·s, where tray s already has what the blocks above it make
  block_stands : 1 ≤ s → (b : ℕ) (z : ℤ) (trays : ℕ → ℕ) → z ≡ pw x s *ℤ value (ints (drop (suc b * s) a)) x → Stands m x s z trays
      → Stands m x s (value (ints (drop (b * s) a)) x) (after m trays (filled s a (b * s)))
  block_stands one b z trays e h =
      let here : ℤ = part a (b * s) s x in
      let above : ℤ = pw x s *ℤ value (ints (drop (b * s + s) a)) x in
      let next : suc b * s ≡ b * s + s = omega arith in
      let same : z ≡ above = e ∙ ap (λ (k : ℕ). pw x s *ℤ value (ints (drop k a)) x) next in
      stands-as m x s (z +ℤ here) (value (ints (drop (b * s) a)) x) (after m trays (filled s a (b * s)))
      (ap (λ (z : ℤ). z +ℤ here) same ∙ swap_ring above here ∙ sym (value-parts a (b * s) s x))
      (filled_stands one z trays (b * s) h)

  lower_stands : 1 ≤ s → (b : ℕ) (trays : ℕ → ℕ) → Stands m x s (value (ints (drop (b * s) a)) x) trays
      → Stands m x s (value (ints a) x) (after m trays (lower s a b))
  lower_stands one zero trays h =
      let none : 0 * s ≡ 0 = omega arith in
      stands-as m x s (value (ints (drop (0 * s) a)) x) (value (ints a) x) trays (ap (λ (k : ℕ). value (ints (drop k a)) x) none) h
  lower_stands one (suc b) trays h =
      let above : ℤ = value (ints (drop (suc b * s) a)) x in
      let n : ℕ = trays s * trays (s - 1) in
      let here : ℕ → ℕ = put trays s (n % m) in
      let whole : suc (s - 1) ≡ s = omega arith in
      let power : Cong m (pos (trays (s - 1))) (pw x s) = cong_trans (h.ready (s - 1) (omega arith)) (cong_path m (ap (pw x) whole)) in
      let raised : Cong m (pos n) (pw x s *ℤ above) = cong_trans (cong_mul h.agrees power) (cong_path m (turn_ring above (pw x s))) in
      subst (Stands m x s (value (ints a) x)) (sym (after-++ m here (filled s a (b * s)) (lower s a b)))
      (lower_stands one b (after m here (filled s a (b * s)))
      (block_stands one b (pw x s *ℤ above) here refl (stands-write m x s (pw x s *ℤ above) trays n some h.ready raised)))

  -- the top block starts from 0, as there is nothing above it
  blocks_stand : 1 ≤ s → (b : ℕ) (trays : ℕ → ℕ) → ((i : ℕ) → suc b * s ≤ i → get_or a i 0 ≡ 0) → Powers m x s trays
      → Stands m x s (value (ints a) x) (after m trays (blocks s a (suc b)))
  blocks_stand one b trays clear h =
      let here : ℕ → ℕ = put trays s ((trays 0 * 0) % m) in
      let none : trays 0 * 0 ≡ 0 = omega arith in
      let above : value (ints (drop (suc b * s) a)) x ≡ pos 0 = value-clear a (suc b * s) clear x in
      subst (Stands m x s (value (ints a) x)) (sym (after-++ m here (filled s a (b * s)) (lower s a b)))
      (lower_stands one b (after m here (filled s a (b * s)))
      (block_stands one b (pos 0) here (sym (ap (λ (z : ℤ). pw x s *ℤ z) above ∙ *ℤ-zero (pw x s)))
      (stands-write m x s (pos 0) trays (trays 0 * 0) some h (cong_path m (ap pos none)))))

-- ---- the plan
-- after the powers, b + 1 blocks, which have all the coefficients
blocks-compute : (m : ℕ) → 0 < m → (s : ℕ) → 1 ≤ s → (a : List ℕ) (b : ℕ) → ((i : ℕ) → suc b * s ≤ i → get_or a i 0 ≡ 0)
    → Computes m (ints a) (powers s ++ blocks s a (suc b))
blocks-compute m some s one a b clear =
    record {
      below = λ trays. subst (λ (n : ℕ). n < m) (sym (told trays)) (ends trays).below;
      agrees = λ trays. cong_trans (cong_path m (ap pos (told trays))) (ends trays).agrees;
    }
  where
    steps : List Step
    steps = powers s ++ blocks s a (suc b)

    ends : (trays : ℕ → ℕ) → Stands m (pos (trays 0)) s (value (ints a) (pos (trays 0))) (after m trays steps)
    ends trays =
        subst (Stands m (pos (trays 0)) s (value (ints a) (pos (trays 0)))) (sym (after-++ m trays (powers s) (blocks s a (suc b))))
        (blocks_stand m some (pos (trays 0)) s a one b (after m trays (powers s)) clear (powers-made m trays s))

    told : (trays : ℕ → ℕ) → answer m trays steps ≡ after m trays steps s
    told trays = ap (after m trays steps) (last_++ 0 (powers s) (blocks s a (suc b)) ∙ last_lower s a (suc b))

pub block-computes : (m : ℕ) → 0 < m → (s : ℕ) → 1 ≤ s → (a : List ℕ) (n : ℕ) → ((i : ℕ) → n ≤ i → get_or a i 0 ≡ 0)
    → Computes m (ints a) (block s a n)
block-computes m some s one a zero clear =
    record {
      below = λ trays. mod-lt (trays 0 * 0) some;
      agrees = λ trays.
          let none : trays 0 * 0 ≡ 0 = omega arith in
          cong_trans (cong_sym (cong_mod m (trays 0 * 0))) (cong_path m (ap pos none ∙ sym (value-clear a 0 clear (pos (trays 0)))));
    }
block-computes m some s one a (suc n) clear = go ((n + s) / s) (omega (arith, lt-div-mul-add {a = n + s} one))
  where
    go : (q : ℕ) → n < q * s → Computes m (ints a) (powers s ++ blocks s a q)
    go zero l = absurd (omega arith)
    go (suc b) l = blocks-compute m some s one a b (λ i g. clear i (omega arith))
