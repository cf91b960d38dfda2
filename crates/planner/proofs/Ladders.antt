-- A ladder computes the polynomial of its Newton form. Assumes nothing.
use Rattle.std.proofs.Common.{◌≡◌, ℕ, zero, suc, ◌+◌, ◌%◌, ◌<◌, ◌≤◌, List, length, get_or, ℤ, pos, ◌+ℤ◌, ◌-ℤ◌, ◌*ℤ◌, sym, ap, ◌∙◌, mod-lt, arith}
use Rattle.modulus.specs.Congruence.{Cong}
use Rattle.modulus.proofs.Integers.{zring}
use Rattle.modulus.proofs.Congruences.{cong_refl, cong_path, cong_trans}
use Rattle.poly.specs.Polynomial.{value, form}
use Rattle.poly.specs.Basis.{ordinary}
use Rattle.poly.proofs.Points.{basis, newton}
use Rattle.poly.proofs.Values.{newton_stop, value-form}
use Rattle.poly.proofs.Reports.{coefficients}
use Rattle.poly.proofs.Rings.{start_ring}
use Rattle.poly.proofs.Shifts.{cong_minus}
use Rattle.plan.specs.Trays.{after, last_from, answer}
use Rattle.planner.specs.Layout.{minus, rungs, ladder}
use Rattle.planner.specs.Plans.{Computes}
use Rattle.planner.proofs.Stores.{sum_agrees, product_agrees, zero_agrees}

-- ---- the rungs
-- tray 2 gets the input less i
less-agrees : (m i x : ℕ) → 0 < m → Cong m (pos ((x + minus m i) % m)) (pos x -ℤ pos i)
less-agrees m i x some = sum_agrees (cong_refl m (pos x)) (cong_minus m i some)

-- the terms below i, and t times the product that every later term has as a factor
abbrev nested : List ℕ → ℕ → ℤ → ℤ → ℤ
nested c i x t = newton ordinary (coefficients c) i x +ℤ basis ordinary i x *ℤ t

rung_ring : (s b d t a : ℤ) → s +ℤ b *ℤ (t *ℤ d +ℤ a) ≡ s +ℤ a *ℤ b +ℤ b *ℤ d *ℤ t
rung_ring s b d t a = simp zring

-- the rungs below i make of t in tray 1 what is nested there
rungs-agree : (m : ℕ) → 0 < m → (c : List ℕ) (i : ℕ) (trays : ℕ → ℕ) (t : ℤ) → Cong m (pos (trays 1)) t
    → Cong m (pos (after m trays (rungs m c i) (last_from 1 (rungs m c i)))) (nested c i (pos (trays 0)) t)
rungs-agree m some c zero trays t h = cong_trans h (cong_path m (start_ring t))
rungs-agree m some c (suc i) trays t h =
    let x : ℤ = pos (trays 0) in
    let a : ℤ = pos (get_or c i 0) in
    cong_trans (rungs-agree m some c i _ (t *ℤ (x -ℤ pos i) +ℤ a) (sum_agrees (product_agrees h (less-agrees m i (trays 0) some)) (cong_refl m a)))
    (cong_path m (rung_ring (newton ordinary (coefficients c) i x) (basis ordinary i x) (x -ℤ pos i) t a))

rungs-below : (m : ℕ) → 0 < m → (c : List ℕ) (i : ℕ) (trays : ℕ → ℕ) → trays 1 < m → after m trays (rungs m c i) (last_from 1 (rungs m c i)) < m
rungs-below m some c zero trays h = h
rungs-below m some c (suc i) trays h = rungs-below m some c i _ (mod-lt _ some)

-- ---- the whole ladder
one_ring : (a : ℤ) → pos 0 +ℤ a ≡ pos 0 +ℤ a *ℤ pos 1
one_ring a = simp zring

top_ring : (s b d t a : ℤ) → s +ℤ b *ℤ (d *ℤ t +ℤ a) ≡ s +ℤ a *ℤ b +ℤ t *ℤ (b *ℤ d)
top_ring s b d t a = simp zring

ladder-agrees : (m : ℕ) → 0 < m → (c : List ℕ) (n : ℕ) (trays : ℕ → ℕ)
    → Cong m (pos (answer m trays (ladder m c n))) (newton ordinary (coefficients c) n (pos (trays 0)))
ladder-agrees m some c zero trays = zero_agrees m (trays 0)
ladder-agrees m some c (suc zero) trays =
    let a : ℤ = pos (get_or c 0 0) in
    cong_trans (sum_agrees (zero_agrees m (trays 0)) (cong_refl m a)) (cong_path m (one_ring a))
ladder-agrees m some c (suc (suc n)) trays =
    let x : ℤ = pos (trays 0) in
    let t : ℤ = pos (get_or c (suc n) 0) in
    let a : ℤ = pos (get_or c n 0) in
    cong_trans (rungs-agree m some c n _ ((x -ℤ pos n) *ℤ t +ℤ a) (sum_agrees (product_agrees (less-agrees m n (trays 0) some) (cong_refl m t)) (cong_refl m a)))
    (cong_path m (top_ring (newton ordinary (coefficients c) n x) (basis ordinary n x) (x -ℤ pos n) t a))

ladder-below : (m : ℕ) → 0 < m → (c : List ℕ) (n : ℕ) (trays : ℕ → ℕ) → answer m trays (ladder m c n) < m
ladder-below m some c zero trays = mod-lt _ some
ladder-below m some c (suc zero) trays = mod-lt _ some
ladder-below m some c (suc (suc n)) trays = rungs-below m some c n _ (mod-lt _ some)

-- the terms from n on are 0, so those below n have the value of the whole form
newton_whole : (c : List ℕ) (n : ℕ) → ((i : ℕ) → n ≤ i → get_or c i 0 ≡ 0) → (x : ℤ) → newton ordinary (coefficients c) n x ≡ value (form c) x
newton_whole c n clear x =
    sym (value-form c (length c + n) (omega arith) x ∙ newton_stop ordinary (coefficients c) n (length c + n) (omega arith) (λ i l. ap pos (clear i l)) x)

pub ladder-computes : (m : ℕ) → 0 < m → (c : List ℕ) (n : ℕ) → ((i : ℕ) → n ≤ i → get_or c i 0 ≡ 0) → Computes m (form c) (ladder m c n)
ladder-computes m some c n clear =
    record {
      below = ladder-below m some c n;
      agrees = λ trays. cong_trans (ladder-agrees m some c n trays) (cong_path m (newton_whole c n clear (pos (trays 0))));
    }
