-- How many steps each part of a plan has, and that a plan has at most 160. Assumes nothing.
use Rattle.std.proofs.Common.{◌≡◌, ℕ, zero, suc, ◌+◌, ◌-◌, ◌*◌, ◌/◌, ◌≤◌, List, [], ◌∷◌, length, get_or, refl, arith}
use native.Mathlib.Nat.{mul-div-le}
use Rattle.std.proofs.lemmas.List.{length-append, length_push}
use Rattle.planner.specs.Layout.{adds, multiplies, scales, rungs, ladder, powers, terms, filled, lower, blocks, block}

-- ---- the ladder
pub length-rungs : (m : ℕ) (c : List ℕ) (n : ℕ) → length (rungs m c n) ≡ 3 * n
length-rungs m c zero = refl
length-rungs m c (suc n) = omega (arith, length-rungs m c n)

pub length-ladder_most : (m : ℕ) (c : List ℕ) (n : ℕ) → n ≤ 52 → length (ladder m c n) ≤ 160
length-ladder_most m c zero h = omega arith
length-ladder_most m c (suc zero) h = omega arith
length-ladder_most m c (suc (suc n)) h = omega (arith, length-rungs m c n)

-- ---- the block plan
pub length-powers : (n : ℕ) → length (powers n) ≡ n - 1
length-powers zero = refl
length-powers (suc zero) = refl
length-powers (suc (suc i)) =
    omega (arith, length_push (powers (suc i)) (multiplies (suc i) (suc (suc i) / 2 - 1) ((suc (suc i) + 1) / 2 - 1)), length-powers (suc i))

pub length-terms : (s : ℕ) (a : List ℕ) (at n : ℕ) → length (terms s a at n) ≡ 2 * n
length-terms s a at zero = refl
length-terms s a at (suc i) =
    omega (arith, length-append (terms s a at i) (scales (s + 1) i (get_or a (at + suc i) 0) ∷ adds s s (s + 1) ∷ []), length-terms s a at i)

pub length-filled : (s : ℕ) → 1 ≤ s → (a : List ℕ) (at : ℕ) → length (filled s a at) ≡ 2 * s - 1
length-filled s h a at = omega (arith, length-terms s a at (s - 1))

pub length-lower : (s : ℕ) → 1 ≤ s → (a : List ℕ) (b : ℕ) → length (lower s a b) ≡ 2 * s * b
length-lower s h a zero = omega arith
length-lower s h a (suc b) =
    omega (arith, length-append (filled s a (b * s)) (lower s a b), length-filled s h a (b * s), length-lower s h a b)

pub length-blocks : (s : ℕ) → 1 ≤ s → (a : List ℕ) (b : ℕ) → length (blocks s a b) ≡ 2 * s * b
length-blocks s h a zero = omega arith
length-blocks s h a (suc b) =
    omega (arith, length-append (filled s a (b * s)) (lower s a b), length-filled s h a (b * s), length-lower s h a b)

pub length-block_most : (s : ℕ) → 1 ≤ s → s ≤ 8 → (a : List ℕ) (n : ℕ) → n ≤ 52 → length (block s a n) ≤ 160
length-block_most s low high a zero few = omega arith
length-block_most s low high a (suc n) few =
    let q : ℕ = (n + s) / s in
    omega (arith, length-append (powers s) (blocks s a q), length-powers s, length-blocks s low a q, mul-div-le (n + s) s)
