-- Lists that grow at their end, and what is still to come. Assumes nothing.
use Rattle.std.proofs.Common.{◌≡◌, ℕ, zero, suc, ◌+◌, ◌-◌, ◌*◌, ◌/◌, ◌%◌, ◌<◌, ◌≤◌, min, List, [], ◌∷◌, ◌++◌, ap, ◌∙◌, append_assoc, arith}
use Rattle.std.proofs.Math.Nat.{div-eq_of_lt-le}
use Rattle.std.proofs.lemmas.Grind.{div_ceil_times}
use Rattle.plan.specs.declared.step.Step.{Step}
use Rattle.planner.specs.Layout.{block, blocks, powers}

-- what stands before the step, the step, and what comes behind it
pub pushed : (xs ys : List Step) (s : Step) (rest : List Step) → ys ≡ xs ++ s ∷ [] → ys ++ rest ≡ xs ++ s ∷ rest
pushed xs ys s rest e = ap (λ (zs : List Step). zs ++ rest) e ∙ append_assoc xs (s ∷ []) rest

-- and the same for a part
pub joined : (xs ys part rest : List Step) → ys ≡ xs ++ part → ys ++ rest ≡ xs ++ (part ++ rest)
joined xs ys part rest e = ap (λ (zs : List Step). zs ++ rest) e ∙ append_assoc xs part rest

-- ---- counting blocks
quotient : (n s q : ℕ) → suc n ≤ q * s → q * s < suc n + s → (n + s) / s ≡ q
quotient n s q low high = div-eq_of_lt-le {k = q} s (omega arith) (omega arith)

-- a plan of n coefficients has n / s blocks, rounded up
pub block_whole : (s : ℕ) (a : List ℕ) (n : ℕ) → 0 < s → 0 < n → block s a n ≡ powers s ++ blocks s a (n / s + min 1 (n % s))
block_whole s a zero low some = absurd (omega arith)
block_whole s a (suc n) low some =
    let (least, most) = div_ceil_times (suc n) s low in ap (λ (q : ℕ). powers s ++ blocks s a q) (quotient n s _ least most)

pub steps-less : (b s : ℕ) → 1 ≤ b → 2 * s * (b - 1) + 2 * s ≡ 2 * s * b
steps-less zero s some = absurd (omega arith)
steps-less (suc b) s some =
    let down : suc b - 1 ≡ b = omega arith in
    ap (λ (n : ℕ). 2 * s * n + 2 * s) down ∙ back b s
  where
    back : (b s : ℕ) → 2 * s * b + 2 * s ≡ 2 * s * suc b
    back b s = omega arith
