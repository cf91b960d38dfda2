-- What a step list costs, step by step. Assumes nothing.
use Rattle.std.proofs.Common.{◌≡◌, ℕ, zero, suc, ◌+◌, ◌*◌, ◌<◌, ◌≤◌, max, List, length, get_or, drop, set, replicate, sym, ap, ◌∙◌, subst, arith}
use native.Mathlib.Decide.{ℕ_discrete}
use Rattle.std.proofs.lemmas.List.{drop_more, length-set, get_or-set_same, get_or-set_other}
use Rattle.plan.specs.Steps.{depth_by, depth_from, step_at}
use Rattle.plan.specs.declared.step.Op.{Op}
use Rattle.plan.specs.declared.step.Op.TheVariants.{Add, Multiply, Scale, Shift}
use Rattle.plan.specs.declared.step.Step.{Step}

-- a step adds at most the two weights
depth-bound : (multiply scale b : ℕ) (depths : List ℕ) (s : Step) (op : Op) → ((t : ℕ) → get_or depths t 0 ≤ b) → depth_by multiply scale depths s op ≤ b + multiply + scale
depth-bound multiply scale b depths s Add h = omega (arith, h s.a, h s.b)
depth-bound multiply scale b depths s Multiply h = omega (arith, h s.a, h s.b)
depth-bound multiply scale b depths s Scale h = omega (arith, h s.a)
depth-bound multiply scale b depths s Shift h = omega (arith, h s.a)

pub zeros_small : (n b t : ℕ) → get_or {A = ℕ} (replicate n 0) t 0 ≤ b
zeros_small zero b t = omega arith
zeros_small (suc n) b zero = omega arith
zeros_small (suc n) b (suc t) = zeros_small n b t

-- one step more
pub depth-more : (multiply scale i d greatest whole : ℕ) (steps : List Step) (depths : List ℕ) → i < length steps → multiply + scale ≤ 32 → length depths ≡ 256 → (step_at steps i).to < 256
    → ((t : ℕ) → get_or depths t 0 ≤ 32 * i) → d ≡ depth_by multiply scale depths (step_at steps i) (step_at steps i).op
    → depth_from multiply scale depths greatest (drop i steps) ≡ whole
    → (length (set depths (step_at steps i).to d) ≡ 256) × ((t : ℕ) → get_or (set depths (step_at steps i).to d) t 0 ≤ 32 * (i + 1)) × (depth_from multiply scale (set depths (step_at steps i).to d) (max greatest d) (drop (i + 1) steps) ≡ whole)
depth-more multiply scale i d greatest whole steps depths within weights len tray small is rest =
    let s = step_at steps i in
    let bound : d ≤ 32 * i + multiply + scale = subst (λ (n : ℕ). n ≤ 32 * i + multiply + scale) (sym is) (depth-bound multiply scale (32 * i) depths s s.op small) in
    let here : depth_from multiply scale (set depths s.to (depth_by multiply scale depths s s.op)) (max greatest (depth_by multiply scale depths s s.op)) (drop (i + 1) steps) ≡ whole =
    sym (ap (λ (xs : List Step). depth_from multiply scale depths greatest xs) (drop_more steps i _ within)) ∙ rest in
    (length-set depths s.to d ∙ len, (λ t. each t bound), subst (λ (n : ℕ). depth_from multiply scale (set depths s.to n) (max greatest n) (drop (i + 1) steps) ≡ whole) (sym is) here)
  where
    each : (t : ℕ) → d ≤ 32 * i + multiply + scale → get_or (set depths (step_at steps i).to d) t 0 ≤ 32 * (i + 1)
    each t bound = go (ℕ_discrete t (step_at steps i).to)
      where
        go : Dec (t ≡ (step_at steps i).to) → get_or (set depths (step_at steps i).to d) t 0 ≤ 32 * (i + 1)
        go (yes same) = subst (λ (n : ℕ). get_or (set depths (step_at steps i).to d) n 0 ≤ 32 * (i + 1)) (sym same) (rw (get_or-set_same depths (step_at steps i).to d 0 (omega arith)) (omega arith))
        go (no other) = rw (get_or-set_other depths (step_at steps i).to t d 0 other) (omega (arith, small t))
