use Rattle.std.proofs.Common.{◌≡◌, ℕ, ◌+◌, ◌*◌, ◌<◌, ◌≤◌, length, get_or, drop, set, sym, refl, subst, rules}
use Rattle.plan.specs.Steps.{depth_from, depth_of, step_at}
use Rattle.plan.proofs.Costs.{depth-more, zeros_small}
use Rattle.plan.proofs.cost.Weights.depth.Goals as goal

pub loop-s-init : goal.loop-s-init
loop-s-init c = (refl, (λ t. zeros_small 256 0 t), refl)

pub loop-s-preserved : goal.loop-s-preserved
loop-s-preserved c =
    let w = c.args.self in
    let steps = c.args.steps.now in
    let i = c.loop-s.s-index in
    let d = c.depth_at-here.result in
    let depths = c.loop-s.depths in
    let inv = c.loop-s.invariant in
    let tray : (step_at steps i).to < 256 = search rules in
    let more = depth-more w.multiply w.scale i d c.loop-s.greatest _ steps depths c.loop-s-test.true w.small inv.0 tray inv.1 c.depth_at-here.ensures inv.2 in
    let whole : depth_from w.multiply w.scale (set depths (step_at steps i).to d) c.max-greatest.result (drop (i + 1) steps) ≡ depth_of w.multiply w.scale steps =
    subst (λ (n : ℕ). depth_from w.multiply w.scale (set depths (step_at steps i).to d) n (drop (i + 1) steps) ≡ depth_of w.multiply w.scale steps) (sym c.max-greatest.ensures) more.2 in
    subst (λ (t : ℕ). (length (set depths t d) ≡ 256) × ((k : ℕ) → get_or (set depths t d) k 0 ≤ 32 * (i + 1)) × (depth_from w.multiply w.scale (set depths t d) c.max-greatest.result (drop (i + 1) steps) ≡ depth_of w.multiply w.scale steps))
    (sym c.from.ensures) (more.0, more.1, whole)
