-- The marked examples of plans and runs hold. Assumes nothing.
use Rattle.std.proofs.Common.{ℕ, zero, suc, ◌<◌, [], ◌∷◌, get_or, set, replicate, pos, refl, arith, lit<, lit≤}
use Rattle.modulus.proofs.Congruences.{cong_refl}
use Rattle.poly.specs.Equivalents.{SamePolynomial, ints}
use Rattle.poly.specs.Polynomial.{form}
use Rattle.element.specs.Rules.{left, endless}
use Rattle.rack.specs.Runs.{StopsAt, StuckAt, meaning}
use Rattle.planner.specs.Layout.{ladder, block}
use Rattle.planner.specs.Plans.{Planned}
use Rattle.planner.specs.declared.kind.Kind.TheVariants.{Ladder, Block}
use Rattle.marked.proofs.Examples.{squares}
use Rattle.marked_runs.specs.Marked.{Marked}

-- ---- the two plans
laddered : Planned 2 3 (0 ∷ 1 ∷ 4 ∷ 1 ∷ []) Ladder (ladder 8 (0 ∷ 1 ∷ 1 ∷ 0 ∷ []) 3)
laddered = record { sized = tt; form_of = 0 ∷ 1 ∷ 1 ∷ 0 ∷ []; reported = squares; laid_out = refl }

-- X + X(X − 1) is X ^ 2
square : SamePolynomial 8 (ints (0 ∷ 0 ∷ 1 ∷ [])) (form (0 ∷ 1 ∷ 1 ∷ 0 ∷ []))
square zero = cong_refl 8 (pos 0)
square (suc zero) = cong_refl 8 (pos 0)
square (suc (suc zero)) = cong_refl 8 (pos 1)
square (suc (suc (suc zero))) = cong_refl 8 (pos 0)
square (suc (suc (suc (suc k)))) = cong_refl 8 (pos 0)

square_small : (k : ℕ) → get_or (0 ∷ 0 ∷ 1 ∷ []) k 0 < 8
square_small zero = lit< tt
square_small (suc zero) = lit< tt
square_small (suc (suc zero)) = lit< tt
square_small (suc (suc (suc k))) = lit< tt

blocked : Planned 2 3 (0 ∷ 1 ∷ 4 ∷ 1 ∷ []) (Block 2) (block 2 (0 ∷ 0 ∷ 1 ∷ []) 3)
blocked =
    record {
      sized = (lit≤ tt, lit≤ tt);
      form_of = 0 ∷ 1 ∷ 1 ∷ 0 ∷ [];
      reported = squares;
      laid_out = (0 ∷ 0 ∷ 1 ∷ [], square, square_small, refl);
    }

-- ---- the run without a level: its first four steps do not multiply
halted : StopsAt 8 0 (replicate 3 (meaning [] endless)) (ladder 8 (0 ∷ 1 ∷ 1 ∷ 0 ∷ []) 3) (meaning (3 ∷ []) (left 0)) 4 (meaning (3 ∷ []) (left 0) ∷ meaning (3 ∷ []) (left 0) ∷ meaning (3 ∷ []) (left 0) ∷ [])
halted = record { within = lit< tt; free = free; stuck = tt; leaves = refl }
  where
    free : (j : ℕ) → j < 4 → StuckAt 8 0 (set (replicate 3 (meaning [] endless)) 0 (meaning (3 ∷ []) (left 0))) (ladder 8 (0 ∷ 1 ∷ 1 ∷ 0 ∷ []) 3) j → ⊥
    free zero l stuck = stuck
    free (suc zero) l stuck = stuck
    free (suc (suc zero)) l stuck = stuck
    free (suc (suc (suc zero))) l stuck = stuck
    free (suc (suc (suc (suc j)))) l stuck = omega arith

pub marked : Marked
marked =
    record {
      planned = ((_, laddered, refl, refl, refl), ((_, blocked, refl, refl, refl), tt));
      halts = ((_, laddered, (_, halted)), tt);
    }
