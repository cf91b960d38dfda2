-- The marked examples hold. Assumes nothing.
use Rattle.std.proofs.Common.{◌≡◌, ℕ, ◌+◌, ◌*◌, ◌%◌, ◌^◌, ◌<◌, ◌≤◌, Bool, T, ltb, List, [], ◌∷◌, length, get_or, pos, sym, refl, subst, le_trans, arith, lit<, lit≤, ltb→lt}
use native.Mathlib.Decide.{dec_lt}
use Rattle.std.proofs.lemmas.List.{get_or_past}
use Rattle.modulus.specs.Congruence.{Cong}
use Rattle.modulus.specs.Moduli.{Listed}
use Rattle.modulus.specs.Bounds.{v, w, Mu}
use Rattle.modulus.proofs.Congruences.{cong_factor, mod_from_cong}
use Rattle.modulus.proofs.Primes.{all-below, all-below_at}
use Rattle.modulus.proofs.Bounds.{w-positive}
use Rattle.poly.specs.Polynomial.{Fits}
use Rattle.poly.specs.Reduced.{Reduced, Reported, standing}
use Rattle.poly.proofs.Reports.{reported, no_fit, fits-standing}
use Rattle.fit.specs.Rules.{unfit, Offered}
use Rattle.poly.proofs.Equivalents.{null_example}
use Rattle.marked.specs.Marked.{Marked}

-- ---- what a computed test shows
-- every coefficient of c is below the bound of its place
abbrev within : ℕ → ℕ → List ℕ → Bool
within p e c = all-below (λ (i : ℕ). ltb (get_or c i 0) (w p e i)) (length c)

reduced : (p e : ℕ) → Listed p e → (c : List ℕ) → T (within p e c) → Reduced p e c
reduced p e h c t i = go (dec_lt i (length c))
  where
    go : Dec (i < length c) → get_or c i 0 < w p e i
    go (yes l) = ltb→lt (get_or c i 0) (w p e i) (all-below_at (λ (i : ℕ). ltb (get_or c i 0) (w p e i)) (length c) t i l)
    go (no l) = subst (λ (x : ℕ). x < w p e i) (sym (get_or_past c i 0 (omega arith))) (w-positive p e i h)

clear : (c : List ℕ) (n : ℕ) → length c ≤ n → (i : ℕ) → n ≤ i → get_or c i 0 ≡ 0
clear c n l i k = get_or_past c i 0 (le_trans l k)

-- c is what is reported for its own first n values
report : (p e : ℕ) → Listed p e → (c : List ℕ) (n : ℕ) → T (within p e c) → length c ≤ n → Reported p e (standing (p ^ e) c n) c
report p e h c n t l = reported p e h c n (reduced p e h c t) (clear c n l)

-- ---- where no coefficient gives the value
-- no even number leads from a to y modulo an even number, where a + y is odd
parity : (h b a y : ℕ) → (a + y) % 2 ≡ 1 → (d : ℕ) → Cong (h * 2) (pos (a + d * (b * 2))) (pos y) → ⊥
parity h b a y odd d g = omega (arith, mod_from_cong (cong_factor h g))

-- ---- the moduli of the table
eight : Listed 2 3
eight = (lit≤ tt, lit≤ tt)

four : Listed 2 2
four = (lit≤ tt, lit≤ tt)

nine : Listed 3 2
nine = (lit≤ tt, lit≤ tt)

-- ---- the reports: x ^ 2 modulo 8 at four and at five places, x(x − 1) and x ^ 2 modulo 4, x + x(x − 1)(x − 2) modulo 9
pub squares : Reported 2 3 (0 ∷ 1 ∷ 4 ∷ 1 ∷ []) (0 ∷ 1 ∷ 1 ∷ 0 ∷ [])
squares = report 2 3 eight (0 ∷ 1 ∷ 1 ∷ 0 ∷ []) 4 tt (lit≤ tt)

squares_more : Reported 2 3 (0 ∷ 1 ∷ 4 ∷ 1 ∷ 0 ∷ []) (0 ∷ 1 ∷ 1 ∷ 0 ∷ [])
squares_more = report 2 3 eight (0 ∷ 1 ∷ 1 ∷ 0 ∷ []) 5 tt (lit≤ tt)

pairs : Reported 2 2 (0 ∷ 0 ∷ 2 ∷ []) (0 ∷ 0 ∷ 1 ∷ [])
pairs = report 2 2 four (0 ∷ 0 ∷ 1 ∷ []) 3 tt (lit≤ tt)

squares_four : Reported 2 2 (0 ∷ 1 ∷ 0 ∷ 1 ∷ []) (0 ∷ 1 ∷ 1 ∷ 0 ∷ [])
squares_four = report 2 2 four (0 ∷ 1 ∷ 1 ∷ 0 ∷ []) 4 tt (lit≤ tt)

thirds : Reported 3 2 (0 ∷ 1 ∷ 2 ∷ 0 ∷ 1 ∷ 2 ∷ []) (0 ∷ 1 ∷ 0 ∷ 1 ∷ 0 ∷ 0 ∷ [])
thirds = report 3 2 nine (0 ∷ 1 ∷ 0 ∷ 1 ∷ 0 ∷ 0 ∷ []) 6 tt (lit≤ tt)

-- ---- the two accepted offers
more-squares : Offered 2 3 (0 ∷ 1 ∷ 4 ∷ 1 ∷ []) 0 4 0
more-squares =
    record {
      room = lit< tt;
      small = lit< tt;
      fits = fits-standing 8 (0 ∷ 1 ∷ 1 ∷ 0 ∷ []) 5;
      here = refl;
      reports = (0 ∷ 1 ∷ 1 ∷ 0 ∷ [], squares_more, refl);
    }

more-pairs : Offered 2 2 (0 ∷ 0 ∷ []) 2 2 1
more-pairs =
    record {
      room = lit< tt;
      small = lit< tt;
      fits = fits-standing 4 (0 ∷ 0 ∷ 1 ∷ []) 3;
      here = refl;
      reports = (0 ∷ 0 ∷ 1 ∷ [], pairs, refl);
    }

-- ---- the two refused ones
no_squares : Fits 8 (0 ∷ 1 ∷ 4 ∷ 1 ∷ 1 ∷ []) → ⊥
no_squares =
    no_fit 2 3 eight (0 ∷ 1 ∷ 1 ∷ 0 ∷ []) 4 1 squares.reduced (clear (0 ∷ 1 ∷ 1 ∷ 0 ∷ []) 4 (lit≤ tt)) (parity 4 12 16 1 refl)

no_pairs : Fits 4 (0 ∷ 0 ∷ 1 ∷ []) → ⊥
no_pairs = no_fit 2 2 four [] 2 1 (reduced 2 2 four [] tt) (clear [] 2 (lit≤ tt)) (parity 2 1 0 1 refl)

-- ---- the count
mu : Mu 2 8 10
mu = (lit≤ tt, λ j l. ltb→lt (v 2 j) 8 (all-below_at (λ (j : ℕ). ltb (v 2 j) 8) 10 tt j l))

pub marked : Marked
marked =
    record {
      reported = (squares, (squares_more, (pairs, (squares_four, (thirds, tt)))));
      accepts = (more-squares, (more-pairs, tt));
      refuses = (unfit (lit< tt) (lit< tt) no_squares, (unfit (lit< tt) (lit< tt) no_pairs, tt));
      counted = ((mu, refl), tt);
      vanish = (null_example, tt);
    }
