use Rattle.std.proofs.Common.{◌≡◌, ℕ, ◌+◌, ◌-◌, ◌≤◌, List, get_or, take, drop, replicate, ℤ, pos, sym, ap, ◌∙◌, subst, arith}
use Rattle.std.proofs.lemmas.List.{get_or-drop}
use Rattle.modulus.proofs.Congruences.{cong_path, cong_trans}
use Rattle.poly.specs.Polynomial.{form}
use Rattle.poly.specs.Powers.{Holds}
use Rattle.poly.proofs.Held.{from_same, to_same}
use Rattle.poly.proofs.Standing.{front_same, zeros}
use Rattle.planner.proofs.issue.in_powers.Goals as goal

-- what lies past the written coefficients is 0 as before
past : (xs : List ℕ) (n j : ℕ) → drop n xs ≡ drop n (replicate j 0) → (i : ℕ) → n ≤ i → get_or xs i 0 ≡ 0
past xs n j e i le =
    let place : n + (i - n) ≡ i = omega arith in
    ap (λ (k : ℕ). get_or xs k 0) (sym place) ∙ sym (get_or-drop n xs (i - n) 0) ∙ ap (λ (ys : List ℕ). get_or ys (i - n) 0) e
    ∙ get_or-drop n (replicate j 0) (i - n) 0 ∙ zeros j (n + (i - n))

-- zeros behind the coefficients change nothing
whole : (m : ℕ) (f : List ℤ) (xs : List ℕ) (n j : ℕ) → Holds m f n (take n xs) → drop n xs ≡ drop n (replicate j 0) → Holds m f n xs
whole m f xs n j h rest =
    let front : (i : ℕ) → get_or (take n xs) i 0 ≡ get_or xs i 0 = front_same xs n (past xs n j rest) in
    record {
      is = to_same m f xs (λ k. cong_trans (cong_path m (ap pos (sym (front k)))) (from_same m f (take n xs) h.is k));
      below = λ k. rw (sym (front k)) (h.below k);
      clear = past xs n j rest;
    }

pub returns : goal.returns
returns c =
    let m = c.args.modulus.now.value in
    let cs = c.args.form.now in
    let got = rw c.unwrap.ensures at c.powers.ensures in
    subst (λ (n : ℕ). Holds m (form cs) n c.powers.new.out) got.0 (whole m (form cs) c.powers.new.out c.unwrap.result 64 got.3 got.4)
