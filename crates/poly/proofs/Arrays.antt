-- Arrays that a closure makes, by one call for each place. Assumes nothing.
use Rattle.std.proofs.Common.{◌≡◌, ℕ, zero, suc, ◌+◌, ◌<◌, ◌≤◌, List, slice_index_or, sym, subst, arith}
use Rattle.std.specs.Array.{IsFromFnResult, IsFromFnResultFrom}
use Rattle.std.specs.Fn.{Called}
use denote.Param.Members.{Mut}
use native.Mathlib.Decide.{ℕ_discrete}

-- where each call leaves the closure as it is and gives what has P, each place of the array has P
module _ {F B : Type 0} (g : Mut F (ℕ × Unit {0}) B) (f : F) (P : ℕ → B → Type 0) (call : (i : ℕ) (y : B) (q : F) → Called g f (i, tt) y q → (q ≡ f) × P i y) where
  made : (ys : List B) (i n : ℕ) → IsFromFnResultFrom g f ys i n → (k : ℕ) (d : B) → i ≤ k → k < i + n → P k (slice_index_or ys k d)
  made ys i zero calls k d le lt = absurd (omega arith)
  made ys i (suc n) calls k d le lt = go (ℕ_discrete i k) (λ more. made ys (i + 1) n (subst (λ (p : F). IsFromFnResultFrom g p ys (i + 1) n) here.0 calls.4) k d more (omega arith))
    where
      here : (calls.0 ≡ f) × P i calls.1
      here = call i calls.1 calls.0 calls.3

      go : Dec (i ≡ k) → (i + 1 ≤ k → P k (slice_index_or ys k d)) → P k (slice_index_or ys k d)
      go (yes e) rest = subst (λ (j : ℕ). P j (slice_index_or ys j d)) e (subst (λ (y : B). P i y) (sym (calls.2.1 d)) here.1)
      go (no ne) rest = rest (omega arith)

  pub from_fn-at : (ys : List B) (n : ℕ) → IsFromFnResult g f ys n → (k : ℕ) (d : B) → k < n → P k (slice_index_or ys k d)
  from_fn-at ys n h k d lt = made ys 0 n h.each k d (omega arith) (omega arith)
