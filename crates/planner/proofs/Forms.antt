-- Newton forms and plans look only at coefficients: zeros at the end of a list change nothing. Assumes nothing.
use Rattle.std.proofs.Common.{◌≡◌, ℕ, zero, suc, ◌+◌, ◌-◌, ◌*◌, ◌/◌, ◌<◌, ◌≤◌, List, [], ◌∷◌, ◌++◌, length, get_or, take, ℤ, pos, ◌+ℤ◌, ◌*ℤ◌, sym, refl, ap, ◌∙◌, le_refl, le_antisymm, arith}
use mathlib.Core.Path.{fun_ext}
use Rattle.std.proofs.lemmas.List.{get_or-take, get_or_append_left, get_or_past, length-take-le, length_push}
use Rattle.std.proofs.Math.Seq.{get_or-append_seam}
use Rattle.poly.specs.Polynomial.{falling, form}
use Rattle.poly.specs.Reduced.{SameForm, form_length}
use Rattle.poly.proofs.Coefficients.{falling-past, sum_of, get_or-sum_suc, sum_of-stop, form-sum}
use Rattle.poly.proofs.Standing.{form_length-le, form_length-past}
use Rattle.poly.proofs.Rings.{zeros_ring}
use Rattle.plan.specs.declared.step.Step.{Step}
use Rattle.planner.specs.Layout.{adds, multiplies, scales, shifts, minus, rungs, ladder, powers, terms, filled, lower, blocks, block}

-- ---- the length of a form
pub form_length-same : (c d : List ℕ) → SameForm c d → form_length c ≡ form_length d
form_length-same c d h =
    le_antisymm (form_length-le c (form_length d) (λ i l. h i ∙ form_length-past d i l))
    (form_length-le d (form_length c) (λ i l. sym (h i) ∙ form_length-past c i l))

-- the length of a form without the zeros at its end
pub length-trimmed : (c : List ℕ) → length (take (form_length c) c) ≡ form_length c
length-trimmed c = length-take-le (form_length c) c (form_length-le c (length c) (λ i l. get_or_past c i 0 l))

-- ---- a form in powers of X
-- terms below place n have no coefficient in powers of X from n on
sum_of-past : (c : ℕ → ℤ) (n k : ℕ) → n ≤ k → get_or (sum_of c n) k (pos 0) ≡ pos 0
sum_of-past c zero k l = refl
sum_of-past c (suc n) k l =
    get_or-sum_suc c n k ∙ ap (λ (z : ℤ). z +ℤ c n *ℤ get_or (falling n) k (pos 0)) (sum_of-past c n k (omega arith))
    ∙ ap (λ (z : ℤ). pos 0 +ℤ c n *ℤ z) (falling-past n k l) ∙ zeros_ring (c n)

-- a Newton form has no coefficient in powers of X from its length on
pub form-past : (c : List ℕ) (k : ℕ) → form_length c ≤ k → get_or (form c) k (pos 0) ≡ pos 0
form-past c k l =
    let short : form_length c ≤ length c = form_length-le c (length c) (λ i g. get_or_past c i 0 g) in
    form-sum c (length c) (le_refl (length c)) k
    ∙ sum_of-stop (λ (i : ℕ). pos (get_or c i 0)) (form_length c) (length c) short (λ i g. ap pos (form_length-past c i g)) k
    ∙ sum_of-past (λ (i : ℕ). pos (get_or c i 0)) (form_length c) k l

-- one form written with other zeros at its end has the same coefficients in powers of X
pub form-same : (c d : List ℕ) → SameForm c d → (k : ℕ) → get_or (form c) k (pos 0) ≡ get_or (form d) k (pos 0)
form-same c d h k =
    let n : ℕ = length c + length d in
    let same : ◌≡◌ {A = ℕ → ℤ} (λ i. pos (get_or c i 0)) (λ i. pos (get_or d i 0)) = fun_ext (λ (i : ℕ). ap pos (h i)) in
    form-sum c n (omega arith) k ∙ ap (λ (f : ℕ → ℤ). get_or (sum_of f n) k (pos 0)) same ∙ sym (form-sum d n (omega arith) k)

-- ---- a block plan
terms-same : (s : ℕ) (a b : List ℕ) (at n : ℕ) → ((k : ℕ) → get_or a k 0 ≡ get_or b k 0) → terms s a at n ≡ terms s b at n
terms-same s a b at zero h = refl
terms-same s a b at (suc i) h =
    ap (λ (steps : List Step). steps ++ scales (s + 1) i (get_or a (at + suc i) 0) ∷ adds s s (s + 1) ∷ []) (terms-same s a b at i h)
    ∙ ap (λ (x : ℕ). terms s b at i ++ scales (s + 1) i x ∷ adds s s (s + 1) ∷ []) (h (at + suc i))

filled-same : (s : ℕ) (a b : List ℕ) (at : ℕ) → ((k : ℕ) → get_or a k 0 ≡ get_or b k 0) → filled s a at ≡ filled s b at
filled-same s a b at h =
    ap (λ (x : ℕ). shifts s s x ∷ terms s a at (s - 1)) (h at) ∙ ap (λ (steps : List Step). shifts s s (get_or b at 0) ∷ steps) (terms-same s a b at (s - 1) h)

lower-same : (s : ℕ) (a b : List ℕ) (n : ℕ) → ((k : ℕ) → get_or a k 0 ≡ get_or b k 0) → lower s a n ≡ lower s b n
lower-same s a b zero h = refl
lower-same s a b (suc n) h =
    ap (λ (steps : List Step). multiplies s s (s - 1) ∷ (steps ++ lower s a n)) (filled-same s a b (n * s) h)
    ∙ ap (λ (steps : List Step). multiplies s s (s - 1) ∷ (filled s b (n * s) ++ steps)) (lower-same s a b n h)

blocks-same : (s : ℕ) (a b : List ℕ) (n : ℕ) → ((k : ℕ) → get_or a k 0 ≡ get_or b k 0) → blocks s a n ≡ blocks s b n
blocks-same s a b zero h = refl
blocks-same s a b (suc n) h =
    ap (λ (steps : List Step). scales s 0 0 ∷ (steps ++ lower s a n)) (filled-same s a b (n * s) h)
    ∙ ap (λ (steps : List Step). scales s 0 0 ∷ (filled s b (n * s) ++ steps)) (lower-same s a b n h)

-- a block plan looks only at coefficients
pub block_same : (s : ℕ) (a b : List ℕ) (n : ℕ) → ((k : ℕ) → get_or a k 0 ≡ get_or b k 0) → block s a n ≡ block s b n
block_same s a b zero h = refl
block_same s a b (suc n) h = ap (λ (steps : List Step). powers s ++ steps) (blocks-same s a b ((n + s) / s) h)

-- ---- a ladder
-- n rungs look only at the first n coefficients
pub rungs-same : (m : ℕ) (c d : List ℕ) (n : ℕ) → ((k : ℕ) → k < n → get_or c k 0 ≡ get_or d k 0) → rungs m c n ≡ rungs m d n
rungs-same m c d zero h = refl
rungs-same m c d (suc i) h =
    ap (λ (x : ℕ). shifts 2 0 (minus m i) ∷ multiplies 1 1 2 ∷ shifts 1 1 x ∷ rungs m c i) (h i (omega arith))
    ∙ ap (λ (steps : List Step). shifts 2 0 (minus m i) ∷ multiplies 1 1 2 ∷ shifts 1 1 (get_or d i 0) ∷ steps) (rungs-same m c d i (λ k l. h k (omega arith)))

-- the rungs of one coefficient more
pub rungs-more : (m : ℕ) (c : List ℕ) (a : ℕ) → rungs m (c ++ a ∷ []) (length (c ++ a ∷ [])) ≡ shifts 2 0 (minus m (length c)) ∷ multiplies 1 1 2 ∷ shifts 1 1 a ∷ rungs m c (length c)
rungs-more m c a =
    let long : length (c ++ a ∷ []) ≡ suc (length c) = omega (arith, length_push c a) in
    ap (rungs m (c ++ a ∷ [])) long
    ∙ ap (λ (x : ℕ). shifts 2 0 (minus m (length c)) ∷ multiplies 1 1 2 ∷ shifts 1 1 x ∷ rungs m (c ++ a ∷ []) (length c)) (get_or-append_seam c a [] 0)
    ∙ ap (λ (steps : List Step). shifts 2 0 (minus m (length c)) ∷ multiplies 1 1 2 ∷ shifts 1 1 a ∷ steps)
    (rungs-same m (c ++ a ∷ []) c (length c) (λ k l. get_or_append_left c (a ∷ []) 0 k l))

-- so does a ladder
pub ladder-same : (m : ℕ) (c d : List ℕ) (n : ℕ) → ((k : ℕ) → get_or c k 0 ≡ get_or d k 0) → ladder m c n ≡ ladder m d n
ladder-same m c d zero h = refl
ladder-same m c d (suc zero) h = ap (λ (x : ℕ). scales 1 0 0 ∷ shifts 1 1 x ∷ []) (h 0)
ladder-same m c d (suc (suc n)) h =
    ap (λ (x : ℕ). shifts 2 0 (minus m n) ∷ scales 1 2 x ∷ shifts 1 1 (get_or c n 0) ∷ rungs m c n) (h (suc n))
    ∙ ap (λ (x : ℕ). shifts 2 0 (minus m n) ∷ scales 1 2 (get_or d (suc n) 0) ∷ shifts 1 1 x ∷ rungs m c n) (h n)
    ∙ ap (λ (steps : List Step). shifts 2 0 (minus m n) ∷ scales 1 2 (get_or d (suc n) 0) ∷ shifts 1 1 (get_or d n 0) ∷ steps) (rungs-same m c d n (λ k _. h k))

-- the ladder of two coefficients or more: its first steps at the last two of them, and the rungs of those below
pub ladder_ends : (m : ℕ) (c : List ℕ) → 2 ≤ length c → let below = take (length c - 2) c in
    ladder m c (length c) ≡ shifts 2 0 (minus m (length below)) ∷ scales 1 2 (get_or c (length c - 1) 0) ∷ shifts 1 1 (get_or c (length c - 2) 0) ∷ rungs m below (length below)
ladder_ends m c two =
    let n : ℕ = length c - 2 in
    let below : List ℕ = take n c in
    let long : length c ≡ suc (suc n) = omega arith in
    let last : suc n ≡ length c - 1 = omega arith in
    let cut : length below ≡ n = length-take-le n c (omega arith) in
    ap (ladder m c) long
    ∙ ap (λ (i : ℕ). shifts 2 0 (minus m n) ∷ scales 1 2 (get_or c i 0) ∷ shifts 1 1 (get_or c n 0) ∷ rungs m c n) last
    ∙ ap (λ (k : ℕ). shifts 2 0 (minus m k) ∷ scales 1 2 (get_or c (length c - 1) 0) ∷ shifts 1 1 (get_or c n 0) ∷ rungs m c k) (sym cut)
    ∙ ap (λ (steps : List Step). shifts 2 0 (minus m (length below)) ∷ scales 1 2 (get_or c (length c - 1) 0) ∷ shifts 1 1 (get_or c n 0) ∷ steps)
    (sym (rungs-same m below c (length below) (λ k l. get_or-take n c k 0 (omega (arith, l, cut)))))
