-- What one step of a change of basis makes of each place. Assumes nothing.
use Rattle.std.proofs.Common.{◌≡◌, ℕ, zero, suc, ◌+◌, ◌-◌, ◌*◌, ◌%◌, ◌<◌, ◌≤◌, List, [], ◌∷◌, length, get_or, pos, neg_ℤ, sym, refl, ap, ◌∙◌, mod-lt, arith}
use native.Mathlib.Decide.{dec_lt}
use native.Mathlib.Nat.{zero-mod}
use lib.IntN.{+ℤ_idl}
use Rattle.std.proofs.lemmas.List.{get_or_past}
use Rattle.modulus.specs.Congruence.{Cong}
use Rattle.modulus.proofs.Congruences.{cong_path, cong_sym, cong_trans, cong_mod, cong_less}
use Rattle.poly.specs.Equivalents.{ints}
use Rattle.poly.specs.Shift.{shifted}

pub get_or-ints : (xs : List ℕ) (k : ℕ) → get_or (ints xs) k (pos 0) ≡ pos (get_or xs k 0)
get_or-ints [] k = refl
get_or-ints (x ∷ xs) zero = refl
get_or-ints (x ∷ xs) (suc k) = get_or-ints xs k

pub length-shifted : (m b t by : ℕ) (cs : List ℕ) → length (shifted m b t by cs) ≡ length cs
length-shifted m b t by [] = refl
length-shifted m b t by (c ∷ cs) = ap suc (length-shifted m c (t + by) by cs)

pub shifted-first : (m b t by : ℕ) (cs : List ℕ) → 0 < length cs → get_or (shifted m b t by cs) 0 0 ≡ (b + t * get_or cs 0 0) % m
shifted-first m b t by [] h = absurd (omega arith)
shifted-first m b t by (c ∷ cs) h = refl

within : (m b t by : ℕ) (cs : List ℕ) (k : ℕ) → suc k < length cs → get_or (shifted m b t by cs) (suc k) 0 ≡ (get_or cs k 0 + (t + by * suc k) * get_or cs (suc k) 0) % m
within m b t by [] k h = absurd (omega arith)
within m b t by (c ∷ cs) zero h =
    shifted-first m c (t + by) by cs (omega arith) ∙ ap (λ (s : ℕ). (c + s * get_or cs 0 0) % m) (let e : t + by ≡ t + by * 1 = omega arith in e)
within m b t by (c ∷ cs) (suc k) h =
    within m c (t + by) by cs k (omega arith) ∙ ap (λ (s : ℕ). (get_or cs k 0 + s * get_or cs (suc k) 0) % m) (let e : t + by + by * suc k ≡ t + by * suc (suc k) = omega arith in e)

-- the same at every place, where the last coefficient leaves room
pub shifted_next : (m b t by : ℕ) (cs : List ℕ) → ((k : ℕ) → length cs ≤ suc k → get_or cs k 0 ≡ 0)
    → (k : ℕ) → get_or (shifted m b t by cs) (suc k) 0 ≡ (get_or cs k 0 + (t + by * suc k) * get_or cs (suc k) 0) % m
shifted_next m b t by cs room k = go (dec_lt (suc k) (length cs))
  where
    go : Dec (suc k < length cs) → get_or (shifted m b t by cs) (suc k) 0 ≡ (get_or cs k 0 + (t + by * suc k) * get_or cs (suc k) 0) % m
    go (yes lt) = within m b t by cs k lt
    go (no ge) =
        let here : get_or cs k 0 ≡ 0 = room k (omega arith) in
        let next : get_or cs (suc k) 0 ≡ 0 = room (suc k) (omega arith) in
        get_or_past (shifted m b t by cs) (suc k) 0 (omega (arith, length-shifted m b t by cs))
        ∙ sym (ap (λ (n : ℕ). (n + (t + by * suc k) * get_or cs (suc k) 0) % m) here ∙ ap (λ (n : ℕ). (0 + (t + by * suc k) * n) % m) next
        ∙ ap (λ (n : ℕ). n % m) (let z : 0 + (t + by * suc k) * 0 ≡ 0 = omega arith in z) ∙ zero-mod m)

pub shifted-below : (m b t by : ℕ) (cs : List ℕ) → 0 < m → (k : ℕ) → get_or (shifted m b t by cs) k 0 < m
shifted-below m b t by [] some k = some
shifted-below m b t by (c ∷ cs) some zero = mod-lt (b + t * c) some
shifted-below m b t by (c ∷ cs) some (suc k) = shifted-below m c (t + by) by cs some k

-- zeros from place n on are zeros from the place after it on
pub shifted-clear : (m b t by : ℕ) (cs : List ℕ) (n : ℕ) → n < length cs → ((k : ℕ) → n ≤ k → get_or cs k 0 ≡ 0)
    → (k : ℕ) → suc n ≤ k → get_or (shifted m b t by cs) k 0 ≡ 0
shifted-clear m b t by cs n lt clear zero h = absurd (omega arith)
shifted-clear m b t by cs n lt clear (suc k) h =
    let here : get_or cs k 0 ≡ 0 = clear k (omega arith) in
    let next : get_or cs (suc k) 0 ≡ 0 = clear (suc k) (omega arith) in
    shifted_next m b t by cs (λ j le. clear j (omega arith)) k
    ∙ ap (λ (j : ℕ). (j + (t + by * suc k) * get_or cs (suc k) 0) % m) here ∙ ap (λ (j : ℕ). (0 + (t + by * suc k) * j) % m) next
    ∙ ap (λ (j : ℕ). j % m) (let z : 0 + (t + by * suc k) * 0 ≡ 0 = omega arith in z) ∙ zero-mod m

-- −i, computed as (m − i mod m) mod m
pub cong_minus : (m i : ℕ) → 0 < m → Cong m (pos ((m - i % m) % m)) (neg_ℤ (pos i))
cong_minus m i some =
    cong_trans (cong_sym (cong_mod m (m - i % m)))
    (cong_trans (cong_path m (ap pos (let e : m - i % m ≡ 0 + (m - i % m) = omega arith in e))) (cong_trans (cong_less m 0 i some) (cong_path m (+ℤ_idl (neg_ℤ (pos i))))))
