-- Lists that have the coefficients of a polynomial modulo m: falling factorials, sums of terms, forms, and a list in powers of X turned into a form.
-- Assumes nothing.
use Rattle.std.proofs.Common.{◌≡◌, ℕ, zero, suc, ◌+◌, ◌-◌, ◌*◌, ◌%◌, ◌<◌, ◌≤◌, List, [], ◌∷◌, length, get_or, take, drop, replicate, ℤ, pos, ◌+ℤ◌, neg_ℤ, Ok, Err, Result, sym, ap, ◌∙◌, subst, mod-lt, add-one, arith, MatchResult}
use native.Mathlib.Nat.{zero-mod}
use Rattle.std.proofs.lemmas.List.{drop_more, length-take-le}
use Rattle.modulus.specs.Congruence.{Cong}
use Rattle.modulus.specs.declared.refusal.Refusal.{Refusal}
use Rattle.modulus.proofs.Congruences.{cong_refl, cong_path, cong_sym, cong_trans, cong_add, cong_mul, cong_mod}
use Rattle.poly.specs.Basis.{ordinary, to_newton}
use Rattle.poly.specs.Equivalents.{Null, SamePolynomial, ints}
use Rattle.poly.specs.Polynomial.{falling, form, scaled}
use Rattle.poly.specs.Powers.{Holds, NoPowers, long, short}
use Rattle.poly.specs.Shift.{shifted}
use Rattle.poly.proofs.Coefficients.{same_alike, same-falling_step, same-newton_step, sum_of, form-sum, get_or-plus, get_or-scaled}
use Rattle.poly.proofs.Standing.{front_same, zeros}
use Rattle.poly.proofs.Shifts.{get_or-ints, shifted-first, shifted_next, shifted-below, shifted-clear}

-- agreement of coefficients, without the map
pub to_same : (m : ℕ) (f : List ℤ) (xs : List ℕ) → ((k : ℕ) → Cong m (pos (get_or xs k 0)) (get_or f k (pos 0))) → SamePolynomial m (ints xs) f
to_same m f xs h k = cong_trans (cong_path m (get_or-ints xs k)) (h k)

pub from_same : (m : ℕ) (f : List ℤ) (xs : List ℕ) → SamePolynomial m (ints xs) f → (k : ℕ) → Cong m (pos (get_or xs k 0)) (get_or f k (pos 0))
from_same m f xs h k = cong_trans (cong_path m (sym (get_or-ints xs k))) (h k)

-- what is held in a list is held in its front
pub held_front : (m : ℕ) (f : List ℤ) (n : ℕ) (xs : List ℕ) → Holds m f n xs → Holds m f n (take n xs)
held_front m f n xs held =
    let same : (k : ℕ) → get_or (take n xs) k 0 ≡ get_or xs k 0 = front_same xs n held.clear in
    record {
      is = to_same m f (take n xs) (λ k. cong_trans (cong_path m (ap pos (same k))) (from_same m f xs held.is k));
      below = λ k. rw (same k) (held.below k);
      clear = λ k le. same k ∙ held.clear k le;
    }

-- and in a buffer whose front is a copy of it
pub held_copy : (m : ℕ) (f : List ℤ) (n : ℕ) (xs out : List ℕ) → n ≤ length xs → Holds m f n xs → take (length (take n xs)) out ≡ take n xs → Holds m f n (take n out)
held_copy m f n xs out room held copied =
    subst (λ (ys : List ℕ). Holds m f n ys) (sym (subst (λ (k : ℕ). take k out ≡ take n xs) (length-take-le n xs room) copied)) (held_front m f n xs held)

-- ---- falling factorials
-- (X)_0
pub falling-none : (m n : ℕ) → 1 < m → Holds m (falling 0) 1 (1 ∷ replicate n 0)
falling-none m n h = record { is = to_same m (falling 0) (1 ∷ replicate n 0) at; below = small; clear = past }
  where
    at : (k : ℕ) → Cong m (pos (get_or (1 ∷ replicate n 0) k 0)) (get_or (falling 0) k (pos 0))
    at zero = cong_refl m (pos 1)
    at (suc k) = cong_path m (ap pos (zeros n k))

    small : (k : ℕ) → get_or (1 ∷ replicate n 0) k 0 < m
    small zero = h
    small (suc k) = rw (zeros n k) (omega arith)

    past : (k : ℕ) → 1 ≤ k → get_or {A = ℕ} (1 ∷ replicate n 0) k 0 ≡ 0
    past zero le = absurd (omega arith)
    past (suc k) le = zeros n k

pub falling-next : (m i t : ℕ) (ks : List ℕ) → 1 < m → suc i < length ks → Cong m (pos t) (neg_ℤ (pos i)) → Holds m (falling i) (i + 1) ks
    → Holds m (falling (i + 1)) (i + 1 + 1) (shifted m 0 t 0 ks)
falling-next m i t ks h room minus held =
    let ls : List ℕ = shifted m 0 t 0 ks in
    let some : 0 < m = omega arith in
    let clear : (k : ℕ) → suc i ≤ k → get_or ks k 0 ≡ 0 = λ k le. held.clear k (omega arith) in
    let first : Cong m (pos (get_or ls 0 0)) (pos (t * get_or ks 0 0)) =
    cong_trans (cong_path m (ap pos (shifted-first m 0 t 0 ks (omega arith)))) (cong_trans (cong_sym (cong_mod m (0 + t * get_or ks 0 0))) (cong_path m (ap pos (let e : 0 + t * get_or ks 0 0 ≡ t * get_or ks 0 0 = omega arith in e)))) in
    let next : (k : ℕ) → Cong m (pos (get_or ls (suc k) 0)) (pos (get_or ks k 0 + t * get_or ks (suc k) 0)) =
    λ k. cong_trans (cong_path m (ap pos (shifted_next m 0 t 0 ks (λ j le. clear j (omega arith)) k)))
    (cong_trans (cong_sym (cong_mod m (get_or ks k 0 + (t + 0 * suc k) * get_or ks (suc k) 0))) (cong_path m (ap (λ (s : ℕ). pos (get_or ks k 0 + s * get_or ks (suc k) 0)) (let e : t + 0 * suc k ≡ t = omega arith in e)))) in
    record {
      is = rw add-one (to_same m (falling (suc i)) ls (same-falling_step m i ks ls (from_same m (falling i) ks held.is) t minus first next));
      below = shifted-below m 0 t 0 ks some;
      clear = λ k le. shifted-clear m 0 t 0 ks (suc i) room clear k (omega arith);
    }

-- ---- sums of terms: the sum with c times (X)_i more
pub sum-none : (m n : ℕ) (g : ℕ → ℤ) → 1 < m → Holds m (sum_of g 0) 0 (replicate n 0)
sum-none m n g h =
    record {
      is = to_same m [] (replicate n 0) (λ k. cong_path m (ap pos (zeros n k)));
      below = λ k. rw (zeros n k) (omega arith);
      clear = λ k _. zeros n k;
    }

pub sum-next : (m i c : ℕ) (g : ℕ → ℤ) (xs ys zs : List ℕ) → 1 < m → g i ≡ pos c → Holds m (sum_of g i) i xs → Holds m (falling i) (i + 1) ys
    → ((k : ℕ) → get_or zs k 0 ≡ (get_or xs k 0 + c * get_or ys k 0) % m) → Holds m (sum_of g (i + 1)) (i + 1) zs
sum-next m i c g xs ys zs h is held falls at = record { is = rw add-one (to_same m (sum_of g (suc i)) zs agrees); below = small; clear = past }
  where
    agrees : (k : ℕ) → Cong m (pos (get_or zs k 0)) (get_or (sum_of g (suc i)) k (pos 0))
    agrees k =
        cong_trans (cong_path m (ap pos (at k)))
        (cong_trans (cong_sym (cong_mod m (get_or xs k 0 + c * get_or ys k 0)))
        (cong_trans (cong_add (from_same m (sum_of g i) xs held.is k) (cong_mul (cong_path m (sym is)) (from_same m (falling i) ys falls.is k)))
        (cong_path m (ap (λ (z : ℤ). get_or (sum_of g i) k (pos 0) +ℤ z) (sym (get_or-scaled (g i) (falling i) k)) ∙ sym (get_or-plus (sum_of g i) (scaled (g i) (falling i)) k)))))

    small : (k : ℕ) → get_or zs k 0 < m
    small k = rw (at k) (mod-lt (get_or xs k 0 + c * get_or ys k 0) (omega arith))

    past : (k : ℕ) → i + 1 ≤ k → get_or zs k 0 ≡ 0
    past k le =
        at k ∙ ap (λ (a : ℕ). (a + c * get_or ys k 0) % m) (held.clear k (omega arith)) ∙ ap (λ (a : ℕ). (0 + c * a) % m) (falls.clear k le)
        ∙ ap (λ (a : ℕ). a % m) (let z : 0 + c * 0 ≡ 0 = omega arith in z) ∙ zero-mod m

pub form-held : (m : ℕ) (cs xs : List ℕ) → Holds m (sum_of (λ (i : ℕ). pos (get_or cs i 0)) (length cs)) (length cs) xs → Holds m (form cs) (length cs) xs
form-held m cs xs held =
    record { is = λ k. cong_trans (held.is k) (cong_path m (sym (form-sum cs (length cs) (omega arith) k))); below = held.below; clear = held.clear }

-- ---- multiples of a polynomial
pub scaled-held : (m n c : ℕ) (b : ℤ) (f : List ℤ) (xs zs : List ℕ) → 1 < m → Cong m (pos c) b → Holds m f n xs
    → ((k : ℕ) → get_or zs k 0 ≡ (0 + c * get_or xs k 0) % m) → Holds m (scaled b f) n zs
scaled-held m n c b f xs zs h is held at = record { is = to_same m (scaled b f) zs agrees; below = small; clear = past }
  where
    agrees : (k : ℕ) → Cong m (pos (get_or zs k 0)) (get_or (scaled b f) k (pos 0))
    agrees k =
        cong_trans (cong_path m (ap pos (at k ∙ ap (λ (a : ℕ). a % m) (let z : 0 + c * get_or xs k 0 ≡ c * get_or xs k 0 = omega arith in z))))
        (cong_trans (cong_sym (cong_mod m (c * get_or xs k 0)))
        (cong_trans (cong_mul is (from_same m f xs held.is k)) (cong_path m (sym (get_or-scaled b f k)))))

    small : (k : ℕ) → get_or zs k 0 < m
    small k = rw (at k) (mod-lt (0 + c * get_or xs k 0) (omega arith))

    past : (k : ℕ) → n ≤ k → get_or zs k 0 ≡ 0
    past k le =
        at k ∙ ap (λ (a : ℕ). (0 + c * a) % m) (held.clear k le) ∙ ap (λ (a : ℕ). a % m) (let z : 0 + c * 0 ≡ 0 = omega arith in z) ∙ zero-mod m

-- what has the coefficients of a null polynomial is null
pub held_null : (m : ℕ) (f : List ℤ) (n : ℕ) (xs : List ℕ) → Holds m f n xs → Null m f → Null m (ints xs)
held_null m f n xs held null x = cong_trans (same_alike m (ints xs) f held.is x) (null x)

-- ---- from powers of X to a Newton form
-- the form of a ∷ f from that of f, where the list has room for it
pub newton_next : (m a n : ℕ) (f : List ℤ) (ks : List ℕ) → n < length ks → ((k : ℕ) → Cong m (pos (get_or ks k 0)) (to_newton ordinary f k))
    → ((k : ℕ) → n ≤ k → get_or ks k 0 ≡ 0) → (k : ℕ) → Cong m (pos (get_or (shifted m a 0 1 ks) k 0)) (to_newton ordinary (pos a ∷ f) k)
newton_next m a n f ks room held clear =
    same-newton_step m a f ks (shifted m a 0 1 ks) held
    (cong_trans (cong_path m (ap pos (shifted-first m a 0 1 ks (omega arith)))) (cong_trans (cong_sym (cong_mod m (a + 0 * get_or ks 0 0))) (cong_path m (ap pos (let e : a + 0 * get_or ks 0 0 ≡ a = omega arith in e)))))
    (λ k. cong_trans (cong_path m (ap pos (shifted_next m a 0 1 ks (λ j le. clear j (omega arith)) k)))
    (cong_trans (cong_sym (cong_mod m (get_or ks k 0 + (0 + 1 * suc k) * get_or ks (suc k) 0)))
    (cong_path m (ap (λ (t : ℕ). pos (get_or ks k 0 + t * get_or ks (suc k) 0)) (let e : 0 + 1 * suc k ≡ suc k = omega arith in e)))))

-- and so in a walk from the end of the list to its start
pub newton_walk : (m i : ℕ) (xs ks ls : List ℕ) → 0 < i → i ≤ length xs → length xs - i < length ks
    → ((k : ℕ) → Cong m (pos (get_or ks k 0)) (to_newton ordinary (ints (drop i xs)) k)) → ((k : ℕ) → length xs - i ≤ k → get_or ks k 0 ≡ 0)
    → ls ≡ shifted m (get_or xs (i - 1) 0) 0 1 ks
    → ((k : ℕ) → Cong m (pos (get_or ls k 0)) (to_newton ordinary (ints (drop (i - 1) xs)) k)) × ((k : ℕ) → length xs - (i - 1) ≤ k → get_or ls k 0 ≡ 0)
newton_walk m i xs ks ls some le room held clear is =
    let a : ℕ = get_or xs (i - 1) 0 in
    let back : i - 1 + 1 ≡ i = omega arith in
    let front : drop (i - 1) xs ≡ a ∷ drop i xs = drop_more xs (i - 1) 0 (omega arith) ∙ ap (λ (j : ℕ). a ∷ drop j xs) back in
    let one : length xs - (i - 1) ≡ suc (length xs - i) = omega arith in (
      λ k. cong_trans (cong_path m (ap (λ (ys : List ℕ). pos (get_or ys k 0)) is))
          (cong_trans (newton_next m a (length xs - i) (ints (drop i xs)) ks room held clear k) (cong_path m (ap (λ (ys : List ℕ). to_newton ordinary (ints ys) k) (sym front)))),
      λ k h. ap (λ (ys : List ℕ). get_or ys k 0) is ∙ shifted-clear m a 0 1 ks (length xs - i) room clear k (omega arith),
    )

-- ---- a form that is short enough and fits the buffer is not refused
not_refused : (n room : ℕ) (f : Refusal) → n ≤ 64 → n ≤ room → NoPowers n room f → ⊥
not_refused n room f few fits (long h) = omega arith
not_refused n room f few fits (short h k) = omega arith

pub powers-answered : (n room : ℕ) (r : Result ℕ Refusal) (P : ℕ → Type 0) (Q : Refusal → Type 0) → n ≤ 64 → n ≤ room
    → MatchResult r P (λ (f : Refusal). NoPowers n room f × Q f) → (k : ℕ) × P k
powers-answered n room (Ok k) P Q few fits h = (k, h)
powers-answered n room (Err f) P Q few fits h = absurd (not_refused n room f few fits h.0)
