-- Steps of a table: what the coefficients past μ are, one value more, one value less. Assumes nothing.
use Rattle.std.proofs.Common.{◌≡◌, ℕ, ◌+◌, ◌-◌, ◌%◌, ◌<◌, ◌≤◌, List, length, get_or, take, set, ℤ, pos, ◌+ℤ◌, ◌-ℤ◌, neg_ℤ, sym, ap, ◌∙◌, arith}
use native.Mathlib.Decide.{dec_lt, ℕ_discrete}
use native.Mathlib.Nat.{mod-mod, add-mod-mod}
use Rattle.std.proofs.lemmas.List.{get_or_past, length-set, get_or-set_same, get_or-set_other}
use Rattle.modulus.specs.Bounds.{w, Mu}
use Rattle.modulus.specs.Congruence.{Cong}
use Rattle.modulus.proofs.Bounds.{w-past}
use Rattle.modulus.proofs.Congruences.{cong_refl, cong_path, cong_sym, cong_trans, cong_add, cong_less, cong_from_mod, mod_from_cong}
use Rattle.modulus.proofs.Integers.{zlin}
use Rattle.poly.specs.Reduced.{Reduced, value_at}
use Rattle.poly.proofs.Standing.{front_same, value_same}
use Rattle.poly.proofs.Rings.{back_ring}

-- from place μ on a reduced form has no coefficient
pub past-mu : (p e k : ℕ) (c : List ℕ) → Mu p e k → Reduced p e c → (i : ℕ) → k ≤ i → get_or c i 0 ≡ 0
past-mu p e k c mu red i le = omega (arith, red i, w-past p e k i mu le)

-- so its first μ coefficients give all of its values
pub front_value : (c : List ℕ) (k x : ℕ) → ((i : ℕ) → k ≤ i → get_or c i 0 ≡ 0) → value_at (take k c) x ≡ value_at c x
front_value c k x clear = value_same (take k c) c x (λ i _. front_same c k clear i)

-- n is −s modulo m, where s is a modulo m: d is y + n modulo m exactly when it sums with a to y
less-ring : (a d : ℤ) → d ≡ (a +ℤ d) -ℤ a
less-ring a d = omega zlin

less : (m a y s n : ℕ) → 0 < m → s ≡ a % m → n ≡ (m - s % m) % m → Cong m (pos (y + n)) (pos y -ℤ pos a)
less m a y s n some hs hn =
    let same : (y + n) % m ≡ (y + (m - a % m)) % m =
    ap (λ (k : ℕ). (y + k) % m) hn ∙ add-mod-mod y (m - s % m) m ∙ ap (λ (k : ℕ). (y + (m - k)) % m) (ap (λ (k : ℕ). k % m) hs ∙ mod-mod a m) in
    cong_trans (cong_from_mod m (y + n) (y + (m - a % m)) same) (cong_less m y a some)

pub rest_to_sum : (m a y d s n : ℕ) → 0 < m → s ≡ a % m → n ≡ (m - s % m) % m → d % m ≡ (y + n) % m → Cong m (pos (a + d)) (pos y)
rest_to_sum m a y d s n some hs hn h =
    cong_trans (cong_add (cong_refl m (pos a)) (cong_trans (cong_from_mod m d (y + n) h) (less m a y s n some hs hn))) (cong_path m (back_ring (pos a) (pos y)))

pub sum_to_rest : (m a y d s n : ℕ) → 0 < m → s ≡ a % m → n ≡ (m - s % m) % m → Cong m (pos (a + d)) (pos y) → d % m ≡ (y + n) % m
sum_to_rest m a y d s n some hs hn h =
    mod_from_cong (cong_trans (cong_path m (less-ring (pos a) (pos d))) (cong_trans (cong_add h (cong_refl m (neg_ℤ (pos a)))) (cong_sym (less m a y s n some hs hn))))

-- ---- one coefficient written
pub set_here : (cs : List ℕ) (n c : ℕ) → (length cs ≤ n → c ≡ 0) → get_or (set cs n c) n 0 ≡ c
set_here cs n c past = go (dec_lt n (length cs))
  where
    go : Dec (n < length cs) → get_or (set cs n c) n 0 ≡ c
    go (yes lt) = get_or-set_same cs n c 0 lt
    go (no ge) = get_or_past (set cs n c) n 0 (omega (arith, length-set cs n c)) ∙ sym (past (omega arith))

pub set-reduced : (p e : ℕ) (cs : List ℕ) (n c : ℕ) → Reduced p e cs → c < w p e n → (length cs ≤ n → c ≡ 0) → Reduced p e (set cs n c)
set-reduced p e cs n c red lt past i = go (ℕ_discrete i n)
  where
    go : Dec (i ≡ n) → get_or (set cs n c) i 0 < w p e i
    go (yes same) = rw same (rw (set_here cs n c past) lt)
    go (no other) = rw (get_or-set_other cs n i c 0 other) (red i)
