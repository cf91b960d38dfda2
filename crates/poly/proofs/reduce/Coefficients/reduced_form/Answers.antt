use Rattle.std.proofs.Common.{◌≡◌, ℕ, ◌+◌, ◌-◌, ◌%◌, ◌<◌, ◌≤◌, ◌++◌, List, length, get_or, take, drop, replicate, ap, ◌∙◌, rules, arith}
use Rattle.std.proofs.lemmas.List.{get_or-append_right, get_or_append_left, get_or-drop, get_or-take, length-take-le}
use Rattle.modulus.specs.Bounds.{w}
use Rattle.poly.specs.Equivalents.{ints}
use Rattle.poly.proofs.Equivalents.{reduces_remainders}
use Rattle.poly.proofs.Standing.{zeros}
use Rattle.poly.proofs.reduce.Coefficients.reduced_form.Goals as goal

-- the places that were gone through
gone : (n j : ℕ) (xs ks : List ℕ) (f : ℕ → ℕ) → length xs ≡ n → ((k : ℕ) → k < n → get_or xs k 0 ≡ get_or (take n ks) k 0 % f k)
    → (k : ℕ) → k < n → get_or (xs ++ drop n (replicate j 0)) k 0 ≡ get_or ks k 0 % f k
gone n j xs ks f len h k lt = get_or_append_left xs (drop n (replicate j 0)) 0 k (omega (arith, lt, len)) ∙ h k lt ∙ ap (λ (y : ℕ). y % f k) (get_or-take n ks k 0 lt)

-- the places behind them
behind : (n j : ℕ) (xs : List ℕ) → length xs ≡ n → (k : ℕ) → n ≤ k → get_or (xs ++ drop n (replicate j 0)) k 0 ≡ 0
behind n j xs len k le = get_or-append_right xs (drop n (replicate j 0)) n k 0 len le ∙ get_or-drop n (replicate j 0) (k - n) 0 ∙ zeros j (n + (k - n))

pub returns : goal.returns
returns c =
    let m = c.args.self.now.modulus.now in
    let ks = c.newton_form-newton.result in
    let n = c.mu-open.result in
    let xs = c.bring_below_bounds.new.reduced in
    let room : n ≤ length ks = search rules in
    let front : length (take n ks) ≡ n = length-take-le n ks room in
    let len : length xs ≡ n = search rules in
    reduces_remainders m.prime m.exponent m.value m.mu n m.listed m.power m.least (omega (arith, c.mu-open.ensures.is)) (ints c.args.self.now.list.now) ks (xs ++ drop n (replicate 52 0)) c.newton_form-newton.ensures
    (gone n 52 xs ks (w m.prime m.exponent) len (λ k lt. c.bring_below_bounds.ensures k (omega (arith, lt, front))))
    (behind n 52 xs len)
