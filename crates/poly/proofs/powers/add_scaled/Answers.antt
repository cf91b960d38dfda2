use Rattle.std.proofs.Common.{◌≡◌, ℕ, ◌+◌, ◌*◌, ◌%◌, ◌<◌, List, length, get_or, sym, ap, ◌∙◌, arith, rules}
use native.Mathlib.Decide.{dec_lt}
use native.Mathlib.Nat.{zero-mod}
use Rattle.std.proofs.lemmas.List.{get_or_past}
use Rattle.poly.proofs.Arrays.{from_fn-at}
use Rattle.poly.proofs.powers.add_scaled.Goals as goal

-- past the lists both sides are 0
everywhere : (m a n : ℕ) (xs ys zs : List ℕ) → length xs ≡ n → length ys ≡ n → length zs ≡ n
    → ((k : ℕ) → k < n → get_or zs k 0 ≡ (get_or xs k 0 + a * get_or ys k 0) % m) → (k : ℕ) → get_or zs k 0 ≡ (get_or xs k 0 + a * get_or ys k 0) % m
everywhere m a n xs ys zs lx ly lz within k = go (dec_lt k n)
  where
    go : Dec (k < n) → get_or zs k 0 ≡ (get_or xs k 0 + a * get_or ys k 0) % m
    go (yes lt) = within k lt
    go (no ge) =
        get_or_past zs k 0 (omega arith)
        ∙ sym (ap (λ (x : ℕ). (x + a * get_or ys k 0) % m) (get_or_past xs k 0 (omega arith)) ∙ ap (λ (y : ℕ). (0 + a * y) % m) (get_or_past ys k 0 (omega arith)) ∙ ap (λ (x : ℕ). x % m) (let z : 0 + a * 0 ≡ 0 = omega arith in z) ∙ zero-mod m)

pub returns : goal.returns
returns c =
    let m = c.args.modulus.now.value in
    let xs = c.args.sum.now in
    let ys = c.args.list.now in
    let zs = c.from_fn.result in
    let P : ℕ → ℕ → Type 0 = λ k y. y ≡ (get_or xs k 0 + c.args.c * get_or ys k 0) % m in
    everywhere m c.args.c 65 xs ys zs (search rules) (search rules) c.from_fn.ensures.items.long
    (λ k lt. from_fn-at _ _ P (λ i y q called. search rules) zs 65 c.from_fn.ensures.items k 0 lt)
