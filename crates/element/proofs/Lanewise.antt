-- Lanes one by one: how many an operation leaves, and what is in each; lanes that are made so are what it makes. Assumes nothing.
use Rattle.std.proofs.Common.{◌≡◌, ℕ, zero, suc, ◌+◌, ◌*◌, ◌/◌, ◌%◌, ◌<◌, List, [], ◌∷◌, length, get_or, sym, refl, ap, ◌∙◌, arith}
use Rattle.std.proofs.lemmas.List.{ext_get_or}
use Rattle.element.specs.Lanewise.{Both, BothOperation, Each, EachOperation}
use Rattle.element.specs.Rules.{lowered, products, scaled, shifted, sums}

-- ---- one operation
pub length-sums : (m width : ℕ) (xs ys : List ℕ) → length xs ≡ width → length ys ≡ width → length (sums m xs ys) ≡ width
length-sums m width [] ys lx ly = lx
length-sums m width (x ∷ xs) [] lx ly = ly
length-sums m width (x ∷ xs) (y ∷ ys) lx ly = omega (arith, length-sums m (length xs) xs ys refl (omega arith))

pub length-products : (m width : ℕ) (xs ys : List ℕ) → length xs ≡ width → length ys ≡ width → length (products m xs ys) ≡ width
length-products m width [] ys lx ly = lx
length-products m width (x ∷ xs) [] lx ly = ly
length-products m width (x ∷ xs) (y ∷ ys) lx ly = omega (arith, length-products m (length xs) xs ys refl (omega arith))

pub length-scaled : (m k : ℕ) (xs : List ℕ) → length (scaled m k xs) ≡ length xs
length-scaled m k [] = refl
length-scaled m k (x ∷ xs) = ap suc (length-scaled m k xs)

pub length-shifted : (m k : ℕ) (xs : List ℕ) → length (shifted m k xs) ≡ length xs
length-shifted m k [] = refl
length-shifted m k (x ∷ xs) = ap suc (length-shifted m k xs)

pub lane-sums : (m : ℕ) (xs ys : List ℕ) (j : ℕ) → j < length xs → j < length ys → get_or (sums m xs ys) j 0 ≡ (get_or xs j 0 + get_or ys j 0) % m
lane-sums m [] ys j lx ly = absurd (omega arith)
lane-sums m (x ∷ xs) [] j lx ly = absurd (omega arith)
lane-sums m (x ∷ xs) (y ∷ ys) zero lx ly = refl
lane-sums m (x ∷ xs) (y ∷ ys) (suc j) lx ly = lane-sums m xs ys j (omega arith) (omega arith)

pub lane-products : (m : ℕ) (xs ys : List ℕ) (j : ℕ) → j < length xs → j < length ys → get_or (products m xs ys) j 0 ≡ (get_or xs j 0 * get_or ys j 0) % m
lane-products m [] ys j lx ly = absurd (omega arith)
lane-products m (x ∷ xs) [] j lx ly = absurd (omega arith)
lane-products m (x ∷ xs) (y ∷ ys) zero lx ly = refl
lane-products m (x ∷ xs) (y ∷ ys) (suc j) lx ly = lane-products m xs ys j (omega arith) (omega arith)

pub lane-scaled : (m k : ℕ) (xs : List ℕ) (j : ℕ) → j < length xs → get_or (scaled m k xs) j 0 ≡ (get_or xs j 0 * k) % m
lane-scaled m k [] j lx = absurd (omega arith)
lane-scaled m k (x ∷ xs) zero lx = refl
lane-scaled m k (x ∷ xs) (suc j) lx = lane-scaled m k xs j (omega arith)

pub lane-shifted : (m k : ℕ) (xs : List ℕ) (j : ℕ) → j < length xs → get_or (shifted m k xs) j 0 ≡ (get_or xs j 0 + k) % m
lane-shifted m k [] j lx = absurd (omega arith)
lane-shifted m k (x ∷ xs) zero lx = refl
lane-shifted m k (x ∷ xs) (suc j) lx = lane-shifted m k xs j (omega arith)

pub length-lowered : (p : ℕ) (xs : List ℕ) → length (lowered p xs) ≡ length xs
length-lowered p [] = refl
length-lowered p (x ∷ xs) = ap suc (length-lowered p xs)

pub lane-lowered : (p : ℕ) (xs : List ℕ) (j : ℕ) → j < length xs → get_or (lowered p xs) j 0 ≡ get_or xs j 0 / p
lane-lowered p [] j lx = absurd (omega arith)
lane-lowered p (x ∷ xs) zero lx = refl
lane-lowered p (x ∷ xs) (suc j) lx = lane-lowered p xs j (omega arith)

-- ---- lists that are made place by place
module _ (xs zs : List ℕ) where
  pub each : {R : ℕ → ℕ → Type 0} → Each R xs zs → EachOperation R xs zs
  each h = record {
    scales = λ m k is. ext_get_or 0 zs _ (h.long ∙ sym (length-scaled m k xs)) (λ i l. is _ _ (h.made i (omega (arith, h.long))) ∙ sym (lane-scaled m k xs i (omega (arith, h.long))));
    shifts = λ m k is. ext_get_or 0 zs _ (h.long ∙ sym (length-shifted m k xs)) (λ i l. is _ _ (h.made i (omega (arith, h.long))) ∙ sym (lane-shifted m k xs i (omega (arith, h.long))));
    lowers = λ p is. ext_get_or 0 zs _ (h.long ∙ sym (length-lowered p xs)) (λ i l. is _ _ (h.made i (omega (arith, h.long))) ∙ sym (lane-lowered p xs i (omega (arith, h.long))));
  }

  pub both : {R : ℕ → ℕ → ℕ → Type 0} (ys : List ℕ) → Both R xs ys zs → BothOperation R xs ys zs
  both ys h = record {
    adds = λ m is. ext_get_or 0 zs _ (h.long ∙ sym (length-sums m (length xs) xs ys refl h.alike)) (λ i l. is _ _ _ (h.made i (omega (arith, h.long))) ∙ sym (lane-sums m xs ys i (omega (arith, h.long)) (omega (arith, h.long, h.alike))));
    multiplies = λ m is. ext_get_or 0 zs _ (h.long ∙ sym (length-products m (length xs) xs ys refl h.alike)) (λ i l. is _ _ _ (h.made i (omega (arith, h.long))) ∙ sym (lane-products m xs ys i (omega (arith, h.long)) (omega (arith, h.long, h.alike))));
  }
