-- Lists that are made place by place, by a relation R of the numbers in a place; and what they are where R is an operation. Rests on the rules of elements.
use Rattle.std.specs.Prelude.{◌≡◌, ℕ, ◌+◌, ◌*◌, ◌/◌, ◌%◌, ◌<◌, List, length, slice_index}
use Rattle.element.specs.Rules.{lowered, products, scaled, shifted, sums}

-- zs is made of xs: it is as long, and R holds in every place
pub record Each (R : ℕ → ℕ → Type 0) (xs zs : List ℕ) : Type 0 where
  pub long : length zs ≡ length xs
  pub made : (i : ℕ) → i < length xs → R (slice_index xs i) (slice_index zs i)

-- zs is made of two lists of one length
pub record Both (R : ℕ → ℕ → ℕ → Type 0) (xs ys zs : List ℕ) : Type 0 where
  pub alike : length ys ≡ length xs
  pub long : length zs ≡ length xs
  pub made : (i : ℕ) → i < length xs → R (slice_index xs i) (slice_index ys i) (slice_index zs i)

-- so, where R is an operation with a number, zs is what the operation makes of xs
pub record EachOperation (R : ℕ → ℕ → Type 0) (xs zs : List ℕ) : Type 0 where
  pub scales : (m k : ℕ) → ((x z : ℕ) → R x z → z ≡ (x * k) % m) → zs ≡ scaled m k xs
  pub shifts : (m k : ℕ) → ((x z : ℕ) → R x z → z ≡ (x + k) % m) → zs ≡ shifted m k xs
  pub lowers : (p : ℕ) → ((x z : ℕ) → R x z → z ≡ x / p) → zs ≡ lowered p xs

-- and, where it is a sum or a product, what that makes of xs and ys
pub record BothOperation (R : ℕ → ℕ → ℕ → Type 0) (xs ys zs : List ℕ) : Type 0 where
  pub adds : (m : ℕ) → ((x y z : ℕ) → R x y z → z ≡ (x + y) % m) → zs ≡ sums m xs ys
  pub multiplies : (m : ℕ) → ((x y z : ℕ) → R x y z → z ≡ (x * y) % m) → zs ≡ products m xs ys
