-- The text of a job: a prime, an exponent and values. Rests on decimal numbers.
use Rattle.std.specs.Prelude.{◌≡◌, ℕ, ◌^◌, ◌<◌, ◌≤◌, List, [], ◌∷◌, ◌++◌, length, codes, decimal, slice_index}
use Rattle.std.specs.Str.Parse.{digits_value}

-- ---- lines
-- a key, a number in decimal digits without leading zeros, and the byte 10 that ends the line
abbrev pub number_line : List ℕ → ℕ → List ℕ
number_line key n = key ++ (decimal n ++ 10 ∷ [])

-- numbers with commas between them
abbrev pub joined : List ℕ → List ℕ
joined [] = []
joined (n ∷ []) = decimal n
joined (n ∷ k ∷ ns) = decimal n ++ 44 ∷ joined (k ∷ ns)

abbrev pub list_line : List ℕ → List ℕ → List ℕ
list_line key ns = key ++ (joined ns ++ 10 ∷ [])

-- ---- jobs
-- every number of a job has at most five digits
abbrev pub Short : ℕ → Type 0
Short n = n < 100000

abbrev pub AllShort : List ℕ → Type 0
AllShort [] = Unit {0}
AllShort (n ∷ ns) = Short n × AllShort ns

-- the three lines
abbrev pub prime_line : ℕ → List ℕ
prime_line p = number_line (codes "prime=") p

abbrev pub exponent_line : ℕ → List ℕ
exponent_line e = number_line (codes "exponent=") e

abbrev pub values_line : List ℕ → List ℕ
values_line vs = list_line (codes "values=") vs

-- the bytes are the text of the job with the prime p, the exponent e and the values vs
pub record Says (bytes : List ℕ) (p e : ℕ) (vs : List ℕ) : Type 0 where
  pub short : length bytes ≤ 4096
  pub prime : Short p
  pub exponent : Short e
  pub values : AllShort vs
  pub text : bytes ≡ prime_line p ++ (exponent_line e ++ values_line vs)

-- ---- texts that are no job
-- the bytes begin with a line for the prime; with that and one for the exponent; with these and one for the values
abbrev pub FirstLine : List ℕ → Type 0
FirstLine bytes = (p : ℕ) × (rest : List ℕ) × Short p × (bytes ≡ prime_line p ++ rest)

abbrev pub TwoLines : List ℕ → Type 0
TwoLines bytes = (p : ℕ) × (e : ℕ) × (rest : List ℕ) × Short p × Short e × (bytes ≡ prime_line p ++ (exponent_line e ++ rest))

abbrev pub ThreeLines : List ℕ → Type 0
ThreeLines bytes =
    (p : ℕ) × (e : ℕ) × (vs : List ℕ) × (rest : List ℕ) × Short p × Short e × AllShort vs
    × (bytes ≡ prime_line p ++ (exponent_line e ++ (values_line vs ++ rest)))

-- the first line that is not as laid out: 0 where there are too many bytes, which comes first, and 4 where bytes follow the third line
pub data IsBadLine (bytes : List ℕ) : ℕ → Type 0 where
  too_long : 4096 < length bytes → IsBadLine bytes 0
  no_prime : length bytes ≤ 4096 → (FirstLine bytes → ⊥) → IsBadLine bytes 1
  no_exponent : length bytes ≤ 4096 → FirstLine bytes → (TwoLines bytes → ⊥) → IsBadLine bytes 2
  no_values : length bytes ≤ 4096 → TwoLines bytes → (ThreeLines bytes → ⊥) → IsBadLine bytes 3
  more_bytes : length bytes ≤ 4096 → ThreeLines bytes → ((p e : ℕ) (vs : List ℕ) → Says bytes p e vs → ⊥) → IsBadLine bytes 4

-- ---- laws of the grammar
-- a text is the text of at most one job, and then no line of it is bad; and only one line is the first bad one
abbrev pub OneJob : Type 0
OneJob =
    (bytes : List ℕ) (p e : ℕ) (vs : List ℕ) → Says bytes p e vs
    → ((q f : ℕ) (us : List ℕ) → Says bytes q f us → (p ≡ q) × (e ≡ f) × (vs ≡ us))
    × ((line : ℕ) → IsBadLine bytes line → ⊥)

abbrev pub OneBadLine : Type 0
OneBadLine = (bytes : List ℕ) (line other : ℕ) → IsBadLine bytes line → IsBadLine bytes other → line ≡ other

-- the digits of a number have no zero in front, unless they are 0 itself, and read as that number
abbrev pub PlainNumbers : Type 0
PlainNumbers = (n : ℕ) → n < 2 ^ 64 → (digits_value 10 (decimal n) ≡ n) × (0 < n → 48 < slice_index (decimal n) 0) × (decimal 0 ≡ 48 ∷ [])
