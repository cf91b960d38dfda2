-- Numbers in decimal digits end in one place. Rests on decimal numbers.
use Rattle.std.proofs.Common.{◌≡◌, ℕ, zero, suc, ◌<◌, ◌≤◌, List, [], ◌∷◌, ◌++◌, length, get_or, take, drop, decimal, sym, refl, ap, ◌∙◌, subst, arith}
use native.Mathlib.Decide.{dec_le}
use Rattle.std.proofs.lemmas.Fmt.{decimal_digit, decimal_nonempty, decimal-digits_value, digits_decimal, first_decimal, length-decimal-le, decimal_injective}
use Rattle.std.proofs.lemmas.List.{append_assoc, append_cancel_left, drop_all, length-append}
use Rattle.std.proofs.lemmas.Str.Parse.{IsNumeralModel, numerals_by_value, tells_by_index, tells_digits, digit_from_value, digits_value_short}
use Rattle.std.specs.Str.Parse.{AllDigits, digits_value as value}
use Rattle.std.specs.Char.{digit_value}
use Rattle.std.specs.Int.{IsInRange}
use Rattle.job.specs.Reading.{Ends, LineThen, NoLine, NoNumber, NumberThen}
use Rattle.job.specs.Text.{Short, number_line}

pub own : IsNumeralModel (AllDigits 10) (value 10)
own = numerals_by_value (AllDigits 10) tells_digits

pub all_digits : (ds : List ℕ) → ((k : ℕ) → k < length ds → IsInRange 48 57 (get_or ds k 0)) → AllDigits 10 ds
all_digits = (numerals_by_value (λ ds. (k : ℕ) → k < length ds → IsInRange 48 57 (get_or ds k 0)) tells_by_index).to

-- digits taken from the front of digits are digits
pub front_digits : (i : ℕ) (ds : List ℕ) → AllDigits 10 ds → AllDigits 10 (take i ds)
front_digits zero ds d = tt
front_digits (suc i) [] d = tt
front_digits (suc i) (c ∷ ds) d = (d.0, front_digits i ds d.1)

-- ---- where a number ends
-- a digit does not stand where a number has ended
not_ended : (c : ℕ) (rest xs : List ℕ) → digit_value c < 10 → Ends xs → xs ≡ c ∷ rest → ⊥
not_ended c rest xs digit ends e =
    let i = digit_from_value c digit in
    subst Ends e ends i.0 i.1

-- two runs of digits that end in one text are one run
pub cut_digits : (ds es xs ys : List ℕ) → AllDigits 10 ds → AllDigits 10 es → Ends xs → Ends ys → ds ++ xs ≡ es ++ ys → (ds ≡ es) × (xs ≡ ys)
cut_digits [] [] xs ys d d' ends ends' e = (refl, e)
cut_digits [] (c ∷ es) xs ys d d' ends ends' e = absurd (not_ended c (es ++ ys) xs d'.0 ends e)
cut_digits (c ∷ ds) [] xs ys d d' ends ends' e = absurd (not_ended c (ds ++ xs) ys d.0 ends' (sym e))
cut_digits (c ∷ ds) (b ∷ es) xs ys d d' ends ends' e =
    let first : c ≡ b = cc in
    let cut = cut_digits ds es xs ys d.1 d'.1 ends ends' (cc) in
    let same = cut.0 in
    (cc, cut.1)

-- a text begins with at most one number
pub cut_number : (m n : ℕ) (xs ys : List ℕ) → Short m → Short n → Ends xs → Ends ys → decimal m ++ xs ≡ decimal n ++ ys → (m ≡ n) × (xs ≡ ys)
cut_number m n xs ys short short' ends ends' e =
    let cut = cut_digits (decimal m) (decimal n) xs ys (digits_decimal own m (omega arith)) (digits_decimal own n (omega arith)) ends ends' e in
    (decimal_injective m n (omega arith) (omega arith) cut.0, cut.1)

-- ---- a run of digits at the front of a text
module _ (text ds rest : List ℕ) (is : text ≡ ds ++ rest) (digits : AllDigits 10 ds) (ends : Ends rest) where
  -- a number stands here only if the digits write it
  pub only_digits : ((n : ℕ) → Short n → ds ≡ decimal n → ⊥) → NoNumber text
  only_digits other n rest' short ends' e = other n short (cut_digits ds (decimal n) rest rest' digits (digits_decimal own n (omega arith)) ends ends' (sym is ∙ e)).0

  pub no_digits : length ds ≡ 0 → NoNumber text
  no_digits none = only_digits (λ n short e. omega (arith, decimal_nonempty n (omega arith), ap length e))

  pub many_digits : 5 < length ds → NoNumber text
  many_digits many = only_digits (λ n short e. omega (arith, length-decimal-le 5 n (omega arith) (omega arith) (omega arith), ap length e))

  pub leading_zero : get_or ds 0 0 ≡ 48 → 1 < length ds → NoNumber text
  leading_zero first more = only_digits go
    where
      go : (n : ℕ) → Short n → ds ≡ decimal n → ⊥
      go zero short e = omega (arith, ap length (e ∙ decimal_digit 0 (omega arith)))
      go (suc n) short e = omega (arith, first_decimal (suc n) (omega arith) (omega arith), ap (λ (xs : List ℕ). get_or xs 0 0) e)

  pub number_here : 0 < length ds → length ds ≤ 5 → (get_or ds 0 0 ≡ 48 → length ds ≤ 1) → NumberThen text (value 10 ds) rest
  number_here some few first =
      let short : value 10 ds < 100000 = digits_value_short own ds 5 digits few in
      let written = decimal-digits_value own ds digits (omega arith) (λ z. omega (arith, first z)) (omega arith) in
      record { short = short; is = is ∙ ap (λ (xs : List ℕ). xs ++ rest) (sym written); ends = ends }

-- a number has a digit at least
pub number_takes : (text : List ℕ) (n : ℕ) (rest : List ℕ) → NumberThen text n rest → length rest < length text
number_takes text n rest h = omega (arith, ap length h.is, length-append (decimal n) rest, decimal_nonempty n (omega (arith, h.short)))

-- ---- a line at the front of a text
-- the key, the number, the end of the line, and what follows
pub line_parts : (key : List ℕ) (n : ℕ) (rest : List ℕ) → number_line key n ++ rest ≡ key ++ (decimal n ++ 10 ∷ rest)
line_parts key n rest = simp append_assoc

-- the byte 10 ends a number
pub ends-line : (rest : List ℕ) → Ends (10 ∷ rest)
ends-line rest low high = omega arith

-- no line stands in a text from one place on where the key does not, and none past its end
pub no_key : (bs key : List ℕ) (at : ℕ) → ((rest : List ℕ) → at ≤ length bs → drop at bs ≡ key ++ rest → ⊥) → NoLine (drop at bs) key
no_key bs key at none n rest short e = go (dec_le at (length bs))
  where
    line : drop at bs ≡ key ++ (decimal n ++ 10 ∷ rest)
    line = e ∙ line_parts key n rest

    go : Dec (at ≤ length bs) → ⊥
    go (yes le) = none (decimal n ++ 10 ∷ rest) le line
    go (no past) = omega (arith, ap length (sym (drop_all at bs (omega arith)) ∙ line), length-append key (decimal n ++ 10 ∷ rest), length-append (decimal n) (10 ∷ rest))

module _ (text key left : List ℕ) (has : text ≡ key ++ left) where
  -- a number behind the key, and the byte 10 behind that, are a line
  pub line_here : (value : ℕ) (rest : List ℕ) → NumberThen left value (10 ∷ rest) → LineThen text key value rest
  line_here value rest found =
      record { short = found.short; is = has ∙ ap (λ (xs : List ℕ). key ++ xs) found.is ∙ sym (line_parts key value rest) }

  behind_key : (n : ℕ) (rest : List ℕ) → text ≡ number_line key n ++ rest → left ≡ decimal n ++ 10 ∷ rest
  behind_key n rest e = append_cancel_left key left (decimal n ++ 10 ∷ rest) (sym has ∙ e ∙ line_parts key n rest)

  pub no_line : NoNumber left → NoLine text key
  no_line none n rest short e = none n (10 ∷ rest) short (ends-line rest) (behind_key n rest e)

  -- behind the number the line has to end
  pub unended : (value : ℕ) (end : List ℕ) → NumberThen left value end → ((rest : List ℕ) → end ≡ 10 ∷ rest → ⊥) → NoLine text key
  unended value end found other n rest short e = other rest (cut_number value n end (10 ∷ rest) found.short short found.ends (ends-line rest) (sym found.is ∙ behind_key n rest e)).1
