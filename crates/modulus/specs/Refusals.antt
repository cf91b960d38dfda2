-- The table of refusals: the number and the place of each. Rests on nothing.
use Rattle.std.specs.Prelude.{ℕ}
use Rattle.modulus.specs.declared.refusal.Refusal.{Refusal}
use Rattle.modulus.specs.declared.refusal.Refusal.TheVariants.{Unlisted, TooLarge, Full, NoPolynomial, NothingStands, ShortBuffer, OutOfRange, BadStep, NoTrays, LevelUsed, BadDigits, BadLine}

abbrev pub number_of : Refusal → ℕ
number_of Unlisted = 1
number_of (TooLarge place) = 2
number_of (Full count) = 3
number_of (NoPolynomial place) = 4
number_of NothingStands = 5
number_of (ShortBuffer needed) = 6
number_of (OutOfRange given) = 7
number_of (BadStep step) = 8
number_of (NoTrays needed) = 9
number_of (LevelUsed step) = 10
number_of (BadDigits digits) = 11
number_of (BadLine line) = 12

abbrev pub place_of : Refusal → ℕ
place_of Unlisted = 0
place_of (TooLarge place) = place
place_of (Full count) = count
place_of (NoPolynomial place) = place
place_of NothingStands = 0
place_of (ShortBuffer needed) = needed
place_of (OutOfRange given) = given
place_of (BadStep step) = step
place_of (NoTrays needed) = needed
place_of (LevelUsed step) = step
place_of (BadDigits digits) = digits
place_of (BadLine line) = line
