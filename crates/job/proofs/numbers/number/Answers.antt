use Rattle.std.proofs.Common.{◌≡◌, ℕ, ◌<◌, ◌≤◌, length, get_or, sym, subst, arith, rules}
use Rattle.job.specs.Reading.{NumberThen}
use Rattle.job.proofs.Cuts.{leading_zero, many_digits, no_digits, number_here}
use Rattle.job.proofs.numbers.number.Goals as goal
use Rattle.job.proofs.numbers.number.Goals.{else-digits-gt1-via-then-digits-gt1+else-digits-eq48, else-digits-gt1-via-else-digits-gt1}

pub returns-then-is_empty : goal.returns-then-is_empty
returns-then-is_empty c =
    let run = c.split_digits.ensures in
    let none : length c.split_digits.result.0.now ≡ 0 = search rules in
    no_digits c.args.text.now c.split_digits.result.0.now c.split_digits.result.1.now run.text run.digits run.ends none

pub returns-then-digits-gt-DIGITS : goal.returns-then-digits-gt-DIGITS
returns-then-digits-gt-DIGITS c =
    let run = c.split_digits.ensures in
    many_digits c.args.text.now c.split_digits.result.0.now c.split_digits.result.1.now run.text run.digits run.ends c.if-digits-gt-DIGITS.true

pub returns-then-digits-eq48 : goal.returns-then-digits-eq48
returns-then-digits-eq48 c =
    let run = c.split_digits.ensures in
    leading_zero c.args.text.now c.split_digits.result.0.now c.split_digits.result.1.now run.text run.digits run.ends c.if-digits-eq48.true c.if-digits-gt1.true

pub returns : goal.returns
returns c =
    let text = c.args.text.now in
    let ds = c.split_digits.result.0.now in
    let rest = c.split_digits.result.1.now in
    let run = c.split_digits.ensures in
    let some : 0 < length ds = search rules in
    let first : get_or ds 0 0 ≡ 48 → length ds ≤ 1 = λ z. elim c.else-digits-gt1.branch [ else-digits-gt1-via-then-digits-gt1+else-digits-eq48 w ↦ omega arith | else-digits-gt1-via-else-digits-gt1 w ↦ omega arith ] in
    subst (λ (v : ℕ). NumberThen text v rest) (sym c.value_of.ensures) (number_here text ds rest run.text run.digits run.ends some c.if-digits-gt-DIGITS.false first)
