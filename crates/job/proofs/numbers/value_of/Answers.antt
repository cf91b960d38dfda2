use Rattle.std.proofs.Common.{ℕ, ◌<◌, ◌≤◌, List, length, get_or, take, ap, ◌∙◌, arith}
use Rattle.std.proofs.lemmas.Int.Digits.{digits_value_more}
use Rattle.std.proofs.lemmas.List.{length-take, take_all}
use Rattle.std.proofs.lemmas.Str.Parse.{digit_at, digits_value_short}
use Rattle.std.proofs.lemmas.Str.{digit_value_digit}
use Rattle.std.specs.Str.Parse.{AllDigits, digits_value}
use Rattle.job.proofs.Cuts.{own, front_digits}
use Rattle.job.proofs.numbers.value_of.Goals as goal

-- the digits so far write a short number
small : (ds : List ℕ) (i : ℕ) → length ds ≤ 5 → AllDigits 10 ds → digits_value 10 (take i ds) < 100000
small ds i few all = digits_value_short own (take i ds) 5 (front_digits i ds all) (simp length-take (omega arith))

pub overflow_mul-value : goal.overflow_mul-value
overflow_mul-value c = omega (arith, c.loop-digit.invariant, small c.args.digits.now c.loop-digit.digit-index c.requires.few c.requires.all)

pub overflow_sub-digit : goal.overflow_sub-digit
overflow_sub-digit c = (digit_at c.args.digits.now c.loop-digit.digit-index c.requires.all c.loop-digit-test.true).0

pub overflow_add-value : goal.overflow_add-value
overflow_add-value c = omega (arith, c.loop-digit.invariant, small c.args.digits.now c.loop-digit.digit-index c.requires.few c.requires.all, c.type_inv.digits c.loop-digit.digit-index)

pub loop-digit-preserved : goal.loop-digit-preserved
loop-digit-preserved c =
    let ds = c.args.digits.now in
    let i = c.loop-digit.digit-index in
    let step = digits_value_more 10 ds i c.loop-digit-test.true in
    let digit = digit_value_digit (get_or ds i 0) (digit_at ds i c.requires.all c.loop-digit-test.true) in
    omega (arith, c.loop-digit.invariant)

pub returns : goal.returns
returns c = c.loop-digit.invariant ∙ ap (digits_value 10) (take_all c.loop-digit.digit-index c.args.digits.now c.loop-digit-test.false)
