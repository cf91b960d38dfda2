use Rattle.std.proofs.Common.{◌<◌, length, refl, arith}
use Rattle.std.proofs.lemmas.Bool.Decides.{nat_tests}
use Rattle.modulus.proofs.Exits.{err_is}
use Rattle.job.specs.Text.{no_prime, too_long}
use Rattle.job.proofs.Lines.{fourth_bad, refused, second_bad, third_bad}
use Rattle.job.proofs.read.read.Goals as goal

pub returns-then-bytes-gt-BYTES : goal.returns-then-bytes-gt-BYTES
returns-then-bytes-gt-BYTES c = (0, too_long c.if-bytes-gt-BYTES.true, refl)

pub returns-in_err-prime : goal.returns-in_err-prime
returns-in_err-prime c =
    let none = rw c.in_err-prime.ensures.ok_part at c.number_line.ensures in
    rw (err_is _ _ c.from_residual.ensures.1) (1, no_prime c.if-bytes-gt-BYTES.false (λ first. none first.0 first.1 first.2 first.3), refused _ _ c.in_err-prime.ensures.value)

pub returns-in_err-exponent : goal.returns-in_err-exponent
returns-in_err-exponent c =
    let first = rw c.in_ok-prime.ensures.ok_part at c.number_line.ensures in
    let none = rw c.in_err-exponent.ensures.ok_part at c.number_line-2.ensures in
    rw (err_is _ _ c.from_residual-in_err-exponent.ensures.1) (2, second_bad c.args.bytes.now c.if-bytes-gt-BYTES.false c.in_ok-prime.prime c.in_ok-prime.text.now first none, refused _ _ c.in_err-exponent.ensures.value)

pub returns-in_err-text : goal.returns-in_err-text
returns-in_err-text c =
    let first = rw c.in_ok-prime.ensures.ok_part at c.number_line.ensures in
    let second = rw c.in_ok-exponent.ensures.ok_part at c.number_line-2.ensures in
    let none = rw c.in_err-text.ensures.ok_part at c.values_line.ensures in
    rw (err_is _ _ c.from_residual-in_err-text.ensures.1) (3, third_bad c.args.bytes.now c.if-bytes-gt-BYTES.false c.in_ok-prime.prime c.in_ok-prime.text.now first c.in_ok-exponent.exponent c.in_ok-exponent.text.now second none, refused _ _ c.in_err-text.ensures.value)

pub returns-then-not-is_empty : goal.returns-then-not-is_empty
returns-then-not-is_empty c =
    let first = rw c.in_ok-prime.ensures.ok_part at c.number_line.ensures in
    let second = rw c.in_ok-exponent.ensures.ok_part at c.number_line-2.ensures in
    let some : 0 < length c.in_ok-text.text.now = grind (arith, nat_tests) in
    let third = rw c.in_ok-text.ensures.ok_part at c.values_line.ensures in
    (4, fourth_bad c.args.bytes.now c.if-bytes-gt-BYTES.false c.in_ok-prime.prime c.in_ok-prime.text.now first c.in_ok-exponent.exponent c.in_ok-exponent.text.now second c.values_line.new.values.items c.in_ok-text.text.now third some, refl)
