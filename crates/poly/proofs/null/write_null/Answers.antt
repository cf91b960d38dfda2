use Rattle.std.proofs.Common.{ℕ, ◌+◌, take, sym, subst, rules}
use Rattle.poly.specs.Equivalents.{Null, ints, null_at}
use Rattle.poly.specs.Powers.{Holds}
use Rattle.poly.proofs.Equivalents.{null_at-null, span}
use Rattle.poly.proofs.Held.{held_copy, held_null}
use Rattle.poly.proofs.null.write_null.Goals as goal

pub returns : goal.returns
returns c =
    let mo = c.args.modulus.now in
    let n = c.args.i + 1 in
    let f = null_at mo.prime mo.exponent c.args.i in
    let ys = take n c.copy_front.new.out in
    let written : Holds mo.value f n ys =
    held_copy mo.value f n c.null_powers-null.result c.copy_front.new.out (search rules) c.null_powers-null.ensures c.copy_front.ensures.written in
    record {
      written = written;
      vanishes = subst (λ (m : ℕ). Null m (ints ys)) mo.power (held_null mo.value f n ys written (subst (λ (m : ℕ). Null m f) (sym mo.power) (null_at-null mo.prime mo.exponent mo.listed c.args.i)));
      beyond = search rules;
      span = span;
    }
