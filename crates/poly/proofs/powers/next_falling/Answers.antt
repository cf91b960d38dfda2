use Rattle.std.proofs.Common.{ℕ, ◌+◌, ◌<◌, List, length, pos, sym, ap, subst, arith, rules}
use Rattle.modulus.proofs.Congruences.{cong_path, cong_trans}
use Rattle.poly.specs.Polynomial.{falling}
use Rattle.poly.specs.Powers.{Holds}
use Rattle.poly.proofs.Held.{falling-next}
use Rattle.poly.proofs.Shifts.{cong_minus}
use Rattle.poly.proofs.powers.next_falling.Goals as goal

pub returns : goal.returns
returns c =
    let m = c.args.modulus.now.value in
    let i = c.args.i in
    let large = c.args.modulus.now.large in
    let some : 0 < m = omega arith in
    let room : i + 1 < length c.args.list.now = search rules in
    subst (λ (xs : List ℕ). Holds m (falling (i + 1)) (i + 1 + 1) xs) (sym c.shift_in.ensures)
    (falling-next m i c.negative.result c.args.list.now large (omega arith) (cong_trans (cong_path m (ap pos c.negative.ensures)) (cong_minus m i some)) c.requires.holds)
