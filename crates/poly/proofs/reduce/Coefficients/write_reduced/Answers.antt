use Rattle.std.proofs.Common.{◌≡◌, ℕ, List, take, sym, subst, rules}
use Rattle.std.proofs.lemmas.List.{length-take-le}
use Rattle.poly.specs.Equivalents.{Reduces, ints}
use Rattle.poly.proofs.Equivalents.{gives_back, reduced-past, reduces_front}
use Rattle.poly.proofs.reduce.Coefficients.write_reduced.Goals as goal

pub returns-clause-written : goal.returns-clause-written
returns-clause-written c =
    let m = c.args.self.now.modulus.now in
    let xs = c.reduced_form-reduced.result in
    let f = ints c.args.self.now.list.now in
    let h = c.reduced_form-reduced.ensures in
    let written : take m.mu c.copy_front.new.out ≡ take m.mu xs = search (rules, length-take-le) in
    subst (λ (ys : List ℕ). Reduces m.prime m.exponent f ys) (sym written) (reduces_front m.prime m.exponent f xs m.mu h (reduced-past m.prime m.exponent m.mu m.least xs h.reduced))

pub returns-clause-back : goal.returns-clause-back
returns-clause-back c = gives_back
