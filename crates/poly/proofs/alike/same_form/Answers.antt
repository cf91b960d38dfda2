use Rattle.std.proofs.Common.{◌≡◌, ℕ, List, get_or, ap, subst, rules}
use Rattle.std.specs.Bool.{Decides}
use Rattle.std.proofs.lemmas.List.{ext_get_or}
use Rattle.modulus.specs.declared.listed.Modulus.{Modulus}
use Rattle.poly.specs.Equivalents.{Reduces, ints}
use Rattle.poly.proofs.Equivalents.{told_apart}
use Rattle.poly.proofs.alike.same_form.Goals as goal

pub returns : goal.returns
returns c =
    let m = c.args.first.now.modulus.now in
    let a = c.reduced_form.result in
    let b = c.reduced_form-2.result in
    let equal : Decides c.eq.result (a ≡ b) = search rules in
    let second : Reduces m.prime m.exponent (ints c.args.second.now.list.now) b = subst (λ (k : Modulus). Reduces k.prime k.exponent (ints c.args.second.now.list.now) b) c.requires c.reduced_form-2.ensures in
    let told = told_apart m.prime m.exponent m.listed (ints c.args.first.now.list.now) (ints c.args.second.now.list.now) a b c.reduced_form.ensures second in
    record { yes = λ t. told.1.1 (λ k. ap (λ (xs : List ℕ). get_or xs k 0) (equal.0 t)); no = λ h. equal.1 (ext_get_or 0 a b (search rules) (λ k _. told.1.0 h k)); told = told_apart }
