use Rattle.std.proofs.Common.{◌≡◌, ℕ, ◌<◌, List, [], ◌∷◌, ◌++◌, length, get_or, pos, sym, ap, ◌∙◌, subst, append_assoc, length-append, arith, rules}
use Rattle.std.proofs.lemmas.List.{append-nil}
use Rattle.modulus.proofs.Congruences.{cong_path}
use Rattle.modulus.specs.Congruence.{Cong}
use Rattle.poly.specs.Basis.{ordinary, to_newton}
use Rattle.poly.specs.Equivalents.{ints}
use Rattle.poly.proofs.Held.{newton_next}
use Rattle.poly.proofs.Shifts.{shifted-clear}
use Rattle.poly.proofs.Standing.{zeros}
use Rattle.poly.proofs.reduce.Coefficients.newton_form.Goals as goal

pub loop-c-init : goal.loop-c-init
loop-c-init c =
    let start : c.args.self.now.list.now ≡ c.into_iter-c-iterator.result.iter.rest.now = search rules in
    ([], start ∙ sym (append-nil _), (λ k. cong_path c.args.self.now.modulus.now.value (ap pos (zeros 65 k))), λ k _. zeros 65 k)

pub loop-c-preserved : goal.loop-c-preserved
loop-c-preserved c =
    let inv = c.loop-c.invariant in
    let m = c.args.self.now.modulus.now.value in
    let xs = c.args.self.now.list.now in
    let few = c.args.self.now.taken.few in
    let x = c.in-Some.c.now in
    let ks = c.loop-c.newton in
    let rest = c.next.new.self.iter.rest.now in
    let parts : xs ≡ rest ++ (x ∷ inv.0) =
    inv.1 ∙ ap (λ (ys : List ℕ). ys ++ inv.0) c.in-Some.ensures.steps ∙ append_assoc rest (x ∷ []) inv.0 in
    let room : length inv.0 < length ks = omega (arith, few, ap length parts, length-append rest (x ∷ inv.0), (let long : length ks ≡ 65 = search rules in long)) in (
      x ∷ inv.0,
      parts,
      λ k. subst (λ (ls : List ℕ). Cong m (pos (get_or ls k 0)) (to_newton ordinary (ints (x ∷ inv.0)) k)) (sym c.shift_in.ensures) (newton_next m x (length inv.0) (ints inv.0) ks room inv.2 inv.3 k),
      λ k le. ap (λ (ls : List ℕ). get_or ls k 0) c.shift_in.ensures ∙ shifted-clear m x 0 1 ks (length inv.0) room inv.3 k le,
    )
