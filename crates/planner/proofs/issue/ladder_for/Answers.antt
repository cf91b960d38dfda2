use Rattle.std.proofs.Common.{◌≡◌, ℕ, ◌^◌, List, length, take, ap, ◌∙◌}
use Rattle.modulus.specs.declared.listed.Modulus.{Modulus}
use Rattle.poly.specs.Reduced.{form_length}
use Rattle.poly.proofs.Standing.{form_length-past, front_same}
use Rattle.planner.specs.Layout.{ladder}
use Rattle.planner.specs.declared.kind.Kind.TheVariants.{Ladder}
use Rattle.planner.proofs.Forms.{ladder-same, length-trimmed}
use Rattle.planner.proofs.Plans.{stands-issued}
use Rattle.planner.proofs.issue.ladder_for.Goals as goal

-- the ladder of a form without the zeros at its end is that of the whole form
trimmed-ladder : (m : ℕ) (c : List ℕ) → ladder m (take (form_length c) c) (length (take (form_length c) c)) ≡ ladder m c (form_length c)
trimmed-ladder m c =
    ap (ladder m (take (form_length c) c)) (length-trimmed c) ∙ ladder-same m (take (form_length c) c) c (form_length c) (front_same c (form_length c) (form_length-past c))

pub returns : goal.returns
returns c =
    let f = c.args.fit.now in
    let m = f.modulus.prime ^ f.modulus.exponent in
    let form = c.form.result in
    let value : c.modulus.result.value ≡ m = ap (λ (k : Modulus). k.value) c.modulus.ensures ∙ f.modulus.power in
    let same = trimmed-ladder m form in
    let is : c.ladder.result.items ≡ ladder m form (form_length form) = cc in
    stands-issued f Ladder c.ladder.result.items (record { sized = tt; form_of = form; reported = c.form.ensures; laid_out = is })
