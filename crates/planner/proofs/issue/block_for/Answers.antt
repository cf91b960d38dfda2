use Rattle.std.proofs.Common.{◌≡◌, ℕ, ◌^◌, ◌<◌, List, length, take, get_or, slice_index, pos, ap, ◌∙◌}
use Rattle.modulus.specs.declared.listed.Modulus.{Modulus}
use Rattle.modulus.specs.Congruence.{Cong}
use Rattle.modulus.proofs.Congruences.{cong_path, cong_trans}
use Rattle.poly.specs.Equivalents.{SamePolynomial, ints}
use Rattle.poly.specs.Polynomial.{form as form_of}
use Rattle.poly.specs.Powers.{Holds}
use Rattle.poly.specs.Reduced.{form_length}
use Rattle.poly.proofs.Held.{from_same, to_same}
use Rattle.poly.proofs.Standing.{form_length-past, front_same}
use Rattle.planner.specs.Layout.{block}
use Rattle.planner.specs.declared.kind.Kind.TheVariants.{Block}
use Rattle.planner.proofs.Forms.{form-same, length-trimmed}
use Rattle.planner.proofs.Plans.{stands-issued}
use Rattle.planner.proofs.issue.block_for.Goals as goal

-- the front of a form in powers of X is the whole form in powers of X
trimmed-powers : (m : ℕ) (c : List ℕ) (n : ℕ) (xs : List ℕ) → Holds m (form_of (take (form_length c) c)) n xs
    → SamePolynomial m (ints xs) (form_of c) × ((k : ℕ) → slice_index xs k < m)
trimmed-powers m c n xs h =
    let d = take (form_length c) c in
    let each : (k : ℕ) → Cong m (pos (get_or xs k 0)) (get_or (form_of c) k (pos 0)) =
    λ k. cong_trans (from_same m (form_of d) xs h.is k) (cong_path m (form-same d c (front_same c (form_length c) (form_length-past c)) k)) in
    (to_same m (form_of c) xs each, h.below)

pub returns : goal.returns
returns c =
    let f = c.args.fit.now in
    let m = f.modulus.prime ^ f.modulus.exponent in
    let size = c.args.size in
    let form = c.form-coefficients.result in
    let list = c.in_powers.result in
    let n = length c.trimmed-form.result.now in
    let used : n ≡ form_length form = ap length c.trimmed-form.ensures ∙ length-trimmed form in
    let is : c.block.result.items ≡ block size.value list (form_length form) = c.block.ensures ∙ ap (block size.value list) used in
    let value : c.modulus.result.value ≡ m = ap (λ (k : Modulus). k.value) c.modulus.ensures ∙ f.modulus.power in
    let held : Holds m (form_of (take (form_length form) form)) n list = rw (← value, ← c.trimmed-form.ensures) c.in_powers.ensures in
    let same = trimmed-powers m form n list held in
    stands-issued f (Block size.value) c.block.result.items (record {
      sized = (size.some, size.few);
      form_of = form;
      reported = c.form-coefficients.ensures;
      laid_out = (list, same.0, same.1, is);
    })
