use Rattle.std.proofs.Common.{◌≡◌, ℕ, suc, ◌-◌, ◌≤◌, get_or, set, refl, ◌∙◌, arith}
use native.Mathlib.Decide.{ℕ_discrete}
use Rattle.std.proofs.lemmas.List.{get_or-set_other}
use Rattle.modulus.proofs.Bounds.{w-positive}
use Rattle.fit.specs.declared.table.Fit.{Fit}
use Rattle.fit.proofs.Offers.{shrunk}
use Rattle.fit.proofs.Tables.{set_here, set-reduced}
use Rattle.fit.proofs.table.Fit.take_last.Goals as goal

pub invariant_of-self : goal.invariant_of-self
invariant_of-self c =
    let f = c.args.self.now in
    let m = f.modulus in
    let n = f.count - 1 in
    record {
      within = omega (arith, f.within);
      reduced = λ i. rw c.put.ensures (set-reduced m.prime m.exponent f.coefficients n 0 f.reduced (w-positive m.prime m.exponent n m.listed) (λ _. refl) i);
      clear = λ k h. rw c.put.ensures (cleared f k h);
    }
  where
    cleared : (f : Fit) (k : ℕ) → f.count - 1 ≤ k → get_or (set f.coefficients (f.count - 1) 0) k 0 ≡ 0
    cleared f k h = go (ℕ_discrete k (f.count - 1))
      where
        go : Dec (k ≡ f.count - 1) → get_or (set f.coefficients (f.count - 1) 0) k 0 ≡ 0
        go (yes same) = rw same (set_here f.coefficients (f.count - 1) 0 (λ _. refl))
        go (no other) = get_or-set_other f.coefficients (f.count - 1) k 0 0 other ∙ f.clear k (omega arith)

pub returns-clause-after : goal.returns-clause-after
returns-clause-after c =
    let f = c.args.self.now in
    let n = f.count - 1 in
    let count : f.count ≡ suc n = omega (arith, c.requires) in
    shrunk f c.put.new.list n c.value_at-value.result count (λ i h. rw c.put.ensures (get_or-set_other f.coefficients n i 0 0 (omega arith))) c.value_at-value.ensures
