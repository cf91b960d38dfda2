use Rattle.std.proofs.Common.{◌≡◌, ℕ, ◌+◌, ◌<◌, ◌≤◌, List, length, take, get_or, Option, Some, None, MatchOption, subst, sym, ap, le_antisymm, arith, rules}
use native.Mathlib.Decide.{dec_lt}
use Rattle.std.proofs.lemmas.List.{get_or_past}
use Rattle.poly.specs.Reduced.{form_length}
use Rattle.poly.proofs.Standing.{form_length-le, form_length-past}
use Rattle.planner.proofs.issue.trimmed.Goals as goal

-- what is 0 within the list is 0 everywhere
everywhere : (cs : List ℕ) (n : ℕ) → ((i : ℕ) → n ≤ i → i < length cs → get_or cs i 0 ≡ 0) → (i : ℕ) → n ≤ i → get_or cs i 0 ≡ 0
everywhere cs n clear i le = go (dec_lt i (length cs))
  where
    go : Dec (i < length cs) → get_or cs i 0 ≡ 0
    go (yes lt) = clear i le lt
    go (no ge) = get_or_past cs i 0 (omega arith)

-- the place behind the last coefficient that is not 0
abbrev Ends : List ℕ → ℕ → Option ℕ → Type 0
Ends cs n r =
    MatchOption r ((n ≡ 0) × ((k : ℕ) → 0 ≤ k → k < length cs → get_or cs k 0 ≡ 0))
    (λ i. (n ≡ i + 1) × (get_or cs i 0 ≡ 0 → ⊥) × ((k : ℕ) → i + 1 ≤ k → k < length cs → get_or cs k 0 ≡ 0))

exact : (cs : List ℕ) (n : ℕ) (r : Option ℕ) → Ends cs n r → n ≡ form_length cs
exact cs n None (is, clear) =
    let h = form_length-le cs 0 (everywhere cs 0 clear) in omega (arith, h)
exact cs n (Some i) (is, last, clear) =
    le_antisymm (go (dec_lt (form_length cs) (i + 1))) (subst (λ (k : ℕ). form_length cs ≤ k) (sym is) (form_length-le cs (i + 1) (everywhere cs (i + 1) clear)))
  where
    go : Dec (form_length cs < i + 1) → n ≤ form_length cs
    go (yes lt) = absurd (last (form_length-past cs i (omega arith)))
    go (no ge) = omega arith

pub returns : goal.returns
returns c =
    let cs = c.args.coefficients.now in
    let ends : Ends cs c.map_or-used.result c.rposition.result = search rules in
    ap (λ (n : ℕ). take n cs) (exact cs c.map_or-used.result c.rposition.result ends)
