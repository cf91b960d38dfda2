-- A part of the step buffer that a plan was written into. Assumes nothing.
use Rattle.std.proofs.Common.{◌≡◌, ℕ, ◌+◌, ◌≤◌, List, ◌++◌, length, take, drop, Ok, Err, Result, sym, ap, ◌∙◌, subst, arith, take-append-drop, MatchResult}
use Rattle.std.proofs.lemmas.List.{append_assoc, drop-append-le, drop-drop, length-drop, length-take-le}
use Rattle.modulus.specs.declared.refusal.Refusal.{Refusal}
use Rattle.plan.specs.declared.cost.Price.{Price}
use Rattle.plan.specs.declared.step.Step.{Step}
use Rattle.planner.specs.Plans.{Issued, NoPlan, Priced}
use Rattle.planner.specs.declared.kind.Kind.{Kind}
use Rattle.full_desk.specs.Book.{begins, room, written}

-- the part of k steps from place a on, put back as out
abbrev put_back : List Step → ℕ → ℕ → List Step → List Step
put_back steps a k out = take a steps ++ (out ++ drop k (drop a steps))

same_back : (steps : List Step) (a k : ℕ) → put_back steps a k (take k (drop a steps)) ≡ steps
same_back steps a k = ap (λ (xs : List Step). take a steps ++ xs) (take-append-drop k (drop a steps)) ∙ take-append-drop a steps

-- a plan of n steps stands at the start of the part, and the rest of the part stays
written_back : (steps out : List Step) (a k n : ℕ) → length (take k (drop a steps)) ≡ k → n ≤ k → length (take n out) ≡ n → drop n out ≡ drop n (take k (drop a steps))
    → put_back steps a k out ≡ written steps a (take n out)
written_back steps out a k n whole fits long rest =
    let xs = drop a steps in
    let tail : drop n out ++ drop k xs ≡ drop (a + length (take n out)) steps =
    ap (λ (ys : List Step). ys ++ drop k xs) rest ∙ sym (drop-append-le n (take k xs) (drop k xs) (omega arith))
    ∙ ap (λ (ys : List Step). drop n ys) (take-append-drop k xs) ∙ drop-drop n a steps ∙ ap (λ (i : ℕ). drop (a + i) steps) (sym long) in
    ap (λ (ys : List Step). take a steps ++ (ys ++ drop k xs)) (sym (take-append-drop n out))
    ∙ ap (λ (ys : List Step). take a steps ++ ys) (append_assoc (take n out) (drop n out) (drop k xs) ∙ ap (λ (ys : List Step). take n out ++ ys) tail)

-- what a plan makes of its part, said of the whole buffer
pub part-written : (p e : ℕ) (ys : List ℕ) (kind : Kind) (steps out : List Step) (start count a k : ℕ) (r : Result Price Refusal) → a ≡ begins steps start → k ≡ room steps start count
    → MatchResult r (λ price. Issued p e ys kind (take price.steps out) × Priced (take price.steps out) price × (price.steps ≤ length (take k (drop a steps))) × (drop price.steps out ≡ drop price.steps (take k (drop a steps))))
    (λ f. NoPlan p e ys (length (take k (drop a steps))) kind f × (out ≡ take k (drop a steps)))
    → MatchResult r (λ price. (made : List Step) × Issued p e ys kind made × Priced made price × (length made ≤ room steps start count) × (put_back steps a k out ≡ written steps (begins steps start) made))
    (λ f. NoPlan p e ys (room steps start count) kind f × (put_back steps a k out ≡ steps))
part-written p e ys kind steps out start count a k r is most h = go r h
  where
    whole : length (take k (drop a steps)) ≡ k
    whole = length-take-le k (drop a steps) (omega (arith, length-drop a steps))

    go : (r : Result Price Refusal)
        → MatchResult r (λ price. Issued p e ys kind (take price.steps out) × Priced (take price.steps out) price × (price.steps ≤ length (take k (drop a steps))) × (drop price.steps out ≡ drop price.steps (take k (drop a steps))))
        (λ f. NoPlan p e ys (length (take k (drop a steps))) kind f × (out ≡ take k (drop a steps)))
        → MatchResult r (λ price. (made : List Step) × Issued p e ys kind made × Priced made price × (length made ≤ room steps start count) × (put_back steps a k out ≡ written steps (begins steps start) made))
        (λ f. NoPlan p e ys (room steps start count) kind f × (put_back steps a k out ≡ steps))
    go (Ok price) (issued, priced, fits, rest) =
        let n = price.steps in
        let long : length (take n out) ≡ n = sym priced.all in
        (take n out, issued, priced, omega (arith, whole), written_back steps out a k n whole (omega (arith, whole)) long rest ∙ ap (λ (i : ℕ). written steps i (take n out)) is)
    go (Err f) (never, same) = (subst (λ (n : ℕ). NoPlan p e ys n kind f) (whole ∙ most) never, ap (λ (xs : List Step). put_back steps a k xs) same ∙ same_back steps a k)
