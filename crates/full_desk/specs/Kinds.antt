-- What is asked and told with elements of a kind: their meanings, by the kind's lanes and levels, take their place. Rests on the book and on the meanings of elements.
use Rattle.std.specs.Prelude.{ℕ, List, map, Ok, Err, Result}
use Rattle.modulus.specs.declared.refusal.Refusal.{Refusal}
use Rattle.element.specs.Rules.{Level}
use Rattle.rack.specs.Runs.{meaning_of}
use Rattle.full_desk.specs.Book.{Asked, offer, withdraw, plan, run, Told, accepts, withdrew, wrote, ran}
use Rattle.full_desk.specs.declared.uses.Use.{Use}
use Rattle.full_desk.specs.declared.uses.Use.TheVariants.{Offer, Withdraw, Plan, Run}
use Rattle.full_desk.specs.declared.uses.Answer.{Answer}
use Rattle.full_desk.specs.declared.uses.Answer.TheVariants.{Stands, Withdrawn, Written, Ran}

abbrev pub asked_of : {A : Type 0} → (A → List ℕ) → (A → Level) → Use A → Asked
asked_of lanes level (Offer y) = offer y
asked_of lanes level Withdraw = withdraw
asked_of lanes level (Plan kind start count) = plan kind start count
asked_of lanes level (Run p e start count input) = run p e start count (meaning_of lanes level input)

abbrev pub answer_of : {A : Type 0} → (A → List ℕ) → (A → Level) → Answer A → Told
answer_of lanes level (Stands a) = accepts a
answer_of lanes level (Withdrawn y) = withdrew y
answer_of lanes level (Written price) = wrote price
answer_of lanes level (Ran x) = ran (meaning_of lanes level x)

-- and refusals stay
abbrev pub told_of : {A : Type 0} → (A → List ℕ) → (A → Level) → Result (Answer A) Refusal → Result Told Refusal
told_of lanes level (Ok a) = Ok (answer_of lanes level a)
told_of lanes level (Err f) = Err f

abbrev pub askings : {A : Type 0} → (A → List ℕ) → (A → Level) → List (Use A) → List Asked
askings lanes level us = map (asked_of lanes level) us

abbrev pub tellings : {A : Type 0} → (A → List ℕ) → (A → Level) → List (Result (Answer A) Refusal) → List (Result Told Refusal)
tellings lanes level answers = map (told_of lanes level) answers
