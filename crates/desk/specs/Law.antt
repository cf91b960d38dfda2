-- Two laws of the book: it leaves nothing open, and the values of a reduced polynomial lead back to it. Rests on the book and on reduced forms.
use Rattle.std.specs.Prelude.{◌≡◌, ℕ, ◌^◌, ◌<◌, ◌≤◌, List, map, Ok, Result, slice_index, slice_index_or}
use Rattle.modulus.specs.Moduli.{Listed}
use Rattle.modulus.specs.declared.refusal.Refusal.{Refusal}
use Rattle.poly.specs.Reduced.{Reduced, Reported, SameForm, form_length, standing}
use Rattle.desk.specs.Book.{Sheet, fresh, Book}
use Rattle.desk.specs.declared.uses.Use.{Use}
use Rattle.desk.specs.declared.uses.Use.TheVariants.{Offer}
use Rattle.desk.specs.declared.uses.Answer.{Answer}
use Rattle.desk.specs.declared.uses.Answer.TheVariants.{Stands}

-- two books over one list of uses from one sheet have the same answers and the same end
abbrev pub Decided : Type 0
Decided = (s end end' : Sheet) (us : List Use) (answers answers' : List (Result Answer Refusal)) → Book s us answers end → Book s us answers' end' → (answers ≡ answers') × (end ≡ end')

-- the answer of an offer that is accepted at place i with coefficient c
abbrev pub accepted : ℕ → ℕ → Result Answer Refusal
accepted i c = Ok (Stands (record { place = i; coefficient = c }))

-- the first n values of a reduced form d, offered in order, are all accepted, each with the coefficient that d has in its place; and where no coefficient of d lies past n, what is then reported is d
abbrev pub LeadsBack : Type 0
LeadsBack =
    (p e : ℕ) → Listed p e → (d : List ℕ) → Reduced p e d → (n : ℕ) → n ≤ p ^ e → (answers : List (Result Answer Refusal)) (end : Sheet)
    → Book (fresh p e) (map Offer (standing (p ^ e) d n)) answers end
    → (end.values ≡ standing (p ^ e) d n)
    × ((i : ℕ) → i < n → slice_index_or answers i (accepted 0 0) ≡ accepted i (slice_index d i))
    × (form_length d ≤ n → (c : List ℕ) → Reported p e end.values c → SameForm c d)
