-- Racks of elements of a kind, and what is asked and told of them. Assumes nothing.
use Rattle.std.proofs.Common.{◌≡◌, ℕ, zero, suc, ◌+◌, ◌<◌, ◌≤◌, List, [], ◌∷◌, ◌++◌, length, get_or, take, Result, sym, ap, ◌∙◌, subst, arith}
use Rattle.std.proofs.lemmas.List.{map_push, take_all, take_more}
use Rattle.modulus.specs.declared.refusal.Refusal.{Refusal}
use Rattle.element.specs.Rules.{Level}
use Rattle.fit.specs.declared.table.Fit.{Fit}
use Rattle.plan.specs.declared.step.Step.{Step}
use Rattle.rack.specs.Lanes.{Wide}
use Rattle.rack.specs.Runs.{Meaning, meanings}
use Rattle.full_desk.specs.Book.{Asked, Told}
use Rattle.full_desk.specs.Desk.{Booked, Performed}
use Rattle.full_desk.specs.Kinds.{asked_of, askings, told_of, tellings}
use Rattle.full_desk.specs.declared.uses.Use.{Use}
use Rattle.full_desk.specs.declared.uses.Answer.{Answer}
use Rattle.full_desk.proofs.Books.{booked_more}

module _ {A : Type 0} (lanes : A → List ℕ) (level : A → Level) where
  -- every tray has as many lanes as the kind
  pub wide_rack : (width : ℕ) → ((x : A) → length (lanes x) ≡ width) → (xs : List A) → Wide width (meanings lanes level xs)
  wide_rack width wide [] t within = absurd (omega arith)
  wide_rack width wide (x ∷ xs) zero within = wide x
  wide_rack width wide (x ∷ xs) (suc t) within = wide_rack width wide xs t (omega arith)

  -- ---- a walk over the list of uses
  pub kinds_more : (out here : ℕ) (f g h : Fit) (xs ys zs : List Step) (trays mid end : List Meaning) (us : List (Use A)) (i : ℕ) (u : Use A) (answers answers' : List (Result (Answer A) Refusal)) (a : Result (Answer A) Refusal)
      → i < length us → u ≡ get_or us i u → Booked out f xs trays (askings lanes level (take i us)) (tellings lanes level answers) g ys mid
      → here ≡ out → Performed here g ys mid (asked_of lanes level u) (told_of lanes level a) h zs end → answers' ≡ answers ++ a ∷ []
      → Booked out f xs trays (askings lanes level (take (i + 1) us)) (tellings lanes level answers') h zs end
  kinds_more out here f g h xs ys zs trays mid end us i u answers answers' a within item book same due is =
      let asked : askings lanes level (take (i + 1) us) ≡ askings lanes level (take i us) ++ asked_of lanes level u ∷ [] =
      ap (askings lanes level) (take_more us i u within) ∙ map_push (asked_of lanes level) (take i us) (get_or us i u) ∙ ap (λ (x : Use A). askings lanes level (take i us) ++ asked_of lanes level x ∷ []) (sym item) in
      let told : tellings lanes level answers' ≡ tellings lanes level answers ++ told_of lanes level a ∷ [] =
      ap (tellings lanes level) is ∙ map_push (told_of lanes level) answers a in
      subst (λ (vs : List Asked). Booked out f xs trays vs (tellings lanes level answers') h zs end) (sym asked)
      (subst (λ (bs : List (Result Told Refusal)). Booked out f xs trays (askings lanes level (take i us) ++ asked_of lanes level u ∷ []) bs h zs end) (sym told)
      (booked_more out f g h xs ys zs trays mid end (askings lanes level (take i us)) (tellings lanes level answers) (asked_of lanes level u) (told_of lanes level a) book
      (subst (λ (n : ℕ). Performed n g ys mid (asked_of lanes level u) (told_of lanes level a) h zs end) same due)))

  pub kinds_all : (out : ℕ) (f g : Fit) (xs ys : List Step) (trays end : List Meaning) (us : List (Use A)) (i : ℕ) (answers : List (Result (Answer A) Refusal)) → length us ≤ i
      → Booked out f xs trays (askings lanes level (take i us)) (tellings lanes level answers) g ys end → Booked out f xs trays (askings lanes level us) (tellings lanes level answers) g ys end
  kinds_all out f g xs ys trays end us i answers all book =
      subst (λ (vs : List (Use A)). Booked out f xs trays (askings lanes level vs) (tellings lanes level answers) g ys end) (take_all i us all) book
