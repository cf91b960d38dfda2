-- What the values of a job come to, one value at a time. Assumes nothing.
use Rattle.std.proofs.Common.{◌≡◌, ℕ, ◌+◌, ◌<◌, ◌≤◌, List, [], ◌∷◌, ◌++◌, length, get_or, drop, Some, None, Option, sym, subst}
use Rattle.std.proofs.lemmas.List.{drop_all, drop_more}
use Rattle.modulus.specs.declared.refusal.Refusal.{Refusal}
use Rattle.fit.specs.Rules.{NoOffer}
use Rattle.job.specs.Report.{Judged, all_stand, turned_away, one_stands}

-- ---- the values from place i on
pub judged-next : (m : ℕ) (ys zs vs : List ℕ) (i d : ℕ) → i < length vs → ((f : Refusal) → NoOffer m ys (get_or vs i d) f → ⊥) → zs ≡ ys ++ get_or vs i d ∷ []
    → (end : List ℕ) (r : Option Refusal) → Judged m zs (drop (i + 1) vs) end r → Judged m ys (drop i vs) end r
judged-next m ys zs vs i d within stands is end r h =
    subst (λ (us : List ℕ). Judged m ys us end r) (sym (drop_more vs i d within))
    (one_stands stands (subst (λ (xs : List ℕ). Judged m xs (drop (i + 1) vs) end r) is h))

pub judged-stop : (m : ℕ) (ys vs : List ℕ) (i d : ℕ) (f : Refusal) → i < length vs → NoOffer m ys (get_or vs i d) f → Judged m ys (drop i vs) ys (Some f)
judged-stop m ys vs i d f within h = subst (λ (us : List ℕ). Judged m ys us ys (Some f)) (sym (drop_more vs i d within)) (turned_away h)

pub judged-end : (m : ℕ) (ys vs : List ℕ) (i : ℕ) → length vs ≤ i → Judged m ys (drop i vs) ys None
judged-end m ys vs i past = subst (λ (us : List ℕ). Judged m ys us ys None) (sym (drop_all i vs past)) all_stand
