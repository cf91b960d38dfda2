-- One piece of text written behind another. Assumes nothing.
use Rattle.std.proofs.Common.{◌≡◌, ℕ, ◌+◌, ◌-◌, ◌≤◌, List, [], ◌++◌, length, take, drop, sym, ap, ◌∙◌, arith}
use borrow.Rule.Slice.PartMut.{put_mid}
use Rattle.std.proofs.lemmas.List.{append_assoc, append-nil, drop_all, drop_at, drop-drop, length-drop, take_all, take_at}

-- bytes stand at the front of a text, and the next are written behind them, through a loan of the rest
pub then_put : (front bytes old text part : List ℕ) (a b k : ℕ) → a ≡ length front → text ≡ front ++ drop a old → k ≡ length text - a → part ≡ bytes ++ drop b (take k (drop a text))
    → put_mid a k text part ≡ (front ++ bytes) ++ drop (a + b) old
then_put front bytes old text part a b k long is rest put =
    ap (λ (xs : List ℕ). xs ++ (part ++ drop k (drop a text))) first
    ∙ ap (λ (xs : List ℕ). front ++ xs) (ap (λ (xs : List ℕ). part ++ xs) none ∙ append-nil part ∙ put ∙ ap (λ (xs : List ℕ). bytes ++ xs) past)
    ∙ sym (append_assoc front bytes (drop (a + b) old))
  where
    first : take a text ≡ front
    first = ap (λ (xs : List ℕ). take a xs) is ∙ take_at front (drop a old) a (sym long)

    behind : drop a text ≡ drop a old
    behind = ap (λ (xs : List ℕ). drop a xs) is ∙ drop_at front (drop a old) a (sym long)

    whole : length (drop a text) ≤ k
    whole = omega (arith, length-drop a text)

    none : drop k (drop a text) ≡ []
    none = drop_all k (drop a text) whole

    past : drop b (take k (drop a text)) ≡ drop (a + b) old
    past = ap (λ (xs : List ℕ). drop b xs) (take_all k (drop a text) whole ∙ behind) ∙ drop-drop b a old
