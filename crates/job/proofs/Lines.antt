-- What a reader of lines answers, and what it refuses. Rests on the grammar of jobs.
use Rattle.std.proofs.Common.{◌≡◌, ℕ, ◌<◌, ◌≤◌, List, [], ◌∷◌, ◌++◌, length, Err, Some, None, codes, Option, sym, ap, ◌∙◌, MatchOption}
use Rattle.std.proofs.lemmas.List.{append_cancel_left}
use Rattle.std.specs.Option.{ok_or}
use Rattle.modulus.specs.declared.refusal.Refusal.{Refusal}
use Rattle.job.specs.Reading.{LineThen, ListThen, NoLine, NoListLine, NoValues, ValuesThen}
use Rattle.job.specs.Text.{IsBadLine, exponent_line, more_bytes, no_exponent, no_values, prime_line}
use Rattle.job.proofs.Grammar.{has_more, lacks_exponent, lacks_values, list_parts}

-- the refusal that `ok_or` makes
pub refused : {T : Type 0} (o : Option T) (given : Refusal) {f : Refusal} → Err f ≡ ok_or o given → f ≡ given
refused None given e = cc e
refused (Some x) given e = absurd (cc e)

-- what the numbers behind the key say of the line, which does not end there
pub list_line_by : {T : Type 0} (text key left : List ℕ) (items rest : T → List ℕ) (o : Option T) → text ≡ key ++ left → ((xs : List ℕ) → left ≡ 10 ∷ xs → ⊥)
    → MatchOption o (NoValues left) (λ x. ValuesThen left (items x) (rest x)) → MatchOption o (NoListLine text key) (λ x. ListThen text key (items x) (rest x))
list_line_by text key left items rest None has more none = absent
  where
    absent : NoListLine text key
    absent [] xs short e = more xs (append_cancel_left key left (10 ∷ xs) (sym has ∙ e ∙ list_parts key [] xs))
    absent (n ∷ ns) xs short e = none n ns xs short (append_cancel_left key left _ (sym has ∙ e ∙ list_parts key (n ∷ ns) xs))
list_line_by text key left items rest (Some x) has more v = record { short = v.short; is = has ∙ ap (λ l. key ++ l) v.is ∙ sym (list_parts key (items x) (rest x)) }

-- ---- the bad line of a text
module _ (bytes : List ℕ) (few : length bytes ≤ 4096) (p : ℕ) (left : List ℕ) (first : LineThen bytes (codes "prime=") p left) where
  pub second_bad : NoLine left (codes "exponent=") → IsBadLine bytes 2
  second_bad none = no_exponent few (p, left, first.short, first.is) (lacks_exponent bytes p left first.short first.is none)

  module _ (e : ℕ) (left' : List ℕ) (second : LineThen left (codes "exponent=") e left') where
    two : bytes ≡ prime_line p ++ (exponent_line e ++ left')
    two = first.is ∙ ap (λ l. prime_line p ++ l) second.is

    pub third_bad : NoListLine left' (codes "values=") → IsBadLine bytes 3
    third_bad none = no_values few (p, e, left', first.short, second.short, two) (lacks_values bytes p e left' first.short second.short two none)

    pub fourth_bad : (vs left'' : List ℕ) → ListThen left' (codes "values=") vs left'' → 0 < length left'' → IsBadLine bytes 4
    fourth_bad vs left'' third more =
        let text = two ∙ ap (λ l. prime_line p ++ (exponent_line e ++ l)) third.is in
        more_bytes few (p, e, vs, left'', first.short, second.short, third.short, text) (has_more bytes p e vs left'' first.short second.short third.short text more)
