-- What a reader finds at the front of a text, and what follows it. Rests on the texts of jobs.
use Rattle.std.specs.Prelude.{◌≡◌, ℕ, List, [], ◌∷◌, ◌++◌, ◌≤◌, decimal, ◌≢◌}
use Rattle.job.specs.Text.{Short, AllShort, joined, number_line, list_line}

-- a number does not go on here: there is no byte, or one that is no decimal digit
abbrev pub Ends : List ℕ → Type 0
Ends [] = Unit {0}
Ends (c ∷ rest) = 48 ≤ c → c ≤ 57 → ⊥

-- the text is a number and this rest
pub record NumberThen (text : List ℕ) (value : ℕ) (rest : List ℕ) : Type 0 where
  pub short : Short value
  pub is : text ≡ decimal value ++ rest
  pub ends : Ends rest

-- no number stands at the front of the text
abbrev pub NoNumber : List ℕ → Type 0
NoNumber text = (n : ℕ) (rest : List ℕ) → Short n → Ends rest → text ≢ decimal n ++ rest

-- a line with this key and a number
pub record LineThen (text key : List ℕ) (value : ℕ) (rest : List ℕ) : Type 0 where
  pub short : Short value
  pub is : text ≡ number_line key value ++ rest

abbrev pub NoLine : List ℕ → List ℕ → Type 0
NoLine text key = (n : ℕ) (rest : List ℕ) → Short n → text ≢ number_line key n ++ rest

-- joined numbers and the end of their line
pub record ValuesThen (text values rest : List ℕ) : Type 0 where
  pub short : AllShort values
  pub is : text ≡ joined values ++ 10 ∷ rest

-- no numbers with the end of their line, one at least
abbrev pub NoValues : List ℕ → Type 0
NoValues text = (n : ℕ) (ns rest : List ℕ) → AllShort (n ∷ ns) → text ≢ joined (n ∷ ns) ++ 10 ∷ rest

-- a line with this key and a list of numbers
pub record ListThen (text key values rest : List ℕ) : Type 0 where
  pub short : AllShort values
  pub is : text ≡ list_line key values ++ rest

abbrev pub NoListLine : List ℕ → List ℕ → Type 0
NoListLine text key = (ns rest : List ℕ) → AllShort ns → text ≢ list_line key ns ++ rest
