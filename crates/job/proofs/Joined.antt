-- Joined numbers as a reader goes over them. Rests on the ends of numbers.
use Rattle.std.proofs.Common.{◌≡◌, ℕ, ◌+◌, ◌<◌, List, [], ◌∷◌, ◌++◌, length, get_or, take, decimal, sym, refl, ap, ◌∙◌, add-one, append_assoc, arith}
use Rattle.std.proofs.lemmas.List.{take_more}
use Rattle.job.specs.Reading.{Ends, NoNumber, NumberThen, NoValues, ValuesThen}
use Rattle.job.specs.Text.{Short, AllShort, joined}
use Rattle.job.proofs.Cuts.{cut_number}

-- ---- numbers joined by commas
-- what stands behind the first of joined numbers and the byte 10: the end of the line, or a comma and the others
abbrev pub behind : List ℕ → List ℕ → List ℕ
behind [] rest = 10 ∷ rest
behind (k ∷ ns) rest = 44 ∷ (joined (k ∷ ns) ++ 10 ∷ rest)

pub behind_ends : (ns rest : List ℕ) → Ends (behind ns rest)
behind_ends [] rest = λ low _. omega arith
behind_ends (k ∷ ns) rest = λ low _. omega arith

pub joined-first : (n : ℕ) (ns rest : List ℕ) → joined (n ∷ ns) ++ 10 ∷ rest ≡ decimal n ++ behind ns rest
joined-first n [] rest = refl
joined-first n (k ∷ ns) rest = append_assoc (decimal n) (44 ∷ joined (k ∷ ns)) (10 ∷ rest)

-- one number more, at the end
pub joined_more : (n : ℕ) (ns : List ℕ) (k : ℕ) → joined (n ∷ (ns ++ k ∷ [])) ≡ joined (n ∷ ns) ++ 44 ∷ decimal k
joined_more n [] k = refl
joined_more n (m ∷ ns) k = ap (λ (bytes : List ℕ). decimal n ++ 44 ∷ bytes) (joined_more m ns k) ∙ sym (append_assoc (decimal n) (44 ∷ joined (m ∷ ns)) (44 ∷ decimal k))

-- one number more of a list that begins with this one
pub joined_next : (list : List ℕ) (first : ℕ) (rest : List ℕ) (i : ℕ) → list ≡ first ∷ rest → i < length rest → joined (take (i + 1 + 1) list) ≡ joined (take (i + 1) list) ++ 44 ∷ decimal (get_or rest i 0)
joined_next list first rest i is lt =
    ap (λ (ns : List ℕ). joined (take (i + 1 + 1) ns)) is
    ∙ ap (λ (k : ℕ). joined (take k (first ∷ rest))) (add-one (i + 1))
    ∙ ap (λ (ns : List ℕ). joined (first ∷ ns)) (take_more rest i 0 lt)
    ∙ joined_more first (take i rest) (get_or rest i 0)
    ∙ sym (ap (λ (ns : List ℕ). joined (take (i + 1) ns) ++ 44 ∷ decimal (get_or rest i 0)) is ∙ ap (λ (k : ℕ). joined (take k (first ∷ rest)) ++ 44 ∷ decimal (get_or rest i 0)) (add-one i))

-- ---- numbers with a comma behind each
abbrev pub commas : List ℕ → List ℕ
commas [] = []
commas (n ∷ ns) = decimal n ++ 44 ∷ commas ns

pub commas_push : (ns : List ℕ) (n : ℕ) (xs : List ℕ) → commas (ns ++ n ∷ []) ++ xs ≡ commas ns ++ (decimal n ++ 44 ∷ xs)
commas_push [] n xs = append_assoc (decimal n) (44 ∷ []) xs
commas_push (k ∷ ns) n xs =
    let others = commas_push ns n xs in
    let left = append_assoc (decimal k) (44 ∷ commas (ns ++ n ∷ [])) xs in
    let right = append_assoc (decimal k) (44 ∷ commas ns) (decimal n ++ 44 ∷ xs) in
    cc

pub joined-push : (ns : List ℕ) (n : ℕ) (xs : List ℕ) → joined (ns ++ n ∷ []) ++ 10 ∷ xs ≡ commas ns ++ (decimal n ++ 10 ∷ xs)
joined-push [] n xs = refl
joined-push (k ∷ []) n xs = simp append_assoc
joined-push (k ∷ l ∷ ns) n xs =
    let others = joined-push (l ∷ ns) n xs in
    let left = append_assoc (decimal k) (44 ∷ joined (l ∷ (ns ++ n ∷ []))) (10 ∷ xs) in
    let right = append_assoc (decimal k) (44 ∷ commas (l ∷ ns)) (decimal n ++ 10 ∷ xs) in
    cc

-- where joined numbers begin with these and their commas, joined numbers are left
pub commas_cut : (done : List ℕ) (n : ℕ) (ns xs rest : List ℕ) → AllShort done → AllShort (n ∷ ns) → commas done ++ xs ≡ joined (n ∷ ns) ++ 10 ∷ rest
    → (m : ℕ) × (ms : List ℕ) × AllShort (m ∷ ms) × (xs ≡ joined (m ∷ ms) ++ 10 ∷ rest)
commas_cut [] n ns xs rest short short' e = (n, ns, short', e)
commas_cut (d ∷ done) n [] xs rest short short' e =
    let cut = cut_number d n (44 ∷ (commas done ++ xs)) (10 ∷ rest) short.0 short'.0 (λ low _. omega arith) (behind_ends [] rest) (sym (append_assoc (decimal d) (44 ∷ commas done) xs) ∙ e) in
    let apart : ◌≡◌ {A = ℕ} 44 10 = cc cut.1 in
    absurd (omega arith)
commas_cut (d ∷ done) n (k ∷ ns) xs rest short short' e =
    let cut = cut_number d n (44 ∷ (commas done ++ xs)) (behind (k ∷ ns) rest) short.0 short'.0 (λ low _. omega arith) (behind_ends (k ∷ ns) rest) (sym (append_assoc (decimal d) (44 ∷ commas done) xs) ∙ e ∙ joined-first n (k ∷ ns) rest) in
    commas_cut done k ns xs rest short.1 short'.1 (cc cut.1)

-- ---- short numbers
pub short-push : (ns : List ℕ) (n : ℕ) → AllShort ns → Short n → AllShort (ns ++ n ∷ [])
short-push [] n short small = (small, tt)
short-push (k ∷ ns) n short small = (short.0, short-push ns n short.1 small)

-- ---- where a reader stands: these numbers, each with its comma, and what is left
module _ (text done left : List ℕ) (short : AllShort done) (is : text ≡ commas done ++ left) where
  -- no joined numbers stand here where no number is left, or where the byte behind one is neither a comma nor the end of the line
  pub no_next : NoNumber left → NoValues text
  no_next none n ns rest short' e =
      let more = commas_cut done n ns left rest short short' (sym is ∙ e) in
      none more.0 (behind more.1 rest) more.2.0 (behind_ends more.1 rest) (more.3 ∙ joined-first more.0 more.1 rest)

  module _ (v : ℕ) (rest : List ℕ) (next : NumberThen left v rest) where
    pub no_comma : ((xs : List ℕ) → rest ≡ 10 ∷ xs → ⊥) → ((xs : List ℕ) → rest ≡ 44 ∷ xs → ⊥) → NoValues text
    no_comma line comma n ns rest' short' e =
        let more = commas_cut done n ns left rest' short short' (sym is ∙ e) in
        let cut = cut_number v more.0 rest (behind more.1 rest') next.short more.2.0 next.ends (behind_ends more.1 rest') (sym next.is ∙ more.3 ∙ joined-first more.0 more.1 rest') in
        go more.1 cut.1
      where
        go : (ms : List ℕ) → rest ≡ behind ms rest' → ⊥
        go [] same = line rest' same
        go (k ∷ ms) same = comma (joined (k ∷ ms) ++ 10 ∷ rest') same

    with_number : text ≡ commas done ++ (decimal v ++ rest)
    with_number = is ∙ ap (λ (xs : List ℕ). commas done ++ xs) next.is

    pub ended : (xs : List ℕ) → rest ≡ 10 ∷ xs → ValuesThen text (done ++ v ∷ []) xs
    ended xs line = record { short = short-push done v short next.short; is = with_number ∙ ap (λ (ys : List ℕ). commas done ++ (decimal v ++ ys)) line ∙ sym (joined-push done v xs) }

    pub goes_on : (xs : List ℕ) → rest ≡ 44 ∷ xs → AllShort (done ++ v ∷ []) × (text ≡ commas (done ++ v ∷ []) ++ xs)
    goes_on xs comma = (short-push done v short next.short, with_number ∙ ap (λ (ys : List ℕ). commas done ++ (decimal v ++ ys)) comma ∙ sym (commas_push done v xs))
