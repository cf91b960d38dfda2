-- A text is at most one job, and has at most one first bad line. Rests on where numbers end.
use Rattle.std.proofs.Common.{◌≡◌, ℕ, zero, suc, ◌<◌, ◌≤◌, ◌⊎◌, List, [], ◌∷◌, ◌++◌, length, codes, decimal, sym, refl, ap, ◌∙◌, subst, inl, inr, arith}
use Rattle.std.proofs.lemmas.Fmt.{decimal_nonempty, digits_decimal}
use Rattle.std.proofs.lemmas.List.{append_assoc, append_cancel_left, append-nil}
use Rattle.std.proofs.lemmas.Bool.{cases_eq, cases_order}
use Rattle.job.specs.Reading.{Ends, NoLine, NoListLine}
use Rattle.job.specs.Text.{number_line, joined, list_line, Short, AllShort, prime_line, exponent_line, values_line, Says, FirstLine, TwoLines, ThreeLines, IsBadLine, too_long, no_prime, no_exponent, no_values, more_bytes, OneJob, OneBadLine}
use Rattle.job.proofs.Cuts.{own, cut_digits, cut_number, line_parts, ends-line}
use Rattle.job.proofs.Joined.{behind, behind_ends, joined-first}

-- ---- a line and what follows it
pub line_cut : (key : List ℕ) (m n : ℕ) (xs ys : List ℕ) → Short m → Short n → number_line key m ++ xs ≡ number_line key n ++ ys → (m ≡ n) × (xs ≡ ys)
line_cut key m n xs ys short short' e =
    let parts = append_cancel_left key (decimal m ++ 10 ∷ xs) (decimal n ++ 10 ∷ ys) (sym (line_parts key m xs) ∙ e ∙ line_parts key n ys) in
    let cut = cut_number m n (10 ∷ xs) (10 ∷ ys) short short' (ends-line xs) (ends-line ys) parts in
    let behind = cut.1 in
    (cut.0, cc)

-- ---- a list of numbers and what follows it
-- the end of the line is no comma, and no number
pub line_no_comma : (xs ys : List ℕ) → 10 ∷ xs ≡ 44 ∷ ys → ⊥
line_no_comma xs ys e = let z : ◌≡◌ {A = ℕ} 10 44 = cc in omega arith

pub line_no_number : (n : ℕ) (xs rest : List ℕ) → Short n → Ends rest → 10 ∷ xs ≡ decimal n ++ rest → ⊥
line_no_number n xs rest short ends e =
    let none = cut_digits [] (decimal n) (10 ∷ xs) rest tt (digits_decimal own n (omega arith)) (ends-line xs) ends e in
    omega (arith, ap length none.0, decimal_nonempty n (omega arith))

behind-cut : (ms ns xs ys : List ℕ) → AllShort ms → AllShort ns → behind ms xs ≡ behind ns ys → (ms ≡ ns) × (xs ≡ ys)
behind-cut [] [] xs ys short short' e = (refl, cc)
behind-cut [] (n ∷ ns) xs ys short short' e = absurd (line_no_comma xs (joined (n ∷ ns) ++ 10 ∷ ys) e)
behind-cut (m ∷ ms) [] xs ys short short' e = absurd (line_no_comma ys (joined (m ∷ ms) ++ 10 ∷ xs) (sym e))
behind-cut (m ∷ ms) (n ∷ ns) xs ys short short' e =
    let inner : joined (m ∷ ms) ++ 10 ∷ xs ≡ joined (n ∷ ns) ++ 10 ∷ ys = cc in
    let cut = cut_number m n (behind ms xs) (behind ns ys) short.0 short'.0 (behind_ends ms xs) (behind_ends ns ys) (sym (joined-first m ms xs) ∙ inner ∙ joined-first n ns ys) in
    let more = behind-cut ms ns xs ys short.1 short'.1 cut.1 in
    let first = cut.0 in
    let others = more.0 in
    (cc, more.1)

pub joined-cut : (ms ns xs ys : List ℕ) → AllShort ms → AllShort ns → joined ms ++ 10 ∷ xs ≡ joined ns ++ 10 ∷ ys → (ms ≡ ns) × (xs ≡ ys)
joined-cut [] [] xs ys short short' e = (refl, cc)
joined-cut [] (n ∷ ns) xs ys short short' e = absurd (line_no_number n xs (behind ns ys) short'.0 (behind_ends ns ys) (e ∙ joined-first n ns ys))
joined-cut (m ∷ ms) [] xs ys short short' e = absurd (line_no_number m ys (behind ms xs) short.0 (behind_ends ms xs) (sym e ∙ joined-first m ms xs))
joined-cut (m ∷ ms) (n ∷ ns) xs ys short short' e =
    behind-cut (m ∷ ms) (n ∷ ns) xs ys short short' (ap (λ (zs : List ℕ). 44 ∷ zs) e)

pub list_parts : (key ns rest : List ℕ) → list_line key ns ++ rest ≡ key ++ (joined ns ++ 10 ∷ rest)
list_parts key ns rest = append_assoc key (joined ns ++ 10 ∷ []) rest ∙ ap (λ (xs : List ℕ). key ++ xs) (append_assoc (joined ns) (10 ∷ []) rest)

pub list_cut : (key ms ns xs ys : List ℕ) → AllShort ms → AllShort ns → list_line key ms ++ xs ≡ list_line key ns ++ ys → (ms ≡ ns) × (xs ≡ ys)
list_cut key ms ns xs ys short short' e =
    joined-cut ms ns xs ys short short' (append_cancel_left key (joined ms ++ 10 ∷ xs) (joined ns ++ 10 ∷ ys) (sym (list_parts key ms xs) ∙ e ∙ list_parts key ns ys))

-- ---- a text by its lines
-- the text behind two lines, and behind three
pub two_cut : (p q e f : ℕ) (xs ys : List ℕ) → Short p → Short q → Short e → Short f → prime_line p ++ (exponent_line e ++ xs) ≡ prime_line q ++ (exponent_line f ++ ys) → (p ≡ q) × (e ≡ f) × (xs ≡ ys)
two_cut p q e f xs ys sp sq se sf same =
    let one = line_cut (codes "prime=") p q (exponent_line e ++ xs) (exponent_line f ++ ys) sp sq same in
    let two = line_cut (codes "exponent=") e f xs ys se sf one.1 in
    (one.0, two.0, two.1)

pub three_cut : (p q e f : ℕ) (vs us xs ys : List ℕ) → Short p → Short q → Short e → Short f → AllShort vs → AllShort us
    → prime_line p ++ (exponent_line e ++ (values_line vs ++ xs)) ≡ prime_line q ++ (exponent_line f ++ (values_line us ++ ys)) → (p ≡ q) × (e ≡ f) × (vs ≡ us) × (xs ≡ ys)
three_cut p q e f vs us xs ys sp sq se sf sv su same =
    let two = two_cut p q e f (values_line vs ++ xs) (values_line us ++ ys) sp sq se sf same in
    let three = list_cut (codes "values=") vs us xs ys sv su two.2 in
    (two.0, two.1, three.0, three.1)

-- the text of a job has three lines, and nothing behind them
pub no_more : (bytes : List ℕ) (p e : ℕ) (vs : List ℕ) → Says bytes p e vs → bytes ≡ prime_line p ++ (exponent_line e ++ (values_line vs ++ []))
no_more bytes p e vs s = s.text ∙ ap (λ (xs : List ℕ). prime_line p ++ (exponent_line e ++ xs)) (sym (append-nil (values_line vs)))

pub two_of_three : (bytes : List ℕ) → ThreeLines bytes → TwoLines bytes
two_of_three bytes t = (t.0, t.1, values_line t.2 ++ t.3, t.4, t.5, t.7)

pub first_of_two : (bytes : List ℕ) → TwoLines bytes → FirstLine bytes
first_of_two bytes t = (t.0, exponent_line t.1 ++ t.2, t.3, t.5)

-- ---- what a reader found wrong
pub lacks_exponent : (bytes : List ℕ) (p : ℕ) (rest : List ℕ) → Short p → bytes ≡ prime_line p ++ rest → NoLine rest (codes "exponent=") → TwoLines bytes → ⊥
lacks_exponent bytes p rest short text none t =
    let cut = line_cut (codes "prime=") p t.0 rest (exponent_line t.1 ++ t.2) short t.3 (sym text ∙ t.5) in
    none t.1 t.2 t.4 cut.1

pub lacks_values : (bytes : List ℕ) (p e : ℕ) (rest : List ℕ) → Short p → Short e → bytes ≡ prime_line p ++ (exponent_line e ++ rest) → NoListLine rest (codes "values=") → ThreeLines bytes → ⊥
lacks_values bytes p e rest sp se text none t =
    let cut = two_cut p t.0 e t.1 rest (values_line t.2 ++ t.3) sp t.4 se t.5 (sym text ∙ t.7) in
    none t.2 t.3 t.6 cut.2

pub has_more : (bytes : List ℕ) (p e : ℕ) (vs rest : List ℕ) → Short p → Short e → AllShort vs → bytes ≡ prime_line p ++ (exponent_line e ++ (values_line vs ++ rest)) → 0 < length rest
    → (q f : ℕ) (us : List ℕ) → Says bytes q f us → ⊥
has_more bytes p e vs rest sp se sv text some q f us s =
    let cut = three_cut p q e f vs us rest [] sp s.prime se s.exponent sv s.values (sym text ∙ no_more bytes q f us s) in
    omega (arith, ap length cut.3)

-- ---- the laws
-- what holds of a text whose first lines, fewer than this, are as laid out
abbrev Passed : List ℕ → ℕ → Type 0
Passed bytes zero = Unit {0}
Passed bytes (suc zero) = length bytes ≤ 4096
Passed bytes (suc (suc zero)) = (length bytes ≤ 4096) × FirstLine bytes
Passed bytes (suc (suc (suc zero))) = (length bytes ≤ 4096) × TwoLines bytes
Passed bytes (suc (suc (suc (suc zero)))) = (length bytes ≤ 4096) × ThreeLines bytes
Passed bytes (suc (suc (suc (suc (suc n))))) = (p : ℕ) × (e : ℕ) × (vs : List ℕ) × Says bytes p e vs

passed_less : (bytes : List ℕ) (n : ℕ) → Passed bytes (suc n) → Passed bytes n
passed_less bytes zero h = tt
passed_less bytes (suc zero) h = h.0
passed_less bytes (suc (suc zero)) h = (h.0, first_of_two bytes h.1)
passed_less bytes (suc (suc (suc zero))) h = (h.0, two_of_three bytes h.1)
passed_less bytes (suc (suc (suc (suc zero)))) (p, e, vs, s) = (s.short, (p, e, vs, [], s.prime, s.exponent, s.values, no_more bytes p e vs s))
passed_less bytes (suc (suc (suc (suc (suc n))))) h = h

passed_le : (bytes : List ℕ) (m n : ℕ) → m ≤ n → Passed bytes n → Passed bytes m
passed_le bytes m zero le h = let none : 0 ≡ m = omega arith in subst (Passed bytes) none h
passed_le bytes m (suc n) le h =
    elim (cases_eq m (suc n)) [
      | inl e ↦ subst (Passed bytes) (sym e) h
      | inr other ↦ passed_le bytes m n (omega arith) (passed_less bytes n h)
    ]

passed_bad : (bytes : List ℕ) (line : ℕ) → IsBadLine bytes line → Passed bytes line × (Passed bytes (suc line) → ⊥)
passed_bad bytes line (too_long many) = (tt, λ short. omega arith)
passed_bad bytes line (no_prime short none) = (short, λ h. none h.1)
passed_bad bytes line (no_exponent short first none) = ((short, first), λ h. none h.1)
passed_bad bytes line (no_values short two none) = ((short, two), λ h. none h.1)
passed_bad bytes line (more_bytes short three none) = ((short, three), λ h. none h.0 h.1 h.2 h.3)

pub one_bad_line : OneBadLine
one_bad_line bytes line other bad bad' = go (cases_order line other)
  where
    go : (line ≡ other) ⊎ ((line < other) ⊎ (other < line)) → line ≡ other
    go (inl e) = e
    go (inr (inl lt)) = absurd ((passed_bad bytes line bad).1 (passed_le bytes (suc line) other lt (passed_bad bytes other bad').0))
    go (inr (inr lt)) = absurd ((passed_bad bytes other bad').1 (passed_le bytes (suc other) line lt (passed_bad bytes line bad).0))

pub one_job : OneJob
one_job bytes p e vs s = (same, λ line bad. (passed_bad bytes line bad).1 (all (suc line)))
  where
    all : (n : ℕ) → Passed bytes n
    all n = passed_le bytes n (suc (suc (suc (suc (suc n))))) (omega arith) (p, e, vs, s)

    same : (q f : ℕ) (us : List ℕ) → Says bytes q f us → (p ≡ q) × (e ≡ f) × (vs ≡ us)
    same q f us s' =
        let cut = three_cut p q e f vs us [] [] s.prime s'.prime s.exponent s'.exponent s.values s'.values (sym (no_more bytes p e vs s) ∙ no_more bytes q f us s') in
        (cut.0, cut.1, cut.2)
