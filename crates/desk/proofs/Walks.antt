-- Walks through a list of uses, whatever the state and the rule for one use are. Assumes nothing.
use Rattle.std.proofs.Common.{◌≡◌, ℕ, zero, suc, ◌%◌, ◌<◌, ◌≤◌, List, [], ◌∷◌, ◌++◌, map, length, get_or, refl, ap, ◌∙◌, subst, arith}
use Rattle.std.proofs.lemmas.List.{map_push, length_push, get_or_push, get_or_append_left}
use Rattle.poly.specs.Reduced.{value_at, standing}
use Rattle.poly.proofs.Points.{below_suc}

module _ {S U R : Type 0} (Rule : S → U → R → S → Type 0) where
  -- each use has met what the earlier ones made of the state
  pub data Walk : S → List U → List R → S → Type 0 where
    done : {s : S} → Walk s [] [] s
    step : {s t end : S} {u : U} {a : R} {us : List U} {rest : List R} → Rule s u a t → Walk t us rest end → Walk s (u ∷ us) (a ∷ rest) end

  -- where one use has one answer and leaves one state, so does a list of uses
  pub walks_same : ((s : S) (u : U) (a b : R) (t t' : S) → Rule s u a t → Rule s u b t' → (a ≡ b) × (t ≡ t'))
      → (us : List U) (s end end' : S) (answers answers' : List R) → Walk s us answers end → Walk s us answers' end' → (answers ≡ answers') × (end ≡ end')
  walks_same one [] s end end' answers answers' done done = (refl, refl)
  walks_same one (u ∷ us) s end end' answers answers' (step {t} {a} {rest} h hs) (step {t = t'} {a = b} {rest = rest'} k ks) =
      let first : (a ≡ b) × (t ≡ t') = one s u a b t t' h k in
      let others : (rest ≡ rest') × (end ≡ end') = walks_same one us t' end end' rest rest' (subst (λ (x : S). Walk x us rest end) first.1 hs) ks in
      (ap (λ (x : R). x ∷ rest) first.0 ∙ ap (λ (l : List R). b ∷ l) others.0, others.1)

  -- a walk over us and then u, parted before u
  pub record Last (s : S) (us : List U) (u : U) (answers : List R) (end : S) : Type 0 where
    pub mid : S
    pub before : List R
    pub last : R
    pub walk : Walk s us before mid
    pub due : Rule mid u last end
    pub is : answers ≡ before ++ last ∷ []

  pub walk-last : (us : List U) (u : U) (s end : S) (answers : List R) → Walk s (us ++ u ∷ []) answers end → Last s us u answers end
  walk-last [] u s end answers (step {a} h done) = record { mid = s; before = []; last = a; walk = done; due = h; is = refl }
  walk-last (v ∷ us) u s end answers (step {t} {a} {rest} h hs) =
      let l : Last t us u rest end = walk-last us u t end rest hs in
      record {
        mid = l.mid;
        before = a ∷ l.before;
        last = l.last;
        walk = step h l.walk;
        due = l.due;
        is = ap (λ (x : List R). a ∷ x) l.is;
      }

  -- ---- offers of the first values of d, where each is answered as told and leads from one state to the next
  module _ (m : ℕ) (d : List ℕ) (offer : ℕ → U) (holding : ℕ → S) (told : ℕ → R) (filler : R) where
    -- what a walk over the first n values ends with and answers
    pub record Taken (n : ℕ) (answers : List R) (end : S) : Type 0 where
      pub ends : end ≡ holding n
      pub long : length answers ≡ n
      pub each : (i : ℕ) → i < n → get_or answers i filler ≡ told i

    pub values-taken : (most : ℕ) → ((n : ℕ) → n < most → (a : R) (end : S) → Rule (holding n) (offer (value_at d n % m)) a end → (a ≡ told n) × (end ≡ holding (suc n)))
        → (n : ℕ) → n ≤ most → (answers : List R) (end : S) → Walk (holding 0) (map offer (standing m d n)) answers end → Taken n answers end
    values-taken most one zero l answers end done = record { ends = refl; long = refl; each = λ i b. absurd (omega arith) }
    values-taken most one (suc n) l answers end k =
        let y : ℕ = value_at d n % m in
        let ys : List ℕ = standing m d n in
        let split : Last (holding 0) (map offer ys) (offer y) answers end =
        walk-last (map offer ys) (offer y) (holding 0) end answers (subst (λ (us : List U). Walk (holding 0) us answers end) (map_push offer ys y) k) in
        let earlier : Taken n split.before split.mid = values-taken most one n (omega arith) split.before split.mid split.walk in
        let now : (split.last ≡ told n) × (end ≡ holding (suc n)) =
        one n (omega arith) split.last end (subst (λ (s : S). Rule s (offer y) split.last end) earlier.ends split.due) in
        record {
          ends = now.1;
          long = omega (arith, ap (λ (x : List R). length x) split.is, length_push split.before split.last, earlier.long);
          each = λ i b.
              ap (λ (x : List R). get_or x i filler) split.is
              ∙ below_suc (λ (i : ℕ). get_or (split.before ++ split.last ∷ []) i filler ≡ told i) n
              (λ i b. get_or_append_left split.before (split.last ∷ []) filler i (omega (arith, earlier.long)) ∙ earlier.each i b)
              (get_or_push split.before split.last filler n earlier.long ∙ now.0)
              i b;
        }
