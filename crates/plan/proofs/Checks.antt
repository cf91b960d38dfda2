-- The marks of the step check say what can be read. Assumes nothing.
use Rattle.std.proofs.Common.{◌≡◌, ℕ, zero, suc, ◌<◌, Bool, true, false, ◌⊎◌, List, [], ◌∷◌, ◌++◌, length, get_or, set, replicate, sym, refl, ◌∙◌, subst, inl, inr, arith}
use native.Mathlib.Decide.{ℕ_discrete}
use Rattle.std.proofs.lemmas.Bool.{and_parts, eqb-true, false≢true, ltb-true}
use Rattle.std.proofs.lemmas.List.{get_or-set_same, get_or-set_other}
use Rattle.plan.specs.Marks.{marked, good_by}
use Rattle.plan.specs.Steps.{Written, Readable, Formed, Good}
use Rattle.plan.specs.declared.step.Op.{Op}
use Rattle.plan.specs.declared.step.Op.TheVariants.{Add, Multiply, Scale, Shift}
use Rattle.plan.specs.declared.step.Step.{Step}

-- the marks of the trays that can be read behind the steps before
pub record Marks (before : List Step) (readable : List Bool) : Type 0 where
  pub right : (t : ℕ) → t < 64 → get_or readable t false ≡ true → Readable before t
  pub all : (t : ℕ) → t < 64 → Readable before t → get_or readable t false ≡ true

module _ (m : ℕ) (before : List Step) (readable : List Bool) (marks : Marks before readable) (s : Step) where
  pub formed_from : (op : Op) → s.b < 64 → marked m readable s op ≡ true → Formed m before s op
  formed_from Add lt h = let (read, none) = and_parts _ _ h in (marks.right s.b lt read, eqb-true s.k 0 none)
  formed_from Multiply lt h = let (read, none) = and_parts _ _ h in (marks.right s.b lt read, eqb-true s.k 0 none)
  formed_from Scale lt h = let (none, small) = and_parts _ _ h in (eqb-true s.b 0 none, ltb-true s.k m small)
  formed_from Shift lt h = let (none, small) = and_parts _ _ h in (eqb-true s.b 0 none, ltb-true s.k m small)

  pub good_from : good_by m readable s ≡ true → Good m before s
  good_from h =
      let (h₁, rest₁) = and_parts _ _ h in
      let (h₂, rest₂) = and_parts _ _ rest₁ in
      let (h₃, rest₃) = and_parts _ _ rest₂ in
      let (h₄, h₅) = and_parts _ _ rest₃ in
      let a : s.a < 64 = ltb-true s.a 64 h₂ in
      let b : s.b < 64 = ltb-true s.b 64 h₃ in
      record { to_tray = ltb-true s.to 64 h₁; a_tray = a; b_tray = b; reads = marks.right s.a a h₄; formed = formed_from s.op b h₅ }

-- ---- the marks before the first step, and behind one step more
no_marks : (n t : ℕ) → get_or (replicate n false) t false ≡ true → ⊥
no_marks zero t h = false≢true h
no_marks (suc n) zero h = false≢true h
no_marks (suc n) (suc t) h = no_marks n t h

pub marks_none : (n : ℕ) → Marks [] (true ∷ replicate n false)
marks_none n = record { right = λ t _. right t; all = λ t _. all t }
  where
    right : (t : ℕ) → get_or (true ∷ replicate n false) t false ≡ true → Readable [] t
    right zero h = inl refl
    right (suc t) h = absurd (no_marks n t h)

    all : (t : ℕ) → Readable [] t → get_or (true ∷ replicate n false) t false ≡ true
    all zero h = refl
    all (suc t) (inl e) = absurd (omega arith)
    all (suc t) (inr w) = absurd w

-- what was written stays written behind more steps
pub written-more : (before after : List Step) (t : ℕ) → Written before t → Written (before ++ after) t
written-more [] after t w = absurd w
written-more (x ∷ before) after t (inl e) = inl e
written-more (x ∷ before) after t (inr w) = inr (written-more before after t w)

pub readable_more : (before after : List Step) (t : ℕ) → Readable before t → Readable (before ++ after) t
readable_more before after t (inl e) = inl e
readable_more before after t (inr w) = inr (written-more before after t w)

-- the last step has written its tray
pub written_last : (before : List Step) (s : Step) → Written (before ++ s ∷ []) s.to
written_last [] s = inl refl
written_last (x ∷ before) s = inr (written_last before s)

pub readable_last : (before : List Step) (s : Step) → Readable (before ++ s ∷ []) s.to
readable_last before s = inr (written_last before s)

written_either : (before : List Step) (s : Step) (t : ℕ) → Written (before ++ s ∷ []) t → Written before t ⊎ (s.to ≡ t)
written_either [] s t (inl e) = inr e
written_either [] s t (inr w) = inl w
written_either (x ∷ before) s t (inl e) = inl (inl e)
written_either (x ∷ before) s t (inr w) = go (written_either before s t w)
  where
    go : Written before t ⊎ (s.to ≡ t) → Written (x ∷ before) t ⊎ (s.to ≡ t)
    go (inl v) = inl (inr v)
    go (inr e) = inr e

pub marks_more : (before : List Step) (readable : List Bool) (s : Step) → s.to < length readable → Marks before readable → Marks (before ++ s ∷ []) (set readable s.to true)
marks_more before readable s lt marks = record { right = right; all = all }
  where
    right : (t : ℕ) → t < 64 → get_or (set readable s.to true) t false ≡ true → Readable (before ++ s ∷ []) t
    right t small h = go (ℕ_discrete t s.to)
      where
        go : Dec (t ≡ s.to) → Readable (before ++ s ∷ []) t
        go (yes same) = subst (λ (n : ℕ). Readable (before ++ s ∷ []) n) (sym same) (readable_last before s)
        go (no other) = readable_more before (s ∷ []) t (marks.right t small (sym (get_or-set_other readable s.to t true false other) ∙ h))

    all : (t : ℕ) → t < 64 → Readable (before ++ s ∷ []) t → get_or (set readable s.to true) t false ≡ true
    all t small r = go (ℕ_discrete t s.to) r
      where
        back : Readable (before ++ s ∷ []) t → (t ≡ s.to → ⊥) → Readable before t
        back (inl e) other = inl e
        back (inr w) other = pick (written_either before s t w)
          where
            pick : Written before t ⊎ (s.to ≡ t) → Readable before t
            pick (inl v) = inr v
            pick (inr e) = absurd (other (sym e))

        go : Dec (t ≡ s.to) → Readable (before ++ s ∷ []) t → get_or (set readable s.to true) t false ≡ true
        go (yes same) q = subst (λ (n : ℕ). get_or (set readable s.to true) n false ≡ true) (sym same) (get_or-set_same readable s.to true false lt)
        go (no other) q = get_or-set_other readable s.to t true false other ∙ marks.all t small (back q other)
