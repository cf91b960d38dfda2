use Rattle.std.proofs.Common.{◌≡◌, ℕ, List, drop, Option}
use Rattle.fit.specs.Standing.{power_of, stands}
use Rattle.modulus.specs.declared.refusal.Refusal.{Refusal}
use Rattle.job.specs.Report.{Judged}
use Rattle.job.proofs.figures.offer_all.Given as goal

-- what the rest comes to from here on, all come to from the entry
abbrev pub invariant-loop-i : goal.invariant-loop-i
invariant-loop-i l =
    (l.fit.modulus ≡ l.initial.fit.modulus)
    × ((end : List ℕ) (r : Option Refusal)
    → Judged (power_of l.initial.fit.modulus) (stands l.fit) (drop l._i l.values) end r
    → Judged (power_of l.initial.fit.modulus) (stands l.initial.fit) l.values end r)
