use Rattle.std.proofs.Common.{ℕ, ◌+◌, get_or, set, sym, ap, ◌∙◌, subst}
use Rattle.rack.specs.Runs.{meanings}
use Rattle.rack.proofs.Meant.{step_done, stuck_is}
use Rattle.rack.proofs.step.do_step.Goals as goal

pub returns : goal.returns
returns g c =
    let xs = c.args.trays.now in
    let s = c.args.s in
    let base = c.args.base in
    let a = c.index-trays-base.result in
    let b = c.index-trays-base-2.result in
    let x = c.in_ok-given.given in
    let got = c.in_ok-given.ensures in
    let read_a = c.index-trays-base.is ∙ ap (λ (i : ℕ). get_or xs (base + i) a) c.from.ensures in
    let read_b = c.index-trays-base-2.is ∙ ap (λ (i : ℕ). get_or xs (base + i) b) c.from-2.ensures in
    let same = stuck_is g.E.Element.lanes g.E.Element.level base xs s a b c.requires.a c.requires.b read_a read_b in (
      (λ stuck. got.0 (subst (λ (T : Type 0). T) (sym same) stuck)),
      ap (λ (i : ℕ). meanings g.E.Element.lanes g.E.Element.level (set xs (base + i) x)) c.from-3.ensures
          ∙ step_done g.E.Element.lanes g.E.Element.level c.args.modulus.now.value base xs s a b x c.requires.a c.requires.b read_a read_b got.1,
    )
