use Rattle.std.proofs.Common.{◌≡◌, ℕ, List, ◌∷◌, ◌++◌, length, sym, subst, ap, arith}
use Rattle.job.specs.Reading.{ValuesThen}
use Rattle.job.specs.Text.{AllShort}
use Rattle.job.proofs.Cuts.{number_takes}
use Rattle.job.proofs.Joined.{commas, ended, goes_on, no_comma, no_next}
use Rattle.job.proofs.read.joined_values.Goals as goal

pub returns-in_err-value : goal.returns-in_err-value
returns-in_err-value c =
    let here = c.loop-value.invariant in
    let none = no_next c.args.text.now c.loop-value.values.items c.loop-value.left.now here.1 here.2 c.in_err-value.ensures in
    simp c.from_residual.ensures none

pub push-requires : goal.push-requires
push-requires c =
    let takes = number_takes c.loop-value.left.now c.in_ok-value.value c.in_ok-value.rest.now c.in_ok-value.ensures in
    (omega arith, omega arith)

pub returns-in_err-rest : goal.returns-in_err-rest
returns-in_err-rest c =
    let here = c.loop-value.invariant in
    let rest = c.in_ok-value.rest.now in
    let none = no_comma c.args.text.now c.loop-value.values.items c.loop-value.left.now here.1 here.2 c.in_ok-value.value rest c.in_ok-value.ensures
    (λ xs e. omega (arith, ap length e, c.in_err-rest.ensures.cases)) (λ xs e. omega (arith, ap length e, c.in_err-rest.ensures.cases)) in
    simp c.from_residual-in_err-rest.ensures none

pub returns-in-10-default : goal.returns-in-10-default
returns-in-10-default c =
    let here = c.loop-value.invariant in
    let text = c.args.text.now in
    let byte : c.in_ok-rest.field-0.0.now ≡ 10 = omega arith in
    let xs = c.in_ok-rest.field-0.1.now in
    let line : c.in_ok-value.rest.now ≡ 10 ∷ xs = cc (c.in_ok-rest.ensures.cases.0, byte) in
    subst (λ (values : List ℕ). ValuesThen text values xs) (sym c.push.ensures.items)
    (ended text c.loop-value.values.items c.loop-value.left.now here.1 here.2 c.in_ok-value.value c.in_ok-value.rest.now c.in_ok-value.ensures xs line)

pub loop-value-preserved : goal.loop-value-preserved
loop-value-preserved c =
    let here = c.loop-value.invariant in
    let text = c.args.text.now in
    let byte : c.in_ok-rest.field-0.0.now ≡ 44 = omega arith in
    let xs = c.in_ok-rest.field-0.1.now in
    let comma : c.in_ok-value.rest.now ≡ 44 ∷ xs = cc (c.in_ok-rest.ensures.cases.0, byte) in
    let takes = number_takes c.loop-value.left.now c.in_ok-value.value c.in_ok-value.rest.now c.in_ok-value.ensures in
    let next = goes_on text c.loop-value.values.items c.loop-value.left.now here.1 here.2 c.in_ok-value.value c.in_ok-value.rest.now c.in_ok-value.ensures xs comma in
    let pushed = sym c.push.ensures.items in (
      omega (arith, c.push.ensures.len, ap length comma),
      subst (λ (values : List ℕ). AllShort values) pushed next.0,
      subst (λ (values : List ℕ). text ≡ commas values ++ xs) pushed next.1,
    )

pub returns-in_default : goal.returns-in_default
returns-in_default c =
    let here = c.loop-value.invariant in
    let first = c.in_ok-rest.ensures.cases.0 in
    no_comma c.args.text.now c.loop-value.values.items c.loop-value.left.now here.1 here.2 c.in_ok-value.value c.in_ok-value.rest.now c.in_ok-value.ensures
    (λ xs e. let byte : c.in_ok-rest.field-0.0.now ≡ 10 = cc (first, e) in omega arith)
    (λ xs e. let byte : c.in_ok-rest.field-0.0.now ≡ 44 = cc (first, e) in omega arith)
