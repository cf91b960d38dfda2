use Rattle.std.proofs.Common.{ℕ, ◌+◌, ◌-◌, List, ◌∷◌, ◌++◌, length, get_or, take, drop, decimal, sym, refl, ap, ◌∙◌, arith}
use Rattle.std.proofs.lemmas.List.{length-append}
use Rattle.job.specs.Text.{joined}
use Rattle.job.proofs.Joined.{joined_next}
use Rattle.job.proofs.Written.{then_put}
use Rattle.job.proofs.piece.put_joined.Goals as goal

pub loop-n-preserved : goal.loop-n-preserved
loop-n-preserved c =
    let list = c.args.list.now in
    let i = c.loop-n.n-index in
    let next = 44 ∷ decimal (get_or c.in-Some.rest.now i 0) in
    let old = c.args.text.now in
    let text = c.loop-n.text in
    let at = c.loop-n.at in
    let more = joined_next list c.in-Some.first.now c.in-Some.rest.now i c.in-Some.ensures.cases.0 c.loop-n-test.true in
    let long = ap (λ (bytes : List ℕ). length bytes) more ∙ length-append (joined (take (i + 1) list)) next in
    let put = then_put (joined (take (i + 1) list)) next old text c.put-at-in-loop-n.new.text at c.put-at-in-loop-n.result (length text - at) c.loop-n.invariant.1 c.loop-n.invariant.2 refl c.put-at-in-loop-n.ensures.text in
    (omega (arith, c.put-at-in-loop-n.ensures.few), omega (arith, c.put-at-in-loop-n.ensures.count), put ∙ ap (λ (bytes : List ℕ). bytes ++ drop (at + c.put-at-in-loop-n.result) old) (sym more))
