use Rattle.std.proofs.Common.{refl}
use Rattle.modulus.proofs.Exits.{err_is}
use Rattle.desk.specs.Stops.{no_memory}
use Rattle.desk.proofs.Books.{stops_open, carried}
use Rattle.desk.proofs.Laws.{decided, leads_back}
use Rattle.desk.proofs.carry.carry_out.Goals as goal

pub returns-in_err-answers : goal.returns-in_err-answers
returns-in_err-answers c =
    rw (err_is _ _ c.from_residual.ensures.1) (record { law = (no_memory, refl); decided = decided; leads_back = leads_back })

pub returns-in_err-open : goal.returns-in_err-open
returns-in_err-open c =
    let no = c.in_err-open.ensures in
    rw (err_is _ _ c.from_residual-in_err-open.ensures.1) (record { law = (stops_open c.args.p c.args.e _ no.0 no.1, no.2); decided = decided; leads_back = leads_back })

pub returns : goal.returns
returns c =
    let opened = c.in_ok-open.ensures in
    record { law = carried c.args.p c.args.e c.args.uses.now _ c.open.new.self c.carry_on.new.fit opened.1 opened.2 opened.3 c.carry_on.ensures; decided = decided; leads_back = leads_back }
