use Rattle.std.proofs.Common.{refl}
use Rattle.modulus.proofs.Exits.{err_is}
use Rattle.desk.specs.Stops.{no_memory}
use Rattle.desk.proofs.Books.{stops_open}
use Rattle.full_desk.proofs.Books.{carried}
use Rattle.full_desk.proofs.Laws.{decided, leads_back}
use Rattle.full_desk.proofs.carry.carry_out.Goals as goal

pub returns-in_err-answers : goal.returns-in_err-answers
returns-in_err-answers g c =
    rw (err_is _ _ c.from_residual.ensures.1) (record { law = (no_memory, refl, refl, refl); tally = refl; lender = refl; decided = decided; leads_back = leads_back })

pub returns-in_err-open : goal.returns-in_err-open
returns-in_err-open g c =
    let no = c.in_err-open.ensures in
    rw (err_is _ _ c.from_residual-in_err-open.ensures.1) (record { law = (stops_open c.args.p c.args.e _ no.0 no.1, no.2, refl, refl); tally = refl; lender = refl; decided = decided; leads_back = leads_back })

pub returns : goal.returns
returns g c =
    let opened = c.in_ok-open.ensures in
    let did = c.carry_on.ensures in
    record {
      law = carried c.args.p c.args.e c.args.tally.now.out c.args.steps.now c.carry_on.new.steps _ _ _ _ c.open.new.self c.carry_on.new.fit opened.1 opened.2 opened.3 did.book;
      tally = did.tally;
      lender = did.lender;
      decided = decided;
      leads_back = leads_back;
    }
