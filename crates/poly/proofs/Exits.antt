-- Which refusals the search finds where a `?` refuses. Assumes nothing.
use Rattle.modulus.proofs.Exits.{refused, refused-as}
use Rattle.poly.specs.Powers.{NoComparison, NoList, NoNull, NoPowers, NoReduction}

-- with these each refusal of a call is found
pub ruleset refusals = (refused, refused-as, NoPowers.long, NoPowers.short, NoList.too_many, NoReduction.off_list, NoReduction.bad_list, NoReduction.no_room, NoComparison.off_list, NoComparison.bad_first, NoComparison.bad_second, NoNull.off_list, NoNull.far, NoNull.no_room)
