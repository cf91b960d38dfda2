use Rattle.std.proofs.Common.{ℕ, ◌<◌, length, get_or, rules}
use Rattle.std.specs.Int.{IsInRange}
use Rattle.job.proofs.Cuts.{all_digits}
use Rattle.job.proofs.numbers.split_digits.Goals as goal

pub returns-clause-digits : goal.returns-clause-digits
returns-clause-digits c =
    let ds = c.split_at.result.0.now in
    let each : (k : ℕ) → k < length ds → IsInRange 48 57 (get_or ds k 0) = λ k h. search rules in
    all_digits ds each
