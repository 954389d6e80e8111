-- what the check does not find by itself
use Rattle.std.proofs.Common.{arith}
use Rattle.journal.proofs.Replay.{newest_below}
use Rattle.journal.proofs.laws.newest_counts.Goals as goal

pub returns : goal.returns
returns c =
    λ v s d l.
    let f = newest_below v.sites v.slots.now s d l v.ordered v.used (omega (arith, v.held)) (omega (arith, v.begun)) in
    (f.at, (record { within = f.within; owner = f.owner; last = f.last }, f.left))
