use Rattle.std.proofs.Common.{◌≡◌, take}
use Rattle.votes.specs.Ballots.{weight_from}
use Rattle.votes.proofs.ballot.Votes.weight.Given as goal

abbrev pub invariant-loop-i : goal.invariant-loop-i
invariant-loop-i l = l.all ≡ weight_from 0 l.group (take l.i l.self.ballot.votes)
