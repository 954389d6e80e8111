use Rattle.std.proofs.Common.{◌≡◌, ◌+◌, length}
use Rattle.rules.specs.Posting.{broadcast_below, written}
use Rattle.post.proofs.Broadcast.write_all.Given as goal

abbrev pub invariant-loop-receiver : goal.invariant-loop-receiver
invariant-loop-receiver l =
    (l.list ≡ written l.initial.list l.sent (broadcast_below l.receiver l.self.kind l.self.number l.self.sender l.self.to))
    × (l.at ≡ l.sent + length (broadcast_below l.receiver l.self.kind l.self.number l.self.sender l.self.to))
