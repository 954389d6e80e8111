-- what the check does not find by itself
use Rattle.std.proofs.Common.{◌≡◌, arith, rules}
use Rattle.std.proofs.lemmas.List.{length_push}
use Rattle.post.proofs.Sizes.{below_sent, below_kept, length_broadcast, room_for}
use Rattle.post.proofs.Writing.{written_more}
use Rattle.post.proofs.Broadcast.write_all.Goals as goal

pub loop-receiver-preserved : goal.loop-receiver-preserved
loop-receiver-preserved c = search (rules, below_sent, below_kept, written_more, length_push, room_for)

pub returns-clause-at : goal.returns-clause-at
returns-clause-at c =
    let all : c.loop-receiver.receiver ≡ 16 = omega arith in
    let at = rw all at c.loop-receiver.invariant.1 in
    omega (arith, at, length_broadcast c.args.self.now.kind c.args.self.now.number c.args.self.now.sender c.args.self.now.to)
