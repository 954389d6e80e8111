-- What each call does, with its refusals in their order.
use Rattle.std.specs.Prelude.{ℕ, Bool, true, false, cond, ◌&&◌, List, length, Ok, Err, Result, ◌==◌, nat_le, nat_lt, slice_index_or}
use Rattle.sites.specs.Sets.{everyone}
use Rattle.sites.specs.declared.refusal.Refusal.{Refusal}
use Rattle.sites.specs.declared.refusal.Refusal.TheVariants as refusal
use Rattle.quorum.specs.Quorums.{Quorums}
use Rattle.rules.specs.Counting.{counts}
use Rattle.rules.specs.Plans.{Plan, begun, voted, received, tallied, advanced}
use Rattle.rules.specs.World.{World, Core, Stored, Left, world_with, no_message, row_at, entry_at, admitted, answer_of, after_of, count_answer, count_after, accepted}
use Rattle.rules.specs.declared.call.Call.{Call}
use Rattle.rules.specs.declared.call.Call.TheVariants as call
use Rattle.rules.specs.declared.call.Vote.{Vote}
use Rattle.rules.specs.declared.message.Kind.{Kind}
use Rattle.rules.specs.declared.message.Kind.TheVariants as kind
use Rattle.rules.specs.declared.message.Message.{Message}
use Rattle.rules.specs.declared.role.Role.{Role}

-- what a call goes by besides the world: what the policy means, and the vault's number of sites and what is left in it
pub record Terms : Type 0 where
  pub quorums : Quorums
  pub sites : ℕ
  pub left : ℕ

abbrev pub going_by : Quorums → ℕ → ℕ → Terms
going_by q n l = record { quorums = q; sites = n; left = l }

abbrev pub terms : Quorums → Stored → Terms
terms q v = going_by q v.sites v.left

-- policy, vault and list fit the net
abbrev pub fitting : Terms → World → Bool
fitting t w =
    t.quorums.sites == w.net.sites && (t.sites == w.net.sites && nat_le w.net.sent (length w.messages))

abbrev pub if_fitting : {A : Type 0} → Terms → World → Result A Refusal → Result A Refusal
if_fitting t w x = cond (fitting t w) x (Err refusal.Mismatch)

-- the site is up
abbrev pub if_up : {A : Type 0} → World → ℕ → Result A Refusal → Result A Refusal
if_up w s x = cond (row_at w.net s).up x (Err refusal.WrongPower)

abbrev pub everyone_of : World → ℕ
everyone_of w = everyone w.net.sites

-- begin, all but the room
abbrev pub asked_begin : Terms → World → Vote → Result Plan Refusal
asked_begin t w v =
    if_fitting t w
    (if_up w w.net.first
    (begun v w.net.first (everyone_of w) (entry_at w w.net.first) (row_at w.net w.net.first).role))

-- names known sites, and a number from 1 to 999,999
abbrev pub sound : World → Message → Bool
sound w m =
    nat_lt m.sender w.net.sites
    && (nat_lt m.receiver w.net.sites && (nat_lt 0 m.number && nat_lt m.number 1000000))

abbrev pub if_sound : World → Message → Result Message Refusal
if_sound w m = cond (sound w m) (Ok m) (Err refusal.NoMessage)

-- the message at a place
abbrev pub found : Terms → World → ℕ → Result Message Refusal
found t w k =
    if_fitting t w
    (cond (nat_lt k w.net.sent) (if_sound w (slice_index_or w.messages k no_message)) (Err refusal.NoMessage))

abbrev pub is_start : Kind → Bool
is_start kind.Start = true
is_start k = false

-- vote takes a start whose receiver is up
abbrev pub to_vote : World → Result Message Refusal → Result Message Refusal
to_vote w (Ok m) = cond (is_start m.kind) (if_up w m.receiver (Ok m)) (Err refusal.WrongKind)
to_vote w (Err x) = Err x

-- deliver takes any other message whose receiver is up
abbrev pub to_deliver : World → Result Message Refusal → Result Message Refusal
to_deliver w (Ok m) = cond (is_start m.kind) (Err refusal.WrongKind) (if_up w m.receiver (Ok m))
to_deliver w (Err x) = Err x

abbrev pub vote_of : World → Vote → Result Message Refusal → Result Plan Refusal
vote_of w v (Ok m) = voted v m (entry_at w m.receiver) (row_at w.net m.receiver).role
vote_of w v (Err x) = Err x

-- vote, all but the room
abbrev pub asked_vote : Terms → World → ℕ → Vote → Result Plan Refusal
asked_vote t w k v = vote_of w v (to_vote w (found t w k))

-- deliver: a message is counted, or it makes the receiver take a step
abbrev pub tally_of : World → Message → Result Role Refusal
tally_of w m = tallied m (entry_at w m.receiver) (row_at w.net m.receiver).role

abbrev pub receipt_of : World → Message → Result Plan Refusal
receipt_of w m = received m.kind m (entry_at w m.receiver) (row_at w.net m.receiver).role

abbrev pub delivery_answer : ℕ → World → Result Message Refusal → Result (Unit {0}) Refusal
delivery_answer l w (Ok m) =
    cond (counts m.kind) (count_answer (tally_of w m)) (answer_of (admitted l w (receipt_of w m)))
delivery_answer l w (Err x) = Err x

abbrev pub delivery_after : ℕ → World → Result Message Refusal → World
delivery_after l w (Ok m) =
    cond (counts m.kind) (count_after w m.receiver (tally_of w m)) (after_of w (admitted l w (receipt_of w m)))
delivery_after l w (Err x) = w

-- a message that is only counted writes nothing
abbrev pub delivery_writes : ℕ → World → Result Message Refusal → Bool
delivery_writes l w (Ok m) = cond (counts m.kind) false (accepted (answer_of (admitted l w (receipt_of w m))))
delivery_writes l w (Err x) = false

abbrev pub to_deliver_at : Terms → World → ℕ → Result Message Refusal
to_deliver_at t w k = to_deliver w (found t w k)

-- advance, all but the room
abbrev pub asked_advance : Terms → World → ℕ → Result Plan Refusal
asked_advance t w s =
    if_fitting t w
    (cond (nat_lt s w.net.sites)
    (if_up w s (advanced t.quorums (everyone_of w) s (entry_at w s) (row_at w.net s).role))
    (Err refusal.UnknownSite))

-- what a call answers
abbrev pub answer : Terms → World → Call → Result (Unit {0}) Refusal
answer t w (call.Begin v) = answer_of (admitted t.left w (asked_begin t w v))
answer t w (call.Vote k v) = answer_of (admitted t.left w (asked_vote t w k v))
answer t w (call.Deliver k) = delivery_answer t.left w (to_deliver_at t w k)
answer t w (call.Advance s) = answer_of (admitted t.left w (asked_advance t w s))

-- and what it leaves
abbrev pub after : Terms → World → Call → World
after t w (call.Begin v) = after_of w (admitted t.left w (asked_begin t w v))
after t w (call.Vote k v) = after_of w (admitted t.left w (asked_vote t w k v))
after t w (call.Deliver k) = delivery_after t.left w (to_deliver_at t w k)
after t w (call.Advance s) = after_of w (admitted t.left w (asked_advance t w s))

-- and whether it writes the record of its site
abbrev pub writes : Terms → World → Call → Bool
writes t w (call.Begin v) = accepted (answer_of (admitted t.left w (asked_begin t w v)))
writes t w (call.Vote k v) = accepted (answer_of (admitted t.left w (asked_vote t w k v)))
writes t w (call.Deliver k) = delivery_writes t.left w (to_deliver_at t w k)
writes t w (call.Advance s) = accepted (answer_of (admitted t.left w (asked_advance t w s)))

-- the same, by what the policy means, what the vault holds, the net and the list of messages
abbrev pub answers : Quorums → Stored → Core → List Message → Call → Result (Unit {0}) Refusal
answers q v c ms x = answer (terms q v) (world_with c v ms) x

abbrev pub leaves : Quorums → Stored → Core → List Message → Call → World
leaves q v c ms x = after (terms q v) (world_with c v ms) x

-- with l left in the vault then: at most one less where a record was written, and else the same
abbrev pub Spends : Quorums → Stored → Core → List Message → Call → ℕ → Type 0
Spends q v c ms x l = Left (writes (terms q v) (world_with c v ms) x) v.left l
