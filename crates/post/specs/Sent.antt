-- What sending leaves of the list.
use Rattle.std.specs.Prelude.{◌≡◌, ℕ, ◌+◌, ◌≤◌, Bool, cond, List, ◌++◌, length, take, drop, Ok, Err, Result}
use Rattle.sites.specs.Sets.{size}
use Rattle.sites.specs.declared.refusal.Refusal.{Refusal}
use Rattle.sites.specs.declared.refusal.Refusal.TheVariants as refusal
use Rattle.rules.specs.Posting.{broadcast, written, room}
use Rattle.rules.specs.declared.message.Message.{Message}
use Rattle.post.specs.declared.Broadcast.{Broadcast}

-- the messages of a broadcast
abbrev pub sent_to_each : Broadcast → List Message
sent_to_each b = broadcast b.kind b.number b.sender b.to

abbrev pub send_answer : ℕ → ℕ → ℕ → Result ℕ Refusal
send_answer k n x = cond (room k n x) (Ok (n + size x)) (Err refusal.ListFull)

abbrev pub list_after : Bool → List Message → ℕ → List Message → List Message
list_after fits ms n new = cond fits (written ms n new) ms

-- writing new messages from a place on: the earlier places stay, then stand the new messages, and later places stay
abbrev pub WrittenAs : Type 0
WrittenAs =
    (ms : List Message) (n : ℕ) (new : List Message) → n + length new ≤ length ms →
    written ms n new ≡ take n ms ++ (new ++ drop (n + length new) ms)
