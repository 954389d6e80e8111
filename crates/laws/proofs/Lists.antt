-- What was sent stays sent.
use Rattle.std.proofs.Common.{◌≡◌, ℕ, ◌+◌, ◌≤◌, Bool, true, false, cond, List, [], ◌∷◌, take, set, Ok, Err, Result, refl, ◌∙◌, le_refl, arith}
use Rattle.std.proofs.lemmas.List.{take-set-le}
use Rattle.sites.specs.declared.refusal.Refusal.{Refusal}
use Rattle.rules.specs.Plans.{Plan}
use Rattle.rules.specs.Calls.{asked_begin, asked_vote, asked_advance, to_deliver_at, delivery_after, tally_of, receipt_of}
use Rattle.rules.specs.Counting.{counts}
use Rattle.rules.specs.Posting.{broadcast, written}
use Rattle.rules.specs.World.{World, applied, admitted, after_of, count_after}
use Rattle.rules.specs.declared.call.Call.TheVariants as call
use Rattle.rules.specs.declared.message.Message.{Message}
use Rattle.rules.specs.declared.role.Role.{Role}
use Rattle.post.proofs.Writing.{length_written}
use Rattle.laws.specs.Laws.{Grown, ListsOnlyGrow}
use Rattle.laws.proofs.Held.{Held, Roomy, admitted_roomy}

take_written : (n : ℕ) (xs : List Message) (i : ℕ) (new : List Message) → n ≤ i → take n (written xs i new) ≡ take n xs
take_written n xs i [] h = refl
take_written n xs i (m ∷ new) h = take_written n (set xs i m) (i + 1) new (omega arith) ∙ take-set-le n xs i m h

same_grown : (w : World) → Grown w w
same_grown w = record { more = le_refl w.net.sent; kept = refl; sized = refl; within = λ h. h }

applied_grown : (w : World) (p : Plan) → Roomy w p → Grown w (applied w p)
applied_grown w p h =
    let new = broadcast p.kind p.own.elected p.site p.to in
    let len = length_written w.messages w.net.sent new in
    record {
      more = omega arith;
      kept = take_written w.net.sent w.messages w.net.sent new (le_refl w.net.sent);
      sized = len;
      within = λ k. rw len h;
    }

plan_grown : (w : World) (x : Result Plan Refusal) → Held (Roomy w) x → Grown w (after_of w x)
plan_grown w (Ok p) h = applied_grown w p h
plan_grown w (Err r) h = same_grown w

admitted_grown : (l : ℕ) (w : World) (x : Result Plan Refusal) → Grown w (after_of w (admitted l w x))
admitted_grown l w x = plan_grown w (admitted l w x) (admitted_roomy l w x)

count_grown : (w : World) (s : ℕ) (x : Result Role Refusal) → Grown w (count_after w s x)
count_grown w s (Ok r) = record { more = le_refl w.net.sent; kept = refl; sized = refl; within = λ h. h }
count_grown w s (Err r) = same_grown w

either_grown : (b : Bool) (w x y : World) → Grown w x → Grown w y → Grown w (cond b x y)
either_grown true w x y h k = h
either_grown false w x y h k = k

delivery_grown : (l : ℕ) (w : World) (x : Result Message Refusal) → Grown w (delivery_after l w x)
delivery_grown l w (Ok m) =
    either_grown (counts m.kind) w _ _ (count_grown w m.receiver (tally_of w m)) (admitted_grown l w (receipt_of w m))
delivery_grown l w (Err r) = same_grown w

pub lists_only_grow : ListsOnlyGrow
lists_only_grow t w (call.Begin v) = admitted_grown t.left w (asked_begin t w v)
lists_only_grow t w (call.Vote k v) = admitted_grown t.left w (asked_vote t w k v)
lists_only_grow t w (call.Deliver k) = delivery_grown t.left w (to_deliver_at t w k)
lists_only_grow t w (call.Advance s) = admitted_grown t.left w (asked_advance t w s)
