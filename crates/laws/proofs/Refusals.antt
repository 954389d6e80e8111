-- A refused call changes nothing.
use Rattle.std.proofs.Common.{◌≡◌, ℕ, Bool, true, false, cond, Ok, Err, Result, refl, arith}
use Rattle.sites.specs.declared.refusal.Refusal.{Refusal}
use Rattle.rules.specs.Plans.{Plan}
use Rattle.rules.specs.Calls.{asked_begin, asked_vote, asked_advance, to_deliver_at, delivery_answer, delivery_after, tally_of, receipt_of}
use Rattle.rules.specs.Counting.{counts}
use Rattle.rules.specs.World.{World, admitted, answer_of, after_of, count_answer, count_after}
use Rattle.rules.specs.declared.call.Call.TheVariants as call
use Rattle.rules.specs.declared.message.Message.{Message}
use Rattle.rules.specs.declared.role.Role.{Role}
use Rattle.laws.specs.Laws.{SameIfRefused, RefusalsChangeNothing}

plan_refused : (w : World) (x : Result Plan Refusal) → SameIfRefused (answer_of x) w (after_of w x)
plan_refused w (Ok p) r h = let z : ◌≡◌ {A = ℕ} 0 1 = cc in absurd (omega arith)
plan_refused w (Err q) r h = refl

count_refused : (w : World) (s : ℕ) (x : Result Role Refusal) → SameIfRefused (count_answer x) w (count_after w s x)
count_refused w s (Ok p) r h = let z : ◌≡◌ {A = ℕ} 0 1 = cc in absurd (omega arith)
count_refused w s (Err q) r h = refl

either_refused : (b : Bool) (w x y : World) (f g : Result (Unit {0}) Refusal) → SameIfRefused f w x → SameIfRefused g w y → SameIfRefused (cond b f g) w (cond b x y)
either_refused true w x y f g h k = h
either_refused false w x y f g h k = k

delivery_refused : (l : ℕ) (w : World) (x : Result Message Refusal) → SameIfRefused (delivery_answer l w x) w (delivery_after l w x)
delivery_refused l w (Ok m) =
    either_refused (counts m.kind) w _ _ _ _
    (count_refused w m.receiver (tally_of w m))
    (plan_refused w (admitted l w (receipt_of w m)))
delivery_refused l w (Err q) = λ r h. refl

pub refusals_change_nothing : RefusalsChangeNothing
refusals_change_nothing t w (call.Begin v) = plan_refused w (admitted t.left w (asked_begin t w v))
refusals_change_nothing t w (call.Vote k v) = plan_refused w (admitted t.left w (asked_vote t w k v))
refusals_change_nothing t w (call.Deliver k) = delivery_refused t.left w (to_deliver_at t w k)
refusals_change_nothing t w (call.Advance s) = plan_refused w (admitted t.left w (asked_advance t w s))
