-- What every call does to the records.
use Rattle.std.proofs.Common.{◌≡◌, ℕ, Bool, true, false, cond, ltb, get_or, Ok, Err, Result, refl, subst}
use Rattle.sites.specs.declared.refusal.Refusal.{Refusal}
use Rattle.sites.specs.declared.refusal.Refusal.TheVariants as refusal
use Rattle.rules.specs.Calls.{Terms, after, fitting, sound, is_start, found, to_vote, to_deliver, vote_of, asked_begin, asked_vote, asked_advance, everyone_of, to_deliver_at, delivery_after, tally_of, receipt_of}
use Rattle.rules.specs.Counting.{counts}
use Rattle.rules.specs.World.{World, no_message, row_at, entry_at, count_after}
use Rattle.rules.specs.declared.call.Call.{Call}
use Rattle.rules.specs.declared.call.Call.TheVariants as call
use Rattle.rules.specs.declared.call.Vote.{Vote}
use Rattle.rules.specs.declared.message.Message.{Message}
use Rattle.laws.specs.Laws.{Agreeing, site_of, NumbersNeverFall, EntriesStayLawful, DecidedStays, OnlyOneSite}
use Rattle.laws.proofs.Held.{Held, held_if, held_unless}
use Rattle.laws.proofs.Steps.{Fits, begun_fits, voted_fits, received_fits, advanced_fits}
use Rattle.laws.proofs.Moves.{Moved, unmoved, admitted_moved}

begin_fits : (t : Terms) (w : World) (v : Vote) → Held (Fits (Unit {0}) w.net.first (entry_at w w.net.first)) (asked_begin t w v)
begin_fits t w v =
    let s = w.net.first in
    let F = Fits (Unit {0}) s (entry_at w s) in
    held_if F (fitting t w) _ refusal.Mismatch (λ a.
    held_if F (row_at w.net s).up _ refusal.WrongPower (λ b.
    begun_fits v s (everyone_of w) (entry_at w s) (row_at w.net s).role))

advance_fits : (t : Terms) (w : World) (s : ℕ) → Held (Fits (Agreeing w (call.Advance s)) s (entry_at w s)) (asked_advance t w s)
advance_fits t w s =
    let F = Fits (Agreeing w (call.Advance s)) s (entry_at w s) in
    held_if F (fitting t w) _ refusal.Mismatch (λ a.
    held_if F (ltb s w.net.sites) _ refusal.UnknownSite (λ b.
    held_if F (row_at w.net s).up _ refusal.WrongPower (λ u.
    advanced_fits t.quorums (everyone_of w) s (entry_at w s) (row_at w.net s).role)))

-- the message that is found is the one at the place
abbrev There : World → ℕ → Message → Type 0
There w k m = m ≡ get_or w.messages k no_message

found_there : (t : Terms) (w : World) (k : ℕ) → Held (There w k) (found t w k)
found_there t w k =
    held_if (There w k) (fitting t w) _ refusal.Mismatch (λ a.
    held_if (There w k) (ltb k w.net.sent) _ refusal.NoMessage (λ b.
    held_if (There w k) (sound w (get_or w.messages k no_message)) _ refusal.NoMessage (λ s. refl)))

to_vote_there : (w : World) (k : ℕ) (x : Result Message Refusal) → Held (There w k) x → Held (There w k) (to_vote w x)
to_vote_there w k (Ok m) h =
    held_if (There w k) (is_start m.kind) _ refusal.WrongKind (λ a.
    held_if (There w k) (row_at w.net m.receiver).up (Ok m) refusal.WrongPower (λ u. h))
to_vote_there w k (Err r) h = tt

to_deliver_there : (w : World) (k : ℕ) (x : Result Message Refusal) → Held (There w k) x → Held (There w k) (to_deliver w x)
to_deliver_there w k (Ok m) h =
    held_unless (There w k) (is_start m.kind) _ refusal.WrongKind (λ a.
    held_if (There w k) (row_at w.net m.receiver).up (Ok m) refusal.WrongPower (λ u. h))
to_deliver_there w k (Err r) h = tt

vote_fits : (w : World) (v : Vote) (k : ℕ) (x : Result Message Refusal) → Held (There w k) x → Held (Fits (Unit {0}) (site_of w (call.Vote k v)) (entry_at w (site_of w (call.Vote k v)))) (vote_of w v x)
vote_fits w v k (Ok m) h =
    subst (λ y. Held (Fits (Unit {0}) y.receiver (entry_at w y.receiver)) (vote_of w v (Ok m))) h
    (voted_fits v m (entry_at w m.receiver) (row_at w.net m.receiver).role)
vote_fits w v k (Err r) h = tt

either_moved : (b : Bool) (s : ℕ) (w x y : World) → Moved (Unit {0}) s w x → Moved (Unit {0}) s w y → Moved (Unit {0}) s w (cond b x y)
either_moved true s w x y h k = h
either_moved false s w x y h k = k

delivery_moved : (l : ℕ) (w : World) (k : ℕ) (x : Result Message Refusal) → Held (There w k) x → Moved (Unit {0}) (site_of w (call.Deliver k)) w (delivery_after l w x)
delivery_moved l w k (Ok m) h =
    subst (λ y. Moved (Unit {0}) y.receiver w (delivery_after l w (Ok m))) h
    (either_moved (counts m.kind) m.receiver w _ _
    (unmoved (Unit {0}) m.receiver w (count_after w m.receiver (tally_of w m)) refl)
    (admitted_moved (Unit {0}) m.receiver l w (receipt_of w m)
    (received_fits m.kind m (entry_at w m.receiver) (row_at w.net m.receiver).role)))
delivery_moved l w k (Err r) h = unmoved (Unit {0}) (site_of w (call.Deliver k)) w w refl

call_moved : (t : Terms) (w : World) (c : Call) → Moved (Agreeing w c) (site_of w c) w (after t w c)
call_moved t w (call.Begin v) =
    admitted_moved (Unit {0}) w.net.first t.left w (asked_begin t w v) (begin_fits t w v)
call_moved t w (call.Vote k v) =
    admitted_moved (Unit {0}) (site_of w (call.Vote k v)) t.left w (asked_vote t w k v)
    (vote_fits w v k (to_vote w (found t w k)) (to_vote_there w k (found t w k) (found_there t w k)))
call_moved t w (call.Deliver k) =
    delivery_moved t.left w k (to_deliver_at t w k) (to_deliver_there w k (found t w k) (found_there t w k))
call_moved t w (call.Advance s) =
    admitted_moved (Agreeing w (call.Advance s)) s t.left w (asked_advance t w s) (advance_fits t w s)

pub numbers_never_fall : NumbersNeverFall
numbers_never_fall t w c all s = (call_moved t w c).rises s (all s)

pub entries_stay_lawful : EntriesStayLawful
entries_stay_lawful t w c all s = (call_moved t w c).lawful s (all s)

pub decided_stays : DecidedStays
decided_stays t w c g s = (call_moved t w c).decides g s

pub only_one_site : OnlyOneSite
only_one_site t w c s d = (call_moved t w c).others s d
