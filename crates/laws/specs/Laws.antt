-- What holds of every call, whatever its numbers are and whatever the message list holds.
use Rattle.std.specs.Prelude.{◌≡◌, ℕ, ◌≤◌, true, false, ◌≢◌, length, take, Some, None, Err, Option, Result, slice_index_or}
use Rattle.sites.specs.declared.refusal.Refusal.{Refusal}
use Rattle.rules.specs.Calls.{Terms, answer, after}
use Rattle.rules.specs.Entries.{Entry, Lawful, decided}
use Rattle.rules.specs.Posting.{places}
use Rattle.rules.specs.World.{World, no_message, row_at, entry_at}
use Rattle.rules.specs.declared.call.Call.{Call}
use Rattle.rules.specs.declared.call.Call.TheVariants as call
use Rattle.rules.specs.declared.role.Role.{Role}
use Rattle.rules.specs.declared.role.Role.TheVariants as role
use Rattle.rules.specs.declared.state.State.TheVariants as state

-- P holds of the world before a call, the call, and the world after it, for every policy and with any amount left in the vault
abbrev pub EveryCall : (World → Call → World → Type 0) → Type 0
EveryCall P =
    (t : Terms) (w : World) (c : Call) → P w c (after t w c)

-- where the answer is a refusal, the world is the same
abbrev pub SameIfRefused : Result (Unit {0}) Refusal → World → World → Type 0
SameIfRefused a w w' = (x : Refusal) → a ≡ Err x → w' ≡ w

-- a refused call changes nothing
abbrev pub RefusalsChangeNothing : Type 0
RefusalsChangeNothing =
    (t : Terms) (w : World) (c : Call) →
    SameIfRefused (answer t w c) w (after t w c)

-- no message is taken back, those sent stay as they are, and the list has as many places as before and is not overfilled
pub record Grown (w w' : World) : Type 0 where
  pub more : w.net.sent ≤ w'.net.sent
  pub kept : take w.net.sent w'.messages ≡ take w.net.sent w.messages
  pub sized : length w'.messages ≡ length w.messages
  pub within : w.net.sent ≤ places w.messages → w'.net.sent ≤ places w'.messages

-- the list of messages only grows
abbrev pub ListsOnlyGrow : Type 0
ListsOnlyGrow = EveryCall λ w c w'. Grown w w'

-- the record of every site is lawful
abbrev pub AllLawful : World → Type 0
AllLawful w = (s : ℕ) → Lawful (entry_at w s)

-- neither number falls
pub record Risen (e e' : Entry) : Type 0 where
  pub elected : e.elected ≤ e'.elected
  pub attempt : e.attempt ≤ e'.attempt

-- the last elected and the last attempt of a site never fall
abbrev pub NumbersNeverFall : Type 0
NumbersNeverFall = EveryCall λ w c w'. AllLawful w → (s : ℕ) → Risen (entry_at w s) (entry_at w' s)

-- lawful records stay lawful
abbrev pub EntriesStayLawful : Type 0
EntriesStayLawful = EveryCall λ w c w'. AllLawful w → (s : ℕ) → Lawful (entry_at w' s)

-- a coordinator that counts votes or acknowledgements is undecided; one that collects reports has its own decision among them:
-- if it is committed, a commit and no abort, and if it is aborted, an abort
abbrev pub FitsRole : Entry → Role → Type 0
FitsRole e (role.Polling p) = decided e.state ≡ false
FitsRole e (role.Canvassing c) =
    (e.state ≡ state.Committed → (c.committed ≡ true) × (c.aborted ≡ false))
    × (e.state ≡ state.Aborted → c.aborted ≡ true)
FitsRole e (role.Attempting t) = decided e.state ≡ false

-- the role of a site agrees with its record; with no role nothing is asked
abbrev pub RoleAgrees : Entry → Option Role → Type 0
RoleAgrees e None = Unit {0}
RoleAgrees e (Some r) = FitsRole e r

-- advance writes what its role allows, and in a list that the calls did not write a role could come to allow another
-- decision than the site's own; in a run of these calls it cannot, and there the law has no premise
abbrev pub Agreeing : World → Call → Type 0
Agreeing w (call.Begin v) = Unit {0}
Agreeing w (call.Vote k v) = Unit {0}
Agreeing w (call.Deliver k) = Unit {0}
Agreeing w (call.Advance s) = RoleAgrees (entry_at w s) (row_at w.net s).role

-- a decision stays
abbrev pub SameIfDecided : Entry → Entry → Type 0
SameIfDecided e e' = decided e.state ≡ true → e'.state ≡ e.state

-- a decided site never changes its state
abbrev pub DecidedStays : Type 0
DecidedStays = EveryCall λ w c w'. Agreeing w c → (s : ℕ) → SameIfDecided (entry_at w s) (entry_at w' s)

-- the site that a call is about: the first coordinator, who receives the message, or who advances
abbrev pub site_of : World → Call → ℕ
site_of w (call.Begin v) = w.net.first
site_of w (call.Vote k v) = (slice_index_or w.messages k no_message).receiver
site_of w (call.Deliver k) = (slice_index_or w.messages k no_message).receiver
site_of w (call.Advance s) = s

-- a call writes no record but that of its site
abbrev pub OnlyOneSite : Type 0
OnlyOneSite = EveryCall λ w c w'. (s : ℕ) → s ≢ site_of w c → entry_at w' s ≡ entry_at w s
