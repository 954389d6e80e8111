-- Which message matches a record, and what a coordinator counts.
use Rattle.std.specs.Prelude.{ℕ, Bool, true, false, cond, ◌&&◌, ◌||◌, Some, None, Option, ◌==◌, nat_lt}
use Rattle.sites.specs.Sets.{has, with_site}
use Rattle.rules.specs.Entries.{Entry}
use Rattle.rules.specs.declared.message.Kind.{Kind}
use Rattle.rules.specs.declared.message.Kind.TheVariants as kind
use Rattle.rules.specs.declared.message.Message.{Message}
use Rattle.rules.specs.declared.role.Poll.{Poll}
use Rattle.rules.specs.declared.role.Canvass.{Canvass}
use Rattle.rules.specs.declared.role.Attempt.{Attempt}
use Rattle.rules.specs.declared.role.Role.{Role}
use Rattle.rules.specs.declared.role.Role.TheVariants as role
use Rattle.rules.specs.declared.state.State.{State}
use Rattle.rules.specs.declared.state.State.TheVariants as state

-- is it one that a coordinator counts
abbrev pub counts : Kind → Bool
counts kind.Yes = true
counts kind.No = true
counts (kind.Report t a) = true
counts kind.Ack = true
counts k = false

-- the coordinator that a message is about: who sent it, or who gets the answer
abbrev pub coordinator : Kind → Message → ℕ
coordinator k m = cond (counts k) m.receiver m.sender

-- the receiver is at the number of the message, under its coordinator
abbrev pub matches : Entry → Message → Bool
matches e m = e.elected == m.number && e.lead == coordinator m.kind m

abbrev pub is_initial : State → Bool
is_initial state.Initial = true
is_initial t = false

abbrev pub is_pre_committed : State → Bool
is_pre_committed state.PreCommitted = true
is_pre_committed t = false

abbrev pub is_committed : State → Bool
is_committed state.Committed = true
is_committed t = false

abbrev pub is_aborted : State → Bool
is_aborted state.Aborted = true
is_aborted t = false

-- a Yes of the site s
abbrev pub with_yes : Poll → ℕ → Poll
with_yes p s = record p { yes = with_site p.yes s }

abbrev pub with_no : Poll → Poll
with_no p = record p { no = true }

-- are all with the greatest last attempt pre-committed, once state t at attempt a is reported too
abbrev pub still_committable : Canvass → State → ℕ → Bool
still_committable c t a =
    cond (nat_lt c.greatest a) (is_pre_committed t)
    (cond (a == c.greatest) (c.committable && is_pre_committed t) c.committable)

-- the site s reports state t and last attempt a for the first time
abbrev pub first_report : Canvass → ℕ → State → ℕ → Canvass
first_report c s t a = record c {
  reported = with_site c.reported s;
  aborted = c.aborted || is_aborted t;
  committed = c.committed || is_committed t;
  greatest = cond (nat_lt c.greatest a) a c.greatest;
  committable = still_committable c t a;
}

-- a second report of a site changes nothing
abbrev pub with_report : Canvass → ℕ → State → ℕ → Canvass
with_report c s t a = cond (has c.reported s) c (first_report c s t a)

abbrev pub with_ack : Attempt → ℕ → Attempt
with_ack a s = record a { acked = with_site a.acked s }

-- the role after a message of site s, where it is one that the role counts
abbrev pub counted : Role → Kind → ℕ → Option Role
counted (role.Polling p) kind.Yes s = Some (role.Polling (with_yes p s))
counted (role.Polling p) kind.No s = Some (role.Polling (with_no p))
counted (role.Canvassing c) (kind.Report t a) s = Some (role.Canvassing (with_report c s t a))
counted (role.Attempting t) kind.Ack s = Some (role.Attempting (with_ack t s))
counted r k s = None

abbrev pub counted_by : Option Role → Kind → ℕ → Option Role
counted_by None k s = None
counted_by (Some r) k s = counted r k s
