-- A record by its plain parts, and the records that a site goes through.
use Rattle.std.specs.Prelude.{ℕ, ◌<◌, ◌≤◌, Bool, true, false, cond, ◌&&◌, Some, None, Option, nat_lt}
use Rattle.rules.specs.declared.call.Vote.{Vote}
use Rattle.rules.specs.declared.call.Vote.TheVariants as vote
use Rattle.rules.specs.declared.record.Record.{Record}
use Rattle.rules.specs.declared.state.Outcome.{Outcome}
use Rattle.rules.specs.declared.state.Outcome.TheVariants as outcome
use Rattle.rules.specs.declared.state.State.{State}
use Rattle.rules.specs.declared.state.State.TheVariants as state

pub record Entry : Type 0 where
  pub state : State
  pub elected : ℕ
  pub attempt : ℕ
  pub lead : ℕ

abbrev pub entry : State → ℕ → ℕ → ℕ → Entry
entry t n a s = record { state = t; elected = n; attempt = a; lead = s }

abbrev pub plain : Record → Entry
plain r = entry r.state r.elected r.attempt r.lead

abbrev pub plain_option : Option Record → Option Entry
plain_option (Some r) = Some (plain r)
plain_option None = None

-- what every record keeps to
abbrev pub Lawful : Entry → Type 0
Lawful e = (0 < e.elected) × (e.elected < 1000000) × (e.attempt ≤ e.elected) × (e.lead < 16)

-- the record that every site starts with, under the first coordinator
abbrev pub starting : ℕ → Entry
starting first = entry state.Initial 1 0 first

abbrev pub decided : State → Bool
decided state.Committed = true
decided state.Aborted = true
decided t = false

-- pre-committed or pre-aborted
abbrev pub pre_state : Outcome → State
pre_state outcome.Commit = state.PreCommitted
pre_state outcome.Abort = state.PreAborted

-- committed or aborted
abbrev pub final_state : Outcome → State
final_state outcome.Commit = state.Committed
final_state outcome.Abort = state.Aborted

-- waiting after a Yes, aborted after a No
abbrev pub voted_state : Vote → State
voted_state vote.Yes = state.Waiting
voted_state vote.No = state.Aborted

abbrev pub in_state : Entry → State → Entry
in_state e t = record e { state = t }

-- in that state by an attempt, or a decision, at the last elected number
abbrev pub attempted_in : Entry → State → Entry
attempted_in e t = record e { state = t; attempt = e.elected }

-- under a greater number and its coordinator
abbrev pub joined : Entry → ℕ → ℕ → Entry
joined e n s = record e { elected = n; lead = s }

abbrev pub can_join : Entry → ℕ → ℕ → Bool
can_join e n s = nat_lt e.elected n && (nat_lt n 1000000 && nat_lt s 16)

abbrev pub join : Entry → ℕ → ℕ → Option Entry
join e n s = cond (can_join e n s) (Some (joined e n s)) None
