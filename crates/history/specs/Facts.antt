-- What every good history has, whatever the quorums are. From these facts follow validity and, where quorums cross, agreement.
use Rattle.std.specs.Prelude.{◌≡◌, ℕ, ◌<◌, ◌≤◌, true, ◌⊎◌, List}
use Rattle.sites.specs.Sets.{has}
use Rattle.rules.specs.Entries.{pre_state}
use Rattle.rules.specs.declared.state.Outcome.{Outcome}
use Rattle.rules.specs.declared.state.Outcome.TheVariants as outcome
use Rattle.rules.specs.declared.state.State.{State}
use Rattle.rules.specs.declared.state.State.TheVariants as state
use Rattle.history.specs.Events.{Setting, Event, Voted, Refused, Joined, Attempted, ◌∈◌}
use Rattle.history.specs.Histories.{TookPart, AllVoted, Basis, Good}

-- the site s has joined the number n under r
pub record HasJoined (h : List Event) (s n r : ℕ) : Type 0 where
  pub reported : State
  pub attempt : ℕ
  pub event : Joined s n r reported attempt ∈ h

pub record Facts (p : Setting) (h : List Event) : Type 0 where
  -- a site takes a number once, so at one number it is under one coordinator
  pub one_lead : (s n r r' : ℕ) (t t' : State) (a a' : ℕ) → Joined s n r t a ∈ h → Joined s n r' t' a' ∈ h → r ≡ r'
  -- elected numbers begin at 2, and a last attempt is below the number that it is reported at
  pub joined_above : (s n r : ℕ) (t : State) (a : ℕ) → Joined s n r t a ∈ h → 2 ≤ n
  pub report_below : (s n r : ℕ) (t : State) (a : ℕ) → Joined s n r t a ∈ h → a < n
  -- a coordinator makes one attempt at a number, and the numbers begin at 1
  pub one_outcome : (n r : ℕ) (o o' : Outcome) → Attempted n r o ∈ h → Attempted n r o' ∈ h → o ≡ o'
  pub attempt_above : (n r : ℕ) (o : Outcome) → Attempted n r o ∈ h → 1 ≤ n
  -- who takes part is under that coordinator, and the attempt was made
  pub part_joined : (s n r : ℕ) (o : Outcome) → TookPart h s n r o → 2 ≤ n → HasJoined h s n r
  pub part_attempted : (s n r : ℕ) (o : Outcome) → TookPart h s n r o → Attempted n r o ∈ h
  -- a site that took part at n reports n or more at any greater number
  pub part_reported : (s n r : ℕ) (o : Outcome) (m r' : ℕ) (t : State) (a : ℕ) → TookPart h s n r o → Joined s m r' t a ∈ h → n < m → n ≤ a
  -- a site that reports itself pre-committed or pre-aborted names the number of such an attempt; before any it names 0
  pub report_attempted : (s n r : ℕ) (o : Outcome) (a : ℕ) → Joined s n r (pre_state o) a ∈ h → (q : ℕ) × (Attempted a q o ∈ h)
  pub report_none : (s n r : ℕ) (t : State) (a : ℕ) → Joined s n r t a ∈ h → (t ≡ state.Initial) ⊎ (t ≡ state.Waiting) → a ≡ 0
  -- an attempt at 1 is one to commit, after every Yes; any later one has its reports
  pub first_attempt : (r : ℕ) (o : Outcome) → Attempted 1 r o ∈ h → (o ≡ outcome.Commit) × AllVoted p h
  pub later_attempt : (n r : ℕ) (o : Outcome) → Attempted n r o ∈ h → 2 ≤ n → Basis p h n r o
  -- a site votes once, and only one whose Yes is needed votes No
  pub one_vote : (s : ℕ) → Voted s ∈ h → Refused s ∈ h → ⊥
  pub refuser : (s : ℕ) → Refused s ∈ h → has p.voters s ≡ true

abbrev pub HistoriesHaveFacts : Type 0
HistoriesHaveFacts = (p : Setting) (h : List Event) → Good p h → Facts p h
