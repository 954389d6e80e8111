-- Histories of three sites, any two of which are a quorum of either kind: nothing above is empty.
use Rattle.std.specs.Prelude.{◌≡◌, ℕ, Bool, ◌&&◌, ◌||◌, List, [], ◌∷◌}
use Rattle.sites.specs.Sets.{has, everyone}
use Rattle.rules.specs.Entries.{entry}
use Rattle.rules.specs.declared.state.Outcome.TheVariants.{Commit, Abort}
use Rattle.rules.specs.declared.state.State.TheVariants as state
use Rattle.history.specs.Events.{Setting, Crossing, Event, Voted, Refused, Joined, Attempted, Acknowledged, Decided, Followed}
use Rattle.history.specs.Histories.{standing, Chosen, Good}

abbrev pub two_of_three : ℕ → Bool
two_of_three x = (has x 0 && has x 1) || ((has x 0 && has x 2) || (has x 1 && has x 2))

abbrev pub three_sites : Setting
three_sites = record { first = 0; voters = everyone 3; commits = two_of_three; aborts = two_of_three }

-- all vote Yes, and site 0 attempts to commit
abbrev pub voting : List Event
voting = Voted 2 ∷ Voted 1 ∷ Voted 0 ∷ []

abbrev pub attempting : List Event
attempting = Attempted 1 0 Commit ∷ voting

-- site 1 takes part, so that site 0 commits and site 1 follows
abbrev pub acknowledging : List Event
acknowledging = Acknowledged 1 1 0 Commit ∷ attempting

abbrev pub committing : List Event
committing = Followed 1 1 0 Commit ∷ Decided 1 0 Commit ∷ acknowledging

-- or site 0 is cut off with its attempt; site 1 is elected by 1 and 2, and attempts to abort
abbrev pub canvassing : List Event
canvassing = Joined 2 2 1 state.Waiting 0 ∷ Joined 1 2 1 state.Waiting 0 ∷ attempting

abbrev pub outage : List Event
outage = Acknowledged 2 2 1 Abort ∷ Attempted 2 1 Abort ∷ canvassing

-- then site 1 is cut off; site 2 is elected by 0 and 2, goes by the greater of their attempts, and aborts
abbrev pub canvassing_again : List Event
canvassing_again = Joined 0 3 2 state.PreCommitted 1 ∷ Joined 2 3 2 state.PreAborted 2 ∷ outage

abbrev pub acknowledging_again : List Event
acknowledging_again = Acknowledged 0 3 2 Abort ∷ Attempted 3 2 Abort ∷ canvassing_again

abbrev pub aborting : List Event
aborting = Followed 0 3 2 Abort ∷ Decided 3 2 Abort ∷ acknowledging_again

-- or site 0 is elected by 0 and 2 before site 1 makes its attempt, and commit is chosen at 3
abbrev pub recovering : List Event
recovering = Joined 2 3 0 state.Waiting 0 ∷ Joined 0 3 0 state.PreCommitted 1 ∷ canvassing

abbrev pub recovered : List Event
recovered = Acknowledged 2 3 0 Commit ∷ Attempted 3 0 Commit ∷ recovering

-- only then site 1 makes its attempt, at 2; nobody can take part in it any more
abbrev pub late : List Event
late = Attempted 2 1 Abort ∷ recovered

-- site 1 votes No, and site 0 aborts
abbrev pub refusing : List Event
refusing = Decided 1 0 Abort ∷ Refused 1 ∷ Voted 0 ∷ []

abbrev pub QuorumsCross : Type 0
QuorumsCross = Crossing three_sites

-- sites 0 and 1 commit; site 2 has not heard of it
pub record Commits : Type 0 where
  pub good : Good three_sites committing
  pub site_0 : standing three_sites committing 0 ≡ entry state.Committed 1 1 0
  pub site_1 : standing three_sites committing 1 ≡ entry state.Committed 1 1 0
  pub site_2 : standing three_sites committing 2 ≡ entry state.Waiting 1 0 0

-- sites 0 and 2 abort, though site 0 was pre-committed; site 1 has not heard of it
pub record Aborts : Type 0 where
  pub good : Good three_sites aborting
  pub site_0 : standing three_sites aborting 0 ≡ entry state.Aborted 3 3 2
  pub site_1 : standing three_sites aborting 1 ≡ entry state.PreAborted 2 2 1
  pub site_2 : standing three_sites aborting 2 ≡ entry state.Aborted 3 3 2

-- an attempt at the other outcome can come after the choice, at a lower number
pub record Late : Type 0 where
  pub chosen : Chosen three_sites recovered 3 0 Commit
  pub good : Good three_sites late

-- sites 0 and 1 abort; site 2 has not voted
pub record Refuses : Type 0 where
  pub good : Good three_sites refusing
  pub site_0 : standing three_sites refusing 0 ≡ entry state.Aborted 1 1 0
  pub site_1 : standing three_sites refusing 1 ≡ entry state.Aborted 1 0 0
  pub site_2 : standing three_sites refusing 2 ≡ entry state.Initial 1 0 0
