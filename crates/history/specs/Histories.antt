-- Where a site stands after a history, which event may come next, and which histories are good. The newest event stands first.
use Rattle.std.specs.Prelude.{◌≡◌, ℕ, ◌<◌, ◌≤◌, Bool, true, false, cond, ◌⊎◌, List, [], ◌∷◌, ◌==◌}
use Rattle.sites.specs.Sets.{has}
use Rattle.rules.specs.Counting.{is_pre_committed}
use Rattle.rules.specs.Entries.{Entry, starting, in_state, attempted_in, joined, decided, pre_state, final_state}
use Rattle.rules.specs.Plans.{quorum_for}
use Rattle.rules.specs.declared.state.Outcome.{Outcome}
use Rattle.rules.specs.declared.state.Outcome.TheVariants as outcome
use Rattle.rules.specs.declared.state.State.{State}
use Rattle.rules.specs.declared.state.State.TheVariants as state
use Rattle.history.specs.Events.{Setting, Event, Voted, Refused, Joined, Attempted, Acknowledged, Decided, Followed, ◌∈◌}

-- what an event makes of the record of the site s
abbrev pub record_after : ℕ → Event → Entry → Entry
record_after s (Voted t) e = cond (s == t) (in_state e state.Waiting) e
record_after s (Refused t) e = cond (s == t) (in_state e state.Aborted) e
record_after s (Joined t n r u a) e = cond (s == t) (joined e n r) e
record_after s (Attempted n r o) e = cond (s == r) (attempted_in e (pre_state o)) e
record_after s (Acknowledged t n r o) e = cond (s == t) (attempted_in e (pre_state o)) e
record_after s (Decided n r o) e = cond (s == r) (attempted_in e (final_state o)) e
record_after s (Followed t n r o) e = cond (s == t) (in_state e (final_state o)) e

-- where the site s stands after a history: its record
abbrev pub standing : Setting → List Event → ℕ → Entry
standing p [] s = starting p.first
standing p (e ∷ h) s = record_after s e (standing p h s)

-- the site s is at the number n, under the coordinator r
abbrev pub Under : Setting → List Event → ℕ → ℕ → ℕ → Type 0
Under p h s n r = ((standing p h s).elected ≡ n) × ((standing p h s).lead ≡ r)

abbrev pub Undecided : Setting → List Event → ℕ → Type 0
Undecided p h s = decided (standing p h s).state ≡ false

-- the site s can take part in an attempt at n: it is undecided and has taken part in none there
abbrev pub Free : Setting → List Event → ℕ → ℕ → Type 0
Free p h s n = Undecided p h s × ((standing p h s).attempt < n)

-- the site s took part in the attempt at n under r, as its coordinator or by acknowledging it
abbrev pub TookPart : List Event → ℕ → ℕ → ℕ → Outcome → Type 0
TookPart h s n r o = (Acknowledged s n r o ∈ h) ⊎ ((s ≡ r) × (Attempted n r o ∈ h))

-- every site whose Yes is needed has voted Yes
abbrev pub AllVoted : Setting → List Event → Type 0
AllVoted p h = (s : ℕ) → has p.voters s ≡ true → Voted s ∈ h

abbrev pub is_commit : Outcome → Bool
is_commit outcome.Commit = true
is_commit outcome.Abort = false

-- What an attempt after an election rests on: the reports, to that coordinator at that number, of a quorum for the outcome.
-- None of these sites is decided. One of those with the greatest last attempt is pre-committed, if the outcome is commit,
-- or is not, if it is abort. (To commit, a coordinator asks that all of those are. One is enough for what follows.)
pub record Basis (p : Setting) (h : List Event) (n r : ℕ) (o : Outcome) : Type 0 where
  -- the sites that reported, and the greatest last attempt among theirs
  pub sites : ℕ
  pub greatest : ℕ
  pub enough : quorum_for p.commits p.aborts o sites ≡ true
  pub reports : (s : ℕ) → has sites s ≡ true → (t : State) × (a : ℕ) × (Joined s n r t a ∈ h) × (decided t ≡ false) × (a ≤ greatest)
  pub speaker : (s : ℕ) × (t : State) × (has sites s ≡ true) × (Joined s n r t greatest ∈ h) × (decided t ≡ false) × (is_pre_committed t ≡ is_commit o)

-- What the first attempt rests on: it is one to commit at the number 1, where every site starts, and all have voted Yes.
pub record FirstBasis (p : Setting) (h : List Event) (n : ℕ) (o : Outcome) : Type 0 where
  pub number : n ≡ 1
  pub to_commit : o ≡ outcome.Commit
  pub votes : AllVoted p h

-- An outcome is chosen at n under r: a quorum for it took part in that attempt.
pub record Chosen (p : Setting) (h : List Event) (n r : ℕ) (o : Outcome) : Type 0 where
  -- the sites that took part
  pub sites : ℕ
  pub enough : quorum_for p.commits p.aborts o sites ≡ true
  pub attempt : Attempted n r o ∈ h
  pub acks : (s : ℕ) → has sites s ≡ true → TookPart h s n r o

-- a site has voted No, so the outcome is abort
abbrev pub Vetoed : List Event → Outcome → Type 0
Vetoed h o = (o ≡ outcome.Abort) × ((s : ℕ) × (Refused s ∈ h))

-- a site has reported to r, at n, that it had decided so
abbrev pub Reported : List Event → ℕ → ℕ → Outcome → Type 0
Reported h n r o = (s a : ℕ) × (Joined s n r (final_state o) a ∈ h)

-- The event may come next. The calls ask for more in places (a vote is taken only at the number 1), which nothing here needs.
-- A site may join any number above its own, and a decided one may too. A vote, a report and a choice count however old they are.
abbrev pub May : Setting → List Event → Event → Type 0
May p h (Voted s) = (standing p h s).state ≡ state.Initial
May p h (Refused s) = ((standing p h s).state ≡ state.Initial) × (has p.voters s ≡ true)
May p h (Joined s n r t a) = ((standing p h s).elected < n) × (t ≡ (standing p h s).state) × (a ≡ (standing p h s).attempt)
May p h (Attempted n r o) = Under p h r n r × Free p h r n × (FirstBasis p h n o ⊎ Basis p h n r o)
May p h (Acknowledged s n r o) = Under p h s n r × Free p h s n × (Attempted n r o ∈ h)
May p h (Decided n r o) = Under p h r n r × (Chosen p h n r o ⊎ (Vetoed h o ⊎ Reported h n r o))
May p h (Followed s n r o) = Under p h s n r × Undecided p h s × (Decided n r o ∈ h)

-- each event could come after those before it
abbrev pub Good : Setting → List Event → Type 0
Good p [] = Unit {0}
Good p (e ∷ h) = May p h e × Good p h
