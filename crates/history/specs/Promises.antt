-- Agreement and validity.
use Rattle.std.specs.Prelude.{◌≡◌, ℕ, ◌≤◌, ◌≢◌, ◌⊎◌, List, ◌++◌}
use Rattle.rules.specs.Entries.{final_state}
use Rattle.rules.specs.declared.state.Outcome.{Outcome}
use Rattle.rules.specs.declared.state.Outcome.TheVariants as outcome
use Rattle.rules.specs.declared.state.State.TheVariants as state
use Rattle.history.specs.Events.{Setting, Crossing, Event, Refused, Attempted, ◌∈◌}
use Rattle.history.specs.Histories.{standing, AllVoted, Chosen, Vetoed, Good}

-- What a decision rests on in the end: the outcome was chosen, or a site voted No.
abbrev pub Settled : Setting → List Event → Outcome → Type 0
Settled p h o = ((n r : ℕ) × Chosen p h n r o) ⊎ Vetoed h o

-- Where an outcome is chosen, the other is attempted neither at that number nor at any greater one, before or after the choice.
abbrev pub ChosenExcludesAttempts : Type 0
ChosenExcludesAttempts =
    (p : Setting) (h : List Event) → Crossing p → Good p h → (o o' : Outcome) → o ≢ o' →
    (n r m q : ℕ) → Chosen p h n r o → n ≤ m → Attempted m q o' ∈ h → ⊥

-- Where a site voted No, nobody attempts to commit.
abbrev pub NoExcludesCommit : Type 0
NoExcludesCommit = (p : Setting) (h : List Event) → Good p h → (s n r : ℕ) → Refused s ∈ h → Attempted n r outcome.Commit ∈ h → ⊥

-- Commit and abort are never both settled.
abbrev pub Agreement : Type 0
Agreement = (p : Setting) (h : List Event) → Crossing p → Good p h → Settled p h outcome.Commit → Settled p h outcome.Abort → ⊥

-- A decided site rests on what is settled.
abbrev pub DecidedIsSettled : Type 0
DecidedIsSettled = (p : Setting) (h : List Event) → Good p h → (s : ℕ) (o : Outcome) → (standing p h s).state ≡ final_state o → Settled p h o

-- Two decided sites, or one site twice, have the same outcome: s at a moment, and t then or after the further events g.
abbrev pub DecisionsAgree : Type 0
DecisionsAgree =
    (p : Setting) (h g : List Event) → Crossing p → Good p (g ++ h) → (s t : ℕ) (o o' : Outcome) →
    (standing p h s).state ≡ final_state o → (standing p (g ++ h) t).state ≡ final_state o' → o ≡ o'

-- Where commit is attempted, every site whose Yes is needed has voted Yes. A chosen commit was attempted, so this covers it.
abbrev pub Validity : Type 0
Validity = (p : Setting) (h : List Event) → Good p h → (n r : ℕ) → Attempted n r outcome.Commit ∈ h → AllVoted p h

-- The same holds where a site has committed.
abbrev pub CommittedIsValid : Type 0
CommittedIsValid = (p : Setting) (h : List Event) → Good p h → (s : ℕ) → (standing p h s).state ≡ state.Committed → AllVoted p h
