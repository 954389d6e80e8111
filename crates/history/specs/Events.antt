-- What an approval is set up with, and what can happen in it.
use Rattle.std.specs.Prelude.{◌≡◌, ℕ, Bool, true, ◌⊎◌, List, [], ◌∷◌}
use Rattle.sites.specs.Sets.{Shared}
use Rattle.rules.specs.declared.state.Outcome.{Outcome}
use Rattle.rules.specs.declared.state.State.{State}

pub record Setting : Type 0 where
  -- the first coordinator, under whom every site starts
  pub first : ℕ
  -- the set of sites whose Yes a commit needs: all sites, as long as all take part
  pub voters : ℕ
  -- the commit quorums and the abort quorums; no number of sites is asked for, so this is less than a policy means
  pub commits : ℕ → Bool
  pub aborts : ℕ → Bool

-- Every commit quorum shares a site with every abort quorum. Nothing else is asked of the two families.
abbrev pub Crossing : Setting → Type 0
Crossing p = (x y : ℕ) → p.commits x ≡ true → p.aborts y ≡ true → Shared x y

pub data Event : Type 0 where
  -- the site votes Yes
  Voted : (site : ℕ) → Event
  -- the site votes No
  Refused : (site : ℕ) → Event
  -- the site goes under the number of that coordinator, and reports to it the state and the last attempt that it has
  Joined : (site number coordinator : ℕ) (state : State) (attempt : ℕ) → Event
  -- the coordinator makes an attempt, and is the first to take part in it
  Attempted : (number coordinator : ℕ) (outcome : Outcome) → Event
  -- another site takes part in that attempt, and acknowledges it
  Acknowledged : (site number coordinator : ℕ) (outcome : Outcome) → Event
  -- the coordinator decides
  Decided : (number coordinator : ℕ) (outcome : Outcome) → Event
  -- another site takes that decision
  Followed : (site number coordinator : ℕ) (outcome : Outcome) → Event

infix 50 ◌∈◌
-- the event is in the history
abbrev pub ◌∈◌ : Event → List Event → Type 0
e ∈ [] = ⊥
e ∈ (x ∷ h) = (e ≡ x) ⊎ (e ∈ h)
