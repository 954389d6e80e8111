-- What a policy means: which sets of how many sites may commit, and which may abort.
use Rattle.std.specs.Prelude.{◌≡◌, ℕ, Bool, true}
use Rattle.sites.specs.Sets.{known, Shared}

pub record Quorums : Type 0 where
  pub sites : ℕ
  -- the sets that may commit
  pub commits : ℕ → Bool
  -- the sets that may abort
  pub aborts : ℕ → Bool

-- every commit quorum shares a site with every abort quorum
abbrev pub Crossing : Quorums → Type 0
Crossing q = (x y : ℕ) → q.commits x ≡ true → q.aborts y ≡ true → Shared x y

-- no set with an unknown site is among those sets
abbrev pub Known : ℕ → (ℕ → Bool) → Type 0
Known n family = (x : ℕ) → family x ≡ true → known n x ≡ true
