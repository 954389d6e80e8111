-- A ballot: the sites with their votes, and how many votes a quorum of each kind needs.
use Rattle.std.specs.Prelude.{ℕ, ◌+◌, ◌*◌, Bool, cond, ◌&&◌, List, [], ◌∷◌, nat_le}
use Rattle.std.specs.List.{list_all}
use Rattle.sites.specs.Sets.{has, known}
use Rattle.quorum.specs.Quorums.{Quorums}

-- the fewest sites that can vote, and the most: each policy bounds its own, as another may bound them otherwise
abbrev pub fewest_voters : ℕ
fewest_voters = 2

abbrev pub most_voters : ℕ
most_voters = 16

-- the most votes that a site can have
abbrev pub most_votes : ℕ
most_votes = 15

-- the votes that there can be
abbrev pub most_total : ℕ
most_total = most_votes * most_voters

pub record Ballot : Type 0 where
  pub sites : ℕ
  pub commit : ℕ
  pub abort : ℕ
  pub votes : List ℕ

-- the votes of the sites of the set x, where the first vote is that of the site k
abbrev pub weight_from : ℕ → ℕ → List ℕ → ℕ
weight_from k x [] = 0
weight_from k x (v ∷ vs) = cond (has x k) v 0 + weight_from (k + 1) x vs

-- a set without unknown site that has the votes it needs
abbrev pub enough_votes : Ballot → ℕ → ℕ → Bool
enough_votes b needed x = known b.sites x && nat_le needed (weight_from 0 x b.votes)

abbrev pub commits_of : Ballot → ℕ → Bool
commits_of b x = enough_votes b b.commit x

abbrev pub aborts_of : Ballot → ℕ → Bool
aborts_of b x = enough_votes b b.abort x

-- what the ballot means as a policy
abbrev pub quorums_of : Ballot → Quorums
quorums_of b = record { sites = b.sites; commits = commits_of b; aborts = aborts_of b }

-- the ballot before any fixing
abbrev pub unfixed : Ballot
unfixed = record { sites = 0; commit = 1; abort = 1; votes = [] }

-- no site has more than fifteen votes
abbrev pub light_votes : List ℕ → Bool
light_votes = list_all (λ v. nat_le v most_votes)
