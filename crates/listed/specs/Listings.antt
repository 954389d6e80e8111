-- A listing: the sites, and the sets that make a quorum of each kind.
use Rattle.std.specs.Prelude.{ℕ, Bool, not, ◌&&◌, List, [], ◌==◌}
use Rattle.std.specs.List.{list_any}
use Rattle.sites.specs.Sets.{includes, known}
use Rattle.quorum.specs.Quorums.{Quorums}

-- the fewest sites that a listing can have, and the most: each policy bounds its own, as another may bound them otherwise
abbrev pub fewest_sites : ℕ
fewest_sites = 2

abbrev pub most_sites : ℕ
most_sites = 16

pub record Listing : Type 0 where
  pub sites : ℕ
  pub commit : List ℕ
  pub abort : List ℕ

-- a set without unknown site that includes a listed set
abbrev pub listed_quorum : ℕ → List ℕ → ℕ → Bool
listed_quorum n ys x = known n x && list_any (includes x) ys

-- what the listing means as a policy
abbrev pub quorums_of : Listing → Quorums
quorums_of l = record {
  sites = l.sites;
  commits = listed_quorum l.sites l.commit;
  aborts = listed_quorum l.sites l.abort;
}

-- the listing before any fixing
abbrev pub unfixed : Listing
unfixed = record { sites = 0; commit = []; abort = [] }

-- a set that can be listed: it has a site, and no unknown one
abbrev pub proper : ℕ → ℕ → Bool
proper n x = not (x == 0) && known n x
