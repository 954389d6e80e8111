-- What the steps inside of a call rely on.
use Rattle.std.specs.Prelude.{ℕ, ◌+◌, ◌<◌, ◌≤◌}
use Rattle.sites.specs.Sets.{size}
use Rattle.rules.specs.Plans.{Plan}
use Rattle.rules.specs.Posting.{places}
use Rattle.rules.specs.World.{World, Stored, write_price}

-- a net of n sites, of which f is one, that has sent k messages
pub record Bounded (n f k : ℕ) : Type 0 where
  pub several : 2 ≤ n
  pub few : n ≤ 16
  pub led : f < n
  pub short : k ≤ 4096

-- the site is known to net and vault
pub record Near (n s : ℕ) : Type 0 where
  pub kept : s < n
  pub known : s < 16

-- what an admitted step can count on
pub record Within (w : World) (v : Stored) (p : Plan) : Type 0 where
  pub near : Near v.sites p.site
  pub room : w.net.sent + size p.to ≤ places w.messages
  pub left : write_price ≤ v.left
