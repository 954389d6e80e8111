-- What the arithmetic on sets means for their sites.
use Rattle.std.specs.Prelude.{◌≡◌, ℕ, true, Decides}
use Rattle.sites.specs.Sets.{has, includes, meets, Shared}

-- a set includes another exactly if it has each of its sites
abbrev pub Inclusion : Type 0
Inclusion = (x y : ℕ) → Decides (includes x y) ((s : ℕ) → has y s ≡ true → has x s ≡ true)

-- two sets meet exactly if they share a site
abbrev pub Meeting : Type 0
Meeting = (x y : ℕ) → Decides (meets x y) (Shared x y)
