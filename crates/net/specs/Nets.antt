-- The new net.
use Rattle.std.specs.Prelude.{ℕ, cond, Ok, Err, Result}
use Rattle.sites.specs.Sets.{seated}
use Rattle.sites.specs.declared.refusal.Refusal.{Refusal}
use Rattle.sites.specs.declared.refusal.Refusal.TheVariants as refusal
use Rattle.rules.specs.World.{Core, fresh}

-- a net is opened for 2 to 16 sites, of which f is one
abbrev pub opening : ℕ → ℕ → Result Core Refusal
opening n f = cond (seated n f) (Ok (fresh n f)) (Err refusal.SiteCount)
