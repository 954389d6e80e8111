-- A net that was just opened.
use Rattle.std.specs.Prelude.{◌≡◌, ℕ, Ok}
use Rattle.net.specs.Nets.{opening}
use Rattle.net.specs.declared.net.Net.{Net}

-- the net is a new one under the first coordinator f
abbrev pub IsOpened : Net → ℕ → Type 0
IsOpened n f = Ok n ≡ opening n.sites f
