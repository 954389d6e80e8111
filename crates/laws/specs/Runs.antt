-- What holds in every run: a new net, and then call after call.
use Rattle.std.specs.Prelude.{ℕ, ◌<◌, ◌≤◌, List, replicate}
use Rattle.quorum.specs.Quorums.{Quorums}
use Rattle.rules.specs.Calls.{Terms, going_by, after}
use Rattle.rules.specs.Entries.{starting}
use Rattle.rules.specs.World.{World, world, fresh, entry_at}
use Rattle.rules.specs.declared.call.Call.{Call}
use Rattle.rules.specs.declared.message.Message.{Message}
use Rattle.laws.specs.Laws.{SameIfDecided}

-- k sites under the first coordinator f, nothing sent yet; what the places of the list hold does not matter (a transcript
-- begins with a blank list, and has its own)
abbrev pub new_world : ℕ → ℕ → List Message → World
new_world k f ms = world (fresh k f) (replicate k (starting f)) ms

-- the worlds that calls lead to, accepted or refused, under one policy, with a vault of n sites and any amount left in it at each of them
pub data Run (q : Quorums) (n : ℕ) : World → Type 0 where
  new : (k f : ℕ) (ms : List Message) → f < k → k ≤ 16 → Run q n (new_world k f ms)
  called : (l : ℕ) (w : World) (c : Call) → Run q n w → Run q n (after (going_by q n l) w c)

-- in a run, a decided site never changes its state
abbrev pub DecidedStaysInRuns : Type 0
DecidedStaysInRuns =
    (t : Terms) (w : World) (c : Call) → Run t.quorums t.sites w →
    (s : ℕ) → SameIfDecided (entry_at w s) (entry_at (after t w c) s)
