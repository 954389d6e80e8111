-- What becomes of a step that is asked for, by the net, what the vault holds, and the list.
use Rattle.std.specs.Prelude.{◌≡◌, Bool, List, Result}
use Rattle.sites.specs.declared.refusal.Refusal.{Refusal}
use Rattle.rules.specs.Calls.{receipt_of}
use Rattle.rules.specs.Plans.{Plan}
use Rattle.rules.specs.World.{World, Core, Stored, world_with, Left, admitted, after_of}
use Rattle.rules.specs.declared.message.Message.{Message}

-- it is admitted if there is room for it
abbrev pub carried : Core → Stored → List Message → Result Plan Refusal → Result Plan Refusal
carried c v ms x = admitted v.left (world_with c v ms) x

-- and made
abbrev pub done : Core → Stored → List Message → Result Plan Refusal → World
done c v ms x = after_of (world_with c v ms) (carried c v ms x)

-- what the receiver of a message asks for
abbrev pub receipt : Core → Stored → List Message → Message → Result Plan Refusal
receipt c v ms m = receipt_of (world_with c v ms) m

-- net, list and what the vault holds are those of the world w, and the vault has paid for a write, if there was one
pub record Becomes (w : World) (wrote : Bool) (v v' : Stored) (c' : Core) (ms' : List Message) : Type 0 where
  pub net : c' ≡ w.net
  pub entries : v'.entries ≡ w.entries
  pub list : ms' ≡ w.messages
  pub sites : v'.sites ≡ v.sites
  pub left : Left wrote v.left v'.left
