-- The net with its vault and its list, and what a step leaves of them.
use Rattle.std.specs.Prelude.{◌≡◌, ℕ, ◌+◌, ◌≤◌, Bool, true, false, cond, List, length, replicate, Some, None, Ok, Err, Option, Result, nat_lt, slice_index_or, slice_set}
use Rattle.sites.specs.Sets.{size}
use Rattle.sites.specs.declared.refusal.Refusal.{Refusal}
use Rattle.sites.specs.declared.refusal.Refusal.TheVariants as refusal
use Rattle.rules.specs.Entries.{Entry, starting}
use Rattle.rules.specs.Plans.{Plan}
use Rattle.rules.specs.Posting.{broadcast, written, room, message}
use Rattle.rules.specs.declared.message.Kind.TheVariants as kind
use Rattle.rules.specs.declared.message.Message.{Message}
use Rattle.rules.specs.declared.role.Role.{Role}
use Rattle.rules.specs.declared.rows.Row.{Row}
use Rattle.rules.specs.declared.rows.Rows.{Rows}

-- the net: its sites, the first coordinator, how many messages were sent, and a row for each site that there can be
pub record Core : Type 0 where
  pub sites : ℕ
  pub first : ℕ
  pub sent : ℕ
  pub rows : Rows

-- a vault: its number of sites, the record of each, and how many writes are left at least
pub record Stored : Type 0 where
  pub sites : ℕ
  pub entries : List Entry
  pub left : ℕ

pub record World : Type 0 where
  pub net : Core
  pub entries : List Entry
  pub messages : List Message

abbrev pub world : Core → List Entry → List Message → World
world c es ms = record { net = c; entries = es; messages = ms }

-- the net with what a vault holds
abbrev pub world_with : Core → Stored → List Message → World
world_with c v ms = world c v.entries ms

-- what is read outside of a list
abbrev pub no_entry : Entry
no_entry = starting 0

abbrev pub no_row : Row
no_row = record { up = false; role = None }

abbrev pub no_message : Message
no_message = message kind.Start 0 0 0

-- a site that is up and has no role
abbrev pub fresh_row : Row
fresh_row = record { up = true; role = None }

-- a new net: n sites under the first coordinator f, nothing sent
abbrev pub fresh : ℕ → ℕ → Core
fresh n f = record { sites = n; first = f; sent = 0; rows = record { row = replicate 16 fresh_row } }

abbrev pub row_at : Core → ℕ → Row
row_at c s = slice_index_or c.rows.row s no_row

-- the role of a known site, or that it has none
abbrev pub role_answer : Core → ℕ → Result (Option Role) Refusal
role_answer c s = cond (nat_lt s c.sites) (Ok (row_at c s).role) (Err refusal.UnknownSite)

abbrev pub entry_at : World → ℕ → Entry
entry_at w s = slice_index_or w.entries s no_entry

-- the rows with another role for the site s
abbrev pub with_role : Core → ℕ → Option Role → List Row
with_role c s r = slice_set c.rows.row s (record (row_at c s) { role = r })

-- the net with another number of messages sent, and other rows
abbrev pub with_rows : Core → ℕ → List Row → Core
with_rows c k rows = record c { sent = k; rows = record { row = rows } }

-- a step was made
abbrev pub applied : World → Plan → World
applied w p =
    world
    (with_rows w.net (w.net.sent + size p.to) (with_role w.net p.site p.role))
    (slice_set w.entries p.site p.own)
    (written w.messages w.net.sent (broadcast p.kind p.own.elected p.site p.to))

-- the list has places for the messages of the step
abbrev pub placed : World → Result Plan Refusal → Result Plan Refusal
placed w (Ok p) = cond (room (length w.messages) w.net.sent p.to) (Ok p) (Err refusal.ListFull)
placed w (Err x) = Err x

-- what one write may cost
abbrev pub write_price : ℕ
write_price = 1

-- the vault has enough left for the write
abbrev pub paid : ℕ → Result Plan Refusal → Result Plan Refusal
paid l (Ok p) = cond (nat_lt l write_price) (Err refusal.VaultFull) (Ok p)
paid l (Err x) = Err x

-- with l left in the vault
abbrev pub admitted : ℕ → World → Result Plan Refusal → Result Plan Refusal
admitted l w x = paid l (placed w x)

abbrev pub answer_of : Result Plan Refusal → Result (Unit {0}) Refusal
answer_of (Ok p) = Ok tt
answer_of (Err x) = Err x

-- a refused call changes nothing
abbrev pub after_of : World → Result Plan Refusal → World
after_of w (Ok p) = applied w p
after_of w (Err x) = w

abbrev pub count_answer : Result Role Refusal → Result (Unit {0}) Refusal
count_answer (Ok r) = Ok tt
count_answer (Err x) = Err x

-- a message was counted at the site s
abbrev pub count_net : Core → ℕ → Result Role Refusal → Core
count_net c s (Ok r) = with_rows c c.sent (with_role c s (Some r))
count_net c s (Err x) = c

abbrev pub count_after : World → ℕ → Result Role Refusal → World
count_after w s x = record w { net = count_net w.net s x }

abbrev pub accepted : Result (Unit {0}) Refusal → Bool
accepted (Ok u) = true
accepted (Err x) = false

-- where a write was made, what is left fell by its price at most; else it is the same
abbrev pub Left : Bool → ℕ → ℕ → Type 0
Left true l l' = (l' ≤ l) × (l ≤ l' + write_price)
Left false l l' = l' ≡ l
