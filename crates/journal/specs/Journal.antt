-- A journal vault by its memory.
use Rattle.std.specs.Prelude.{◌≡◌, ℕ, ◌-◌, ◌≤◌, List, [], ◌∷◌, ◌++◌, length, take, drop, Ok, Err, Result}
use Rattle.sites.specs.declared.refusal.Refusal.{Refusal}
use Rattle.rules.specs.Entries.{Entry, starting}
use Rattle.rules.specs.World.{Stored}
use Rattle.vault.specs.Opening.{opening, opened_sites, opened_entries}
use Rattle.journal.specs.Slots.{Written, slot, plain_slots, slots_of, counting_slots, newest}
use Rattle.journal.specs.declared.journal.JournalVault.{JournalVault}
use Rattle.journal.specs.declared.slot.Slot.{Slot}

-- the used slots, the oldest first
abbrev pub used_slots : JournalVault → List Written
used_slots v = plain_slots (take v.used v.slots.now)

-- the newest record of each site, and the slots that are not used
abbrev pub journal_stored : JournalVault → Stored
journal_stored v = record {
  sites = v.sites;
  entries = newest v.sites (used_slots v);
  left = counting_slots (length v.slots.now) - v.used;
}

-- a write that is not refused takes the next slot
abbrev pub slots_written : Result (Unit {0}) Refusal → ℕ → Entry → List Written → List Written
slots_written (Ok u) s e ws = ws ++ (slot s e ∷ [])
slots_written (Err x) s e ws = ws

-- the same memory, appended to: the slots used before are as they were, and so are those that are not used yet
pub record Appended (v v' : JournalVault) : Type 0 where
  pub memory : v'.slots.ghost_name ≡ v.slots.ghost_name
  pub size : length v'.slots.now ≡ length v.slots.now
  pub sites : v'.sites ≡ v.sites
  pub grown : v.used ≤ v'.used
  pub before : take v.used v'.slots.now ≡ take v.used v.slots.now
  pub after : drop v'.used v'.slots.now ≡ drop v'.used v.slots.now

-- for how many sites a new vault is that is asked for n sites under the first coordinator f on the memory xs
abbrev pub new_sites : List Slot → ℕ → ℕ → ℕ
new_sites xs n f = opened_sites (opening (length xs) n f) n

-- what it holds
abbrev pub journal_opened : List Slot → ℕ → ℕ → Stored
journal_opened xs n f = record {
  sites = new_sites xs n f;
  entries = opened_entries (opening (length xs) n f) n f;
  left = counting_slots (length xs) - new_sites xs n f;
}

-- its used slots: the starting record of each site, in the order of the sites
abbrev pub used_opened : List Slot → ℕ → ℕ → List Written
used_opened xs n f = slots_of (new_sites xs n f) (starting f)

-- and its memory: these in the first slots, and the others as they were
abbrev pub slots_opened : List Slot → ℕ → ℕ → List Written
slots_opened xs n f = used_opened xs n f ++ drop (new_sites xs n f) (plain_slots xs)
