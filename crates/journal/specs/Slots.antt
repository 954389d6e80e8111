-- The slots of a journal, and the records that they leave.
use Rattle.std.specs.Prelude.{◌≡◌, ℕ, ◌<◌, ◌==◌, min, Option, List, map, replicate, reverse, slice_index_or, slice_set}
use Rattle.std.specs.List.{find, fold, range_with_len}
use Rattle.rules.specs.Entries.{Entry, Lawful, plain}
use Rattle.rules.specs.World.{no_entry}
use Rattle.journal.specs.declared.slot.Slot.{Slot}

-- a slot by its plain parts
pub record Written : Type 0 where
  pub site : ℕ
  pub own : Entry

abbrev pub slot : ℕ → Entry → Written
slot s e = record { site = s; own = e }

abbrev pub plain_slot : Slot → Written
plain_slot x = slot x.site (plain x.own)

abbrev pub plain_slots : List Slot → List Written
plain_slots xs = map plain_slot xs

-- the record of a slot is lawful
abbrev pub LawfulSlot : Written → Type 0
LawfulSlot w = Lawful w.own

-- of k slots at most the first 65,536 count
abbrev pub counting_slots : ℕ → ℕ
counting_slots k = min k 65536

-- the first n slots are of the sites 0 to n - 1
abbrev pub InOrder : ℕ → List Slot → Type 0
InOrder n xs = (s : ℕ) (d : Slot) → s < n → (slice_index_or xs s d).site ≡ s

-- a slot of each of the sites 0 to n - 1, with the same record
abbrev pub slots_of : ℕ → Entry → List Written
slots_of n e = map (λ s. slot s e) (range_with_len 0 n)

-- a later slot replaces the record of its site
abbrev pub put : List Entry → Written → List Entry
put es w = slice_set es w.site w.own

-- the newest record of each of n sites, where the slots are read from the oldest on
abbrev pub newest : ℕ → List Written → List Entry
newest n ws = fold put (replicate n no_entry) ws

-- the last slot of the site s
abbrev pub last_of : ℕ → List Slot → Option Slot
last_of s xs = find (λ x. x.site == s) (reverse xs)
