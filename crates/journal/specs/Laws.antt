-- What every journal vault keeps to.
use Rattle.std.specs.Prelude.{◌≡◌, ℕ, ◌<◌, ◌≤◌, ◌≢◌, slice_index_or}
use Rattle.rules.specs.Entries.{plain}
use Rattle.rules.specs.World.{no_entry}
use Rattle.journal.specs.Journal.{journal_stored, Appended}
use Rattle.journal.specs.declared.journal.JournalVault.{JournalVault}
use Rattle.journal.specs.declared.slot.Slot.{Slot}

-- the slot k, or d where the memory has no such slot
abbrev pub slot_at : JournalVault → ℕ → Slot → Slot
slot_at v k d = slice_index_or v.slots.now k d

-- the slot k is as it was
abbrev pub SameSlot : JournalVault → JournalVault → ℕ → Type 0
SameSlot v v' k = (d : Slot) → slot_at v' k d ≡ slot_at v k d

-- between an earlier and a later moment of a vault, no slot that was used changes, and none that is still unused
abbrev pub AppendOnly : Type 0
AppendOnly =
    (v v' : JournalVault) → Appended v v' →
    (v.used ≤ v'.used) × ((k : ℕ) → k < v.used → SameSlot v v' k) × ((k : ℕ) → v'.used ≤ k → SameSlot v v' k)

-- the used slot k is the newest of the site s
pub record Newest (v : JournalVault) (s k : ℕ) (d : Slot) : Type 0 where
  pub within : k < v.used
  pub owner : (slot_at v k d).site ≡ s
  pub last : (j : ℕ) → k < j → j < v.used → (slot_at v j d).site ≢ s

-- the record of a site is that of its newest slot, and there is one
abbrev pub NewestCounts : Type 0
NewestCounts =
    (v : JournalVault) (s : ℕ) (d : Slot) → s < v.sites →
    (k : ℕ) × (Newest v s k d × (slice_index_or (journal_stored v).entries s no_entry ≡ plain (slot_at v k d).own))
