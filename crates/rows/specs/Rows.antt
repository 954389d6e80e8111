-- A row vault by its memory.
use Rattle.std.specs.Prelude.{◌≡◌, ℕ, List, ◌++◌, map, length, take, drop}
use Rattle.rules.specs.Entries.{Entry, plain}
use Rattle.rules.specs.World.{Stored}
use Rattle.rules.specs.declared.record.Record.{Record}
use Rattle.vault.specs.Opening.{opening, opened_sites, opened_entries}
use Rattle.rows.specs.declared.rows.RowVault.{RowVault}

-- rows by the plain parts of their records
abbrev pub plain_rows : List Record → List Entry
plain_rows rs = map plain rs

-- what is left, always
abbrev pub row_left : ℕ
row_left = 1000000

-- the records are in the first rows
abbrev pub row_stored : RowVault → Stored
row_stored v = record { sites = v.sites; entries = plain_rows (take v.sites v.rows.now); left = row_left }

-- the same memory, with the rows past the last site as they were
abbrev pub SameMemory : RowVault → RowVault → Type 0
SameMemory v v' =
    (v'.rows.ghost_name ≡ v.rows.ghost_name)
    × (v'.sites ≡ v.sites)
    × (drop v.sites v'.rows.now ≡ drop v.sites v.rows.now)

-- what a new vault for n sites under the first coordinator f holds, on the memory rs
abbrev pub row_opened : List Record → ℕ → ℕ → Stored
row_opened rs n f = record {
  sites = opened_sites (opening (length rs) n f) n;
  entries = opened_entries (opening (length rs) n f) n f;
  left = row_left;
}

-- and its memory: the starting records in the first rows, and the others as they were
abbrev pub rows_opened : List Record → ℕ → ℕ → List Entry
rows_opened rs n f = (row_opened rs n f).entries ++ drop (row_opened rs n f).sites (plain_rows rs)
