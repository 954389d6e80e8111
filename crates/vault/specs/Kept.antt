-- What a vault answers and keeps.
use Rattle.std.specs.Prelude.{ℕ, cond, List, Ok, Err, Result, nat_lt, slice_index_or, slice_set}
use Rattle.sites.specs.declared.refusal.Refusal.{Refusal}
use Rattle.sites.specs.declared.refusal.Refusal.TheVariants as refusal
use Rattle.rules.specs.Entries.{Entry, plain}
use Rattle.rules.specs.World.{Stored, no_entry, write_price, accepted, Left}
use Rattle.rules.specs.declared.record.Record.{Record}

-- the answer by the plain part of its record
abbrev pub entry_read : Result Record Refusal → Result Entry Refusal
entry_read (Ok r) = Ok (plain r)
entry_read (Err x) = Err x

-- the record of the site s
abbrev pub kept : Stored → ℕ → Result Entry Refusal
kept v s = cond (nat_lt s v.sites) (Ok (slice_index_or v.entries s no_entry)) (Err refusal.UnknownSite)

-- a write at the site s
abbrev pub write_answer : Stored → ℕ → Result (Unit {0}) Refusal
write_answer v s =
    cond (nat_lt s v.sites) (cond (nat_lt v.left write_price) (Err refusal.VaultFull) (Ok tt)) (Err refusal.UnknownSite)

abbrev pub entries_written : Result (Unit {0}) Refusal → ℕ → Entry → List Entry → List Entry
entries_written (Ok u) s e es = slice_set es s e
entries_written (Err x) s e es = es

-- a write costs its price at most, and a refused one nothing
abbrev pub Spent : Result (Unit {0}) Refusal → ℕ → ℕ → Type 0
Spent r l l' = Left (accepted r) l l'
