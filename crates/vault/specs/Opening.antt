-- A vault that is made on the caller's memory.
use Rattle.std.specs.Prelude.{ℕ, cond, List, [], replicate, Ok, Err, Result, nat_le}
use Rattle.sites.specs.Sets.{seated}
use Rattle.sites.specs.declared.refusal.Refusal.{Refusal}
use Rattle.sites.specs.declared.refusal.Refusal.TheVariants as refusal
use Rattle.rules.specs.Entries.{Entry, starting}

-- the check of a memory of k places for n sites under the first coordinator f
abbrev pub opening : ℕ → ℕ → ℕ → Result (Unit {0}) Refusal
opening k n f =
    cond (seated n f)
    (cond (nat_le n k) (Ok tt) (Err refusal.VaultFull))
    (Err refusal.SiteCount)

-- the record that each site starts with, where the check does not refuse
abbrev pub started : Result (Unit {0}) Refusal → ℕ → Result Entry Refusal
started (Ok u) f = Ok (starting f)
started (Err x) f = Err x

-- none where the check refuses
abbrev pub opened_sites : Result (Unit {0}) Refusal → ℕ → ℕ
opened_sites (Ok u) n = n
opened_sites (Err x) n = 0

-- the starting record of each site
abbrev pub opened_entries : Result (Unit {0}) Refusal → ℕ → ℕ → List Entry
opened_entries (Ok u) n f = replicate n (starting f)
opened_entries (Err x) n f = []
