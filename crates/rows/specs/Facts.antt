-- A row vault has one lawful record for each site, and keeps its memory.
use Rattle.std.specs.Prelude.{◌≡◌, ℕ, length, take, drop, slice_index_or, refl}
use Rattle.std.proofs.Common.{sym, ap, ◌∙◌, arith, length-take}
use Rattle.std.proofs.lemmas.List.{length-map}
use Rattle.rules.specs.Entries.{Lawful, plain}
use Rattle.rules.specs.World.{no_entry}
use Rattle.vault.specs.Records.{lawful_at, lawful_records}
use Rattle.rows.specs.Rows.{row_stored, SameMemory}
use Rattle.rows.specs.declared.rows.RowVault.{RowVault}

pub rows_whole : (v : RowVault) → length (row_stored v).entries ≡ (row_stored v).sites
rows_whole v = omega (arith, v.held, length-take v.sites v.rows.now, length-map (take v.sites v.rows.now) plain)

pub rows_lawful : (v : RowVault) (s : ℕ) → Lawful (slice_index_or (row_stored v).entries s no_entry)
rows_lawful v s = lawful_at (row_stored v).entries (lawful_records (take v.sites v.rows.now)) s

pub memory_alike : (v : RowVault) → SameMemory v v
memory_alike v = (refl, refl, refl)

pub memory_chained : (u v w : RowVault) → SameMemory u v → SameMemory v w → SameMemory u w
memory_chained u v w h k =
    (k.0 ∙ h.0, k.1 ∙ h.1, ap (λ n. drop n w.rows.now) (sym h.1) ∙ k.2 ∙ ap (λ n. drop n v.rows.now) h.1 ∙ h.2)
