-- The lines of the sites, one after another.
use Rattle.std.proofs.Common.{◌≡◌, ℕ, ◌+◌, List, ◌++◌, codes, get_or, add-one}
use Rattle.std.proofs.lemmas.List.{append_assoc, append-nil}
use Rattle.rules.specs.Entries.{Entry}
use Rattle.rules.specs.World.{no_entry}
use Rattle.rehearsal.specs.Records.{record_text}
use Rattle.rehearsal.specs.Text.{site_lines}

pub lines_none : (text : List ℕ) (es : List Entry) → text ≡ text ++ site_lines 0 es
unfolding site_lines
lines_none text es = simp append-nil

pub lines_more : (text : List ℕ) (s : ℕ) (es : List Entry) → (text ++ site_lines s es) ++ (record_text s (get_or es s no_entry) ++ codes "\n") ≡ text ++ site_lines (s + 1) es
unfolding site_lines
lines_more text s es = rw add-one (simp append_assoc)
