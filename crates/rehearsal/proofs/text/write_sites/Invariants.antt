use Rattle.std.proofs.Common.{◌≡◌, ◌++◌, string_bytes}
use Rattle.rows.specs.Rows.{row_stored}
use Rattle.rehearsal.specs.Text.{site_lines}
use Rattle.rehearsal.proofs.text.write_sites.Given as goal

abbrev pub invariant-loop-site : goal.invariant-loop-site
invariant-loop-site l = string_bytes l.text ≡ string_bytes l.initial.text ++ site_lines l.site (row_stored l.vault).entries
