-- A site's record as it is printed.
use Rattle.std.specs.Prelude.{ℕ, List, ◌++◌, codes, decimal}
use Rattle.rules.specs.Entries.{Entry}
use Rattle.rehearsal.specs.Text.{site_state}

abbrev pub record_text : ℕ → Entry → List ℕ
record_text s e =
    site_state s e.state
    ++ (codes "," ++ (decimal e.elected ++ (codes "," ++ (decimal e.attempt ++ (codes "," ++ decimal e.lead)))))
