-- The lines that are printed.
use Rattle.std.specs.Prelude.{ℕ, zero, suc, List, [], ◌∷◌, ◌++◌, Ok, Err, codes, decimal, Result, slice_index_or}
use Rattle.sites.specs.Refusals.{number}
use Rattle.sites.specs.declared.refusal.Refusal.{Refusal}
use Rattle.sites.specs.declared.refusal.Refusal.TheVariants as refusal
use Rattle.rules.specs.Entries.{Entry}
use Rattle.rules.specs.Letters.{letter_of}
use Rattle.rules.specs.World.{no_entry}
use Rattle.rules.specs.declared.state.State.{State}

-- 0 for an accepted call, else the number of the refusal
abbrev pub answer_number : Result (Unit {0}) Refusal → ℕ
answer_number (Ok u) = 0
answer_number (Err x) = number x

-- the answer to line k
abbrev pub answer_line : ℕ → Result (Unit {0}) Refusal → List ℕ
answer_line k r = decimal k ++ (codes "," ++ (decimal (answer_number r) ++ codes "\n"))

-- line k is unreadable at its field f
abbrev pub unreadable_line : ℕ → ℕ → List ℕ
unreadable_line k f = decimal k ++ (codes "," ++ (decimal (number refusal.Unreadable) ++ (codes "," ++ (decimal f ++ codes "\n"))))

-- a site's number and record
abbrev pub site_state : ℕ → State → List ℕ
site_state s t = decimal s ++ (codes "," ++ (letter_of t ∷ []))

abbrev pub record_numbers : Entry → List ℕ
record_numbers e =
    codes "," ++ (decimal e.elected ++ (codes "," ++ (decimal e.attempt ++ (codes "," ++ (decimal e.lead ++ codes "\n")))))

abbrev pub site_line : ℕ → Entry → List ℕ
site_line s e = site_state s e.state ++ record_numbers e

-- the lines of the first n sites
unfoldable pub site_lines : ℕ → List Entry → List ℕ
site_lines zero es = []
site_lines (suc s) es = site_lines s es ++ site_line s (slice_index_or es s no_entry)
