-- The lines of a text and the fields of a line. A newline is the byte 10, a comma the byte 44.
use Rattle.std.specs.Prelude.{ℕ, cond, List, [], ◌∷◌, ◌==◌}
use Rattle.std.specs.List.{slice_split, onto_first}

-- each line ends with a newline, which the last may lack
abbrev pub lines : List ℕ → List (List ℕ)
lines [] = []
lines (b ∷ bs) = cond (b == 10) ([] ∷ lines bs) (onto_first b (lines bs))

-- the fields of a line are parted by commas
abbrev pub fields : List ℕ → List (List ℕ)
fields bs = slice_split (λ b. b == 44) bs
