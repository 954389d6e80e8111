-- Lists of sets that meet pair by pair.
use Rattle.std.specs.Prelude.{ℕ, Bool, List}
use Rattle.std.specs.List.{list_all}
use Rattle.sites.specs.Sets.{meets}

-- of either kind at most eight sets can be listed
abbrev pub most_sets : ℕ
most_sets = 8

-- every set of the first list meets every set of the second
abbrev pub all_meet : List ℕ → List ℕ → Bool
all_meet xs ys = list_all (λ x. list_all (meets x) ys) xs
