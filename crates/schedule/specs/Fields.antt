-- What the fields of a row say, or the place of the first that does not fit.
use Rattle.std.specs.Prelude.{ℕ, zero, suc, List, [], ◌∷◌, Some, None, Ok, Err, Option, Result}
use Rattle.rules.specs.declared.call.Vote.{Vote}
use Rattle.tokens.specs.declared.token.Place.{Place}
use Rattle.tokens.specs.Rows.{Row, Seen, word, number, token, past}
use Rattle.tokens.specs.Seen.{place_of}
use Rattle.schedule.specs.Words.{vote_of}

-- go on with what was read
abbrev pub then : {X Y : Type 0} → Result X Place → (X → Result Y Place) → Result Y Place
then (Ok x) next = next x
then (Err p) next = Err p

abbrev pub or_bad : {X : Type 0} → Option X → Place → Result X Place
or_bad (Some x) p = Ok x
or_bad None p = Err p

abbrev pub as_number : Seen → Result ℕ Place
as_number (number w n p) = Ok n
as_number t = Err (place_of t)

abbrev pub as_vote : Seen → Result Vote Place
as_vote (word w p) = or_bad (vote_of w) p
as_vote t = Err (place_of t)

-- the first field of a row as a number, and as a vote
abbrev pub number_at : Row → Result ℕ Place
number_at r = as_number (token r)

abbrev pub vote_at : Row → Result Vote Place
vote_at r = as_vote (token r)

-- the first n fields of a row as numbers
abbrev pub numbers : ℕ → Row → Result (List ℕ) Place
numbers zero r = Ok []
numbers (suc n) r = then (number_at r) (λ v. then (numbers n (past r)) (λ vs. Ok (v ∷ vs)))

-- what is left of a row after n fields
abbrev pub past_all : ℕ → Row → Row
past_all zero r = r
past_all (suc n) r = past_all n (past r)
