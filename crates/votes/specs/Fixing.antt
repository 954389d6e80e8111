-- What fixing a ballot answers and leaves.
use Rattle.std.specs.Prelude.{if◌then◌else◌, ℕ, ◌+◌, Bool, cond, not, ◌||◌, List, length, Ok, Err, is_ok, sum, Result, nat_le, nat_lt}
use Rattle.sites.specs.declared.refusal.Refusal.{Refusal}
use Rattle.sites.specs.declared.refusal.Refusal.TheVariants.{SiteCount, PolicyRange, NoCrossing}
use Rattle.votes.specs.Ballots.{Ballot, fewest_voters, most_voters, light_votes}

-- not from one to the total
abbrev pub outside : ℕ → ℕ → Bool
outside n total = nat_lt n 1 || nat_lt total n

abbrev pub fix_answer : ℕ → ℕ → List ℕ → Result (Unit {0}) Refusal
fix_answer commit abort votes =
    cond (nat_lt (length votes) fewest_voters || nat_lt most_voters (length votes)) (Err SiteCount)
    (cond (not (light_votes votes)) (Err PolicyRange)
    (cond (outside commit (sum votes) || outside abort (sum votes)) (Err PolicyRange)
    (cond (nat_le (commit + abort) (sum votes)) (Err NoCrossing) (Ok tt))))

-- the ballot of the votes that are handed over
abbrev pub ballot_of : ℕ → ℕ → List ℕ → Ballot
ballot_of c a vs = record { sites = length vs; commit = c; abort = a; votes = vs }

-- the ballot that is handed over, or the old one where it is refused
abbrev pub fix_ballot : ℕ → ℕ → List ℕ → Ballot → Ballot
fix_ballot c a vs old = if is_ok (fix_answer c a vs) then ballot_of c a vs else old
