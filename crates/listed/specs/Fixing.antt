-- What fixing a listing answers and leaves.
use Rattle.std.specs.Prelude.{if◌then◌else◌, ℕ, cond, not, ◌||◌, List, length, Ok, Err, is_ok, Result, nat_lt}
use Rattle.std.specs.List.{list_all}
use Rattle.sites.specs.declared.refusal.Refusal.{Refusal}
use Rattle.sites.specs.declared.refusal.Refusal.TheVariants.{Unreadable, SiteCount, PolicyRange, NoCrossing}
use Rattle.listed.specs.Crossing.{most_sets, all_meet}
use Rattle.listed.specs.Listings.{Listing, fewest_sites, most_sites, proper}

-- the refusals, in the order of the checks
abbrev pub fix_answer : ℕ → List ℕ → List ℕ → Result (Unit {0}) Refusal
fix_answer n commit abort =
    cond (nat_lt most_sets (length commit) || nat_lt most_sets (length abort)) (Err Unreadable)
    (cond (nat_lt n fewest_sites || nat_lt most_sites n) (Err SiteCount)
    (cond (not (list_all (proper n) commit) || not (list_all (proper n) abort)) (Err PolicyRange)
    (cond (not (all_meet commit abort)) (Err NoCrossing) (Ok tt))))

-- the listing of the sets that are handed over
abbrev pub listing_of : ℕ → List ℕ → List ℕ → Listing
listing_of n commit abort = record { sites = n; commit = commit; abort = abort }

-- the listing that is handed over, or the old one where it is refused
abbrev pub fix_listing : ℕ → List ℕ → List ℕ → Listing → Listing
fix_listing n commit abort old =
    if is_ok (fix_answer n commit abort) then listing_of n commit abort else old
