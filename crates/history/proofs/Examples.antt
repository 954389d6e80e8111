-- The example histories are good.
use Rattle.std.proofs.Common.{◌≡◌, ℕ, ◌≤◌, false, List, refl, inl, inr, lit<, lit≤}
use Rattle.std.proofs.lemmas.Bool.{false≢true}
use Rattle.rules.specs.Entries.{decided}
use Rattle.rules.specs.declared.state.Outcome.TheVariants.{Commit, Abort}
use Rattle.rules.specs.declared.state.State.{State}
use Rattle.rules.specs.declared.state.State.TheVariants as state
use Rattle.history.specs.Events.{Event, Voted, Joined, Attempted, Acknowledged, ◌∈◌}
use Rattle.history.specs.Histories.{TookPart, AllVoted, Basis, Chosen, Good}
use Rattle.history.specs.Examples.{three_sites, voting, attempting, acknowledging, canvassing, outage, canvassing_again, acknowledging_again, recovering, recovered, Late, QuorumsCross, Commits, Aborts, Refuses}
use Rattle.history.proofs.Facts.{basis_more}
use Rattle.history.proofs.Sets.{of_three, pairs_cross}

pub quorums_cross : QuorumsCross
quorums_cross x y a b = pairs_cross x y a b

all_voted : AllVoted three_sites voting
all_voted = of_three 7 (λ s. Voted s ∈ voting) (lit< tt) (λ i. inr (inr (inl refl))) (λ i. inr (inl refl)) (λ i. inl refl)

attempting_good : Good three_sites attempting
attempting_good = (
  ((refl, refl), (refl, lit< tt), inl (record { number = refl; to_commit = refl; votes = all_voted })),
  (refl, (refl, (refl, tt))),
)

-- sites 0 and 1 took part
chosen_commit : Chosen three_sites acknowledging 1 0 Commit
chosen_commit = record {
  sites = 3;
  enough = refl;
  attempt = inr (inl refl);
  acks = of_three 3 (λ s. TookPart acknowledging s 1 0 Commit) (lit< tt)
      (λ i. inr (refl, inr (inl refl))) (λ i. inl (inl refl)) (λ i. absurd (false≢true i));
}

acknowledging_good : Good three_sites acknowledging
acknowledging_good = (((refl, refl), (refl, lit< tt), inl refl), attempting_good)

pub commits : Commits
commits = record {
  good = (((refl, refl), refl, inl refl), (((refl, refl), inl chosen_commit), acknowledging_good));
  site_0 = refl;
  site_1 = refl;
  site_2 = refl;
}

-- a site's report, as an attempt asks for it
abbrev Report : List Event → ℕ → ℕ → ℕ → ℕ → Type 0
Report h n r top s = (t : State) × (a : ℕ) × (Joined s n r t a ∈ h) × (decided t ≡ false) × (a ≤ top)

-- sites 1 and 2 report that they are waiting
first_basis : Basis three_sites canvassing 2 1 Abort
first_basis = record {
  sites = 6;
  greatest = 0;
  enough = refl;
  reports = of_three 6 (Report canvassing 2 1 0) (lit< tt) (λ i. absurd (false≢true i))
      (λ i. (state.Waiting, 0, inr (inl refl), refl, lit≤ tt)) (λ i. (state.Waiting, 0, inl refl, refl, lit≤ tt));
  speaker = (1, state.Waiting, refl, inr (inl refl), refl, refl);
}

-- site 0 reports that it pre-committed at 1, and site 2 that it pre-aborted at 2
second_basis : Basis three_sites canvassing_again 3 2 Abort
second_basis = record {
  sites = 5;
  greatest = 2;
  enough = refl;
  reports = of_three 5 (Report canvassing_again 3 2 2) (lit< tt) (λ i. (state.PreCommitted, 1, inl refl, refl, lit≤ tt))
      (λ i. absurd (false≢true i)) (λ i. (state.PreAborted, 2, inr (inl refl), refl, lit≤ tt));
  speaker = (2, state.PreAborted, refl, inr (inl refl), refl, refl);
}

-- sites 0 and 2 took part
chosen_abort : Chosen three_sites acknowledging_again 3 2 Abort
chosen_abort = record {
  sites = 5;
  enough = refl;
  attempt = inr (inl refl);
  acks = of_three 5 (λ s. TookPart acknowledging_again s 3 2 Abort) (lit< tt)
      (λ i. inl (inl refl)) (λ i. absurd (false≢true i)) (λ i. inr (refl, inr (inl refl)));
}

canvassing_good : Good three_sites canvassing
canvassing_good = ((lit< tt, refl, refl), ((lit< tt, refl, refl), attempting_good))

outage_good : Good three_sites outage
outage_good =
    (((refl, refl), (refl, lit< tt), inl refl), (((refl, refl), (refl, lit< tt), inr first_basis), canvassing_good))

canvassing_again_good : Good three_sites canvassing_again
canvassing_again_good = ((lit< tt, refl, refl), ((lit< tt, refl, refl), outage_good))

acknowledging_again_good : Good three_sites acknowledging_again
acknowledging_again_good =
    (((refl, refl), (refl, lit< tt), inl refl), (((refl, refl), (refl, lit< tt), inr second_basis), canvassing_again_good))

pub aborts : Aborts
aborts = record {
  good = (((refl, refl), refl, inl refl), (((refl, refl), inl chosen_abort), acknowledging_again_good));
  site_0 = refl;
  site_1 = refl;
  site_2 = refl;
}

-- site 0 reports that it pre-committed at 1, and site 2 that it is waiting
third_basis : Basis three_sites recovering 3 0 Commit
third_basis = record {
  sites = 5;
  greatest = 1;
  enough = refl;
  reports = of_three 5 (Report recovering 3 0 1) (lit< tt) (λ i. (state.PreCommitted, 1, inr (inl refl), refl, lit≤ tt))
      (λ i. absurd (false≢true i)) (λ i. (state.Waiting, 0, inl refl, refl, lit≤ tt));
  speaker = (0, state.PreCommitted, refl, inr (inl refl), refl, refl);
}

-- the four events since then do not matter
basis_later : Basis three_sites recovered 2 1 Abort
basis_later =
    basis_more three_sites (Acknowledged 2 3 0 Commit)
    (basis_more three_sites (Attempted 3 0 Commit)
    (basis_more three_sites (Joined 2 3 0 state.Waiting 0)
    (basis_more three_sites (Joined 0 3 0 state.PreCommitted 1) first_basis)))

recovered_good : Good three_sites recovered
recovered_good = (
  ((refl, refl), (refl, lit< tt), inl refl),
  (((refl, refl), (refl, lit< tt), inr third_basis), ((lit< tt, refl, refl), ((lit< tt, refl, refl), canvassing_good))),
)

pub late_attempt : Late
late_attempt = record {
  chosen = record {
    sites = 5;
    enough = refl;
    attempt = inr (inl refl);
    acks = of_three 5 (λ s. TookPart recovered s 3 0 Commit) (lit< tt)
        (λ i. inr (refl, inr (inl refl))) (λ i. absurd (false≢true i)) (λ i. inl (inl refl));
  };
  good = (((refl, refl), (refl, lit< tt), inr basis_later), recovered_good);
}

pub refuses : Refuses
refuses = record {
  good = (((refl, refl), inr (inl (refl, (1, inl refl)))), ((refl, refl), (refl, tt)));
  site_0 = refl;
  site_1 = refl;
  site_2 = refl;
}
