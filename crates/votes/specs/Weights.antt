-- The votes of a set: one site more, never more than all votes; and two sets with more votes than there are share a site.
use Rattle.std.specs.Prelude.{◌≡◌, ℕ, zero, suc, ◌+◌, ◌*◌, ◌<◌, ◌≤◌, Bool, true, false, cond, List, [], ◌∷◌, length, take, sum, nat_le, slice_index}
use Rattle.std.proofs.Common.{◌∙◌, ⊎_elim, arith, zero-add, add-one}
use Rattle.std.proofs.lemmas.List.Sums.{sum_by-cons, sum_by_more, sum_by-take-le}
use Rattle.std.proofs.lemmas.Bool.{cases_Bool, cond-false, and_parts, leb-true}
use Rattle.sites.specs.Sets.{has, known}
use Rattle.quorum.specs.Quorums.{Crossing, Known}
use Rattle.votes.specs.Ballots.{Ballot, weight_from, enough_votes, quorums_of, light_votes, most_voters, most_votes, most_total}

weight_suc : (k x i : ℕ) (vs : List ℕ) → i < length vs → weight_from k x (take (suc i) vs) ≡ weight_from k x (take i vs) + cond (has x (k + i)) (slice_index vs i) 0
weight_suc k x i [] h = absurd (omega arith)
weight_suc k x zero (v ∷ vs) h = let e : k + 0 ≡ k = omega arith in rw e (omega arith)
weight_suc k x (suc i) (v ∷ vs) h =
    let e : k + suc i ≡ k + 1 + i = omega arith in
    let within : i < length vs = omega arith in
    rw e (omega (arith, weight_suc (k + 1) x i vs within))

-- one site more
pub weight_more : (x i : ℕ) (vs : List ℕ) → i < length vs → weight_from 0 x (take (i + 1) vs) ≡ weight_from 0 x (take i vs) + cond (has x i) (slice_index vs i) 0
weight_more x i vs h = rw add-one (weight_suc 0 x i vs h ∙ rw zero-add)

cond_le : (b : Bool) (v : ℕ) → cond b v 0 ≤ v
cond_le true v = omega arith
cond_le false v = omega arith

-- a set has no more votes than there are
pub weight_le : (k x : ℕ) (vs : List ℕ) → weight_from k x vs ≤ sum vs
weight_le k x [] = omega arith
weight_le k x (v ∷ vs) = omega (arith, sum_by-cons (λ n. n) v vs, weight_le (k + 1) x vs, cond_le (has x k) v)

-- nor together with a vote that is still to be looked at
pub weight_next : (x i : ℕ) (vs : List ℕ) → i < length vs → weight_from 0 x (take i vs) + slice_index vs i ≤ sum vs
weight_next x i vs h =
    omega (arith, weight_le 0 x (take i vs), sum_by_more (λ n. n) vs i 0 h, sum_by-take-le (λ n. n) vs (i + 1))

-- a site below n that both sets have
abbrev Common : ℕ → ℕ → ℕ → Type 0
Common x y n = (s : ℕ) × ((s < n) × (has x s ≡ true) × (has y s ≡ true))

-- sets that share no site have no more votes than there are, together
pub weights_cross : (k x y : ℕ) (vs : List ℕ) → sum vs < weight_from k x vs + weight_from k y vs → Common x y (k + length vs)
weights_cross k x y [] h = absurd (omega arith)
weights_cross k x y (v ∷ vs) h =
    let total = sum_by-cons (λ n. n) v vs in
    let later : sum vs < weight_from (k + 1) x vs + weight_from (k + 1) y vs → Common x y (k + suc (length vs)) =
    λ more. let m = weights_cross (k + 1) x y vs more in (m.0, (omega (arith, m.1.0), m.1.1, m.1.2)) in
    ⊎_elim
    (λ (in-x : has x k ≡ true).
    ⊎_elim
    (λ (in-y : has y k ≡ true). (k, (omega arith, in-x, in-y)))
    (λ (not-y : has y k ≡ false). later (omega (arith, total, cond-false (has y k) v 0 not-y, cond_le (has x k) v)))
    (cases_Bool (has y k)))
    (λ (not-x : has x k ≡ false). later (omega (arith, total, cond-false (has x k) v 0 not-x, cond_le (has y k) v)))
    (cases_Bool (has x k))

-- a set that has enough votes has no unknown site
pub enough_known : (b : Ballot) (needed : ℕ) → Known b.sites (enough_votes b needed)
enough_known b needed x e = (and_parts (known b.sites x) (nat_le needed (weight_from 0 x b.votes)) e).0

enough_weight : (b : Ballot) (needed x : ℕ) → enough_votes b needed x ≡ true → needed ≤ weight_from 0 x b.votes
enough_weight b needed x e =
    leb-true needed (weight_from 0 x b.votes) (and_parts (known b.sites x) (nat_le needed (weight_from 0 x b.votes)) e).1

-- where fewer votes are cast than the quorums of both kinds need together, the quorums cross
pub ballot_crosses : (b : Ballot) → length b.votes ≤ most_voters → sum b.votes < b.commit + b.abort → Crossing (quorums_of b)
ballot_crosses b few less x y c a =
    let m = weights_cross 0 x y b.votes (omega (arith, enough_weight b b.commit x c, enough_weight b b.abort y a)) in
    (m.0, (omega (arith, m.1.0), m.1.1, m.1.2))

-- light votes are at most fifteen for each site
pub light_sum : (vs : List ℕ) → light_votes vs ≡ true → sum vs ≤ most_votes * length vs
light_sum [] e = omega arith
light_sum (v ∷ vs) e =
    let parts = and_parts (nat_le v most_votes) (light_votes vs) e in
    omega (arith, sum_by-cons (λ n. n) v vs, leb-true v most_votes parts.0, light_sum vs parts.1)

-- of at most sixteen sites
pub light_total : (vs : List ℕ) → length vs ≤ most_voters → light_votes vs ≡ true → sum vs ≤ most_total
light_total vs h e = omega (arith, light_sum vs e)
