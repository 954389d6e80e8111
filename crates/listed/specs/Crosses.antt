-- Quorums of either kind share a site, since each includes a listed set.
use Rattle.std.specs.Prelude.{◌≡◌, ℕ, true, List, [], ◌∷◌}
use Rattle.std.specs.List.{list_all, list_any}
use Rattle.std.proofs.Common.{⊎_elim}
use Rattle.std.proofs.lemmas.Bool.{and_parts, or_cases, false≢true}
use Rattle.sites.specs.Sets.{includes, known, meets, Shared}
use Rattle.sites.proofs.Overlaps.{includes_has, meets_shared}
use Rattle.quorum.specs.Quorums.{Crossing, Known}
use Rattle.listed.specs.Crossing.{all_meet}
use Rattle.listed.specs.Listings.{Listing, listed_quorum, quorums_of}

-- sets that include sets that meet
wider : (x c y a : ℕ) → includes x c ≡ true → includes y a ≡ true → meets c a ≡ true → Shared x y
wider x c y a in-x in-y e =
    let m = meets_shared c a e in
    (m.0, (m.1.0, includes_has x c m.0 in-x m.1.1, includes_has y a m.0 in-y m.1.2))

meets_one : (x c y : ℕ) (abort : List ℕ) → includes x c ≡ true → list_all (meets c) abort ≡ true → list_any (includes y) abort ≡ true → Shared x y
meets_one x c y [] in-x e t = absurd (false≢true t)
meets_one x c y (a ∷ abort) in-x e t =
    let parts = and_parts (meets c a) (list_all (meets c) abort) e in
    ⊎_elim
    (λ (here : includes y a ≡ true). wider x c y a in-x here parts.0)
    (λ (later : list_any (includes y) abort ≡ true). meets_one x c y abort in-x parts.1 later)
    (or_cases (includes y a) (list_any (includes y) abort) t)

pub lists_cross : (x y : ℕ) (commit abort : List ℕ) → all_meet commit abort ≡ true → list_any (includes x) commit ≡ true → list_any (includes y) abort ≡ true → Shared x y
lists_cross x y [] abort e t u = absurd (false≢true t)
lists_cross x y (c ∷ commit) abort e t u =
    let parts = and_parts (list_all (meets c) abort) (all_meet commit abort) e in
    ⊎_elim
    (λ (here : includes x c ≡ true). meets_one x c y abort here parts.0 u)
    (λ (later : list_any (includes x) commit ≡ true). lists_cross x y commit abort parts.1 later u)
    (or_cases (includes x c) (list_any (includes x) commit) t)

-- a quorum has no unknown site
pub listed_known : (n : ℕ) (sets : List ℕ) → Known n (listed_quorum n sets)
listed_known n sets x e = (and_parts (known n x) (list_any (includes x) sets) e).0

listed_includes : (n : ℕ) (sets : List ℕ) (x : ℕ) → listed_quorum n sets x ≡ true → list_any (includes x) sets ≡ true
listed_includes n sets x e = (and_parts (known n x) (list_any (includes x) sets) e).1

-- where the listed sets meet, the quorums cross
pub listing_crosses : (l : Listing) → all_meet l.commit l.abort ≡ true → Crossing (quorums_of l)
listing_crosses l e x y c a =
    lists_cross x y l.commit l.abort e (listed_includes l.sites l.commit x c) (listed_includes l.sites l.abort y a)
