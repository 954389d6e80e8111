-- Sets of sites: the site that two quorums share.
use Rattle.std.proofs.Common.{◌≡◌, ℕ, zero, suc, ◌<◌, true, ◌≢◌, ◌⊎◌, refl, inl, inr, arith, lit<}
use Rattle.sites.proofs.Marks.{known_has, less_known}
use Rattle.sites.specs.Sets.{has, Shared}
use Rattle.rules.specs.Plans.{quorum_for}
use Rattle.rules.specs.declared.state.Outcome.{Outcome}
use Rattle.rules.specs.declared.state.Outcome.TheVariants as outcome
use Rattle.history.specs.Events.{Setting, Crossing}
use Rattle.history.specs.Examples.{two_of_three}

-- quorums for different outcomes share a site, whichever is the commit quorum
pub cross : (p : Setting) (o o' : Outcome) (x y : ℕ) → Crossing p → o ≢ o' → quorum_for p.commits p.aborts o x ≡ true → quorum_for p.commits p.aborts o' y ≡ true → Shared x y
cross p outcome.Commit outcome.Commit x y c d a b = absurd (d refl)
cross p outcome.Commit outcome.Abort x y c d a b = c x y a b
cross p outcome.Abort outcome.Commit x y c d a b = let z = c y x b a in (z.0, (z.1.0, z.1.2, z.1.1))
cross p outcome.Abort outcome.Abort x y c d a b = absurd (d refl)

-- the site s is in both sets
abbrev Both : ℕ → ℕ → ℕ → Type 0
Both x y s = (has x s ≡ true) × (has y s ≡ true)

-- what holds of each site of a set of the first three
pub of_three : (x : ℕ) (P : ℕ → Type 0) → x < 8 → (has x 0 ≡ true → P 0) → (has x 1 ≡ true → P 1) → (has x 2 ≡ true → P 2) → (s : ℕ) → has x s ≡ true → P s
of_three x P l a b c zero i = a i
of_three x P l a b c (suc zero) i = b i
of_three x P l a b c (suc (suc zero)) i = c i
of_three x P l a b c (suc (suc (suc s))) i = absurd (omega (arith, known_has 3 x (suc (suc (suc s))) (less_known 3 x l) i))

-- two sets of at least two of the first three sites share one of these
meet : (x y : ℕ) → two_of_three x ≡ true → two_of_three y ≡ true → Both x y 0 ⊎ (Both x y 1 ⊎ Both x y 2)
meet x y h k = grind arith

pub pairs_cross : (x y : ℕ) → two_of_three x ≡ true → two_of_three y ≡ true → Shared x y
pairs_cross x y h k =
    elim (meet x y h k) [
      | inl b ↦ (0, (lit< tt, b.0, b.1))
      | inr (inl b) ↦ (1, (lit< tt, b.0, b.1))
      | inr (inr b) ↦ (2, (lit< tt, b.0, b.1))
    ]
