use Rattle.std.proofs.Common.{ℕ, ◌+◌, ◌^◌, ◌<◌, ◌≤◌, arith, lit<}
use native.Mathlib.Nat.{pow-le-pow_right}

-- a number of i + 1 digits, of which one more digit makes at most seven
pub six_digits : (n i : ℕ) → n < 10 ^ (i + 1) → i < 6 → n < 1000000
six_digits n i h l = let q : i + 1 ≤ 6 = omega arith in let p : 10 ^ (i + 1) ≤ 10 ^ 6 = pow-le-pow_right (lit< tt) q in omega arith
