-- Sets of sites as numbers: site s counts 2^s.
use Rattle.std.specs.Prelude.{◌≡◌, ℕ, ◌-◌, ◌/◌, ◌%◌, ◌^◌, ◌<◌, Bool, true, cond, not, ◌&&◌, ◌==◌, bit_and, bit_or, count_ones, nat_le, nat_lt}

-- the site s is in the set x
abbrev pub has : ℕ → ℕ → Bool
has x s = x / 2 ^ s % 2 == 1

-- the set of the site s, one of the sixteen that there can be
abbrev pub only : ℕ → ℕ
only s = cond (nat_lt s 16) (2 ^ s) 0

abbrev pub with_site : ℕ → ℕ → ℕ
with_site x s = bit_or x (only s)

abbrev pub without_site : ℕ → ℕ → ℕ
without_site x s = cond (has x s) (x - 2 ^ s) x

-- the first n sites, of which sixteen count
abbrev pub everyone : ℕ → ℕ
everyone n = cond (nat_lt n 16) (2 ^ n - 1) 65535

-- all sites of the set x are among the first n
abbrev pub known : ℕ → ℕ → Bool
known n x = x / 2 ^ n == 0

-- how many of the sixteen sites a set has
abbrev pub size : ℕ → ℕ
size x = count_ones (x % 65536)

-- every site of the set y is in the set x
abbrev pub includes : ℕ → ℕ → Bool
includes x y = bit_and x y == y

-- the sets x and y have one of the sixteen sites in common
abbrev pub meets : ℕ → ℕ → Bool
meets x y = not (bit_and x y % 65536 == 0)

-- there are 2 to 16 sites, and the first coordinator f is one of them
abbrev pub seated : ℕ → ℕ → Bool
seated n f = nat_le 2 n && (nat_le n 16 && nat_lt f n)

-- two sets share one of the sixteen sites
abbrev pub Shared : ℕ → ℕ → Type 0
Shared x y = (s : ℕ) × ((s < 16) × (has x s ≡ true) × (has y s ≡ true))
