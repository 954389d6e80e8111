-- Which sites a set has after each operation, and which sets know only the first sites.
use Rattle.std.proofs.Common.{◌≡◌, ℕ, zero, suc, ◌+◌, ◌-◌, ◌*◌, ◌/◌, ◌%◌, ◌^◌, ◌<◌, ◌≤◌, max, Bool, true, false, not, ◌&&◌, ◌||◌, eqb, ltb, sym, refl, ap, ◌∙◌, ⊎_elim, suc-mul, pow-suc, arith, pow_mono}
use native.Mathlib.Nat.{div-eq_of_lt}
use lib.Bits.{bit_or, or_step, or_block, or_zero_r, or_lt}
use lib.Pow.{ones_split}
use Rattle.std.specs.Int.{bit_at}
use Rattle.std.proofs.lemmas.Nat.Bits.{bit_at_or, bit_at-lt, bit_at-pow_same, bit_at-pow_other, bit_at-zero, bit_at_above}
use Rattle.std.proofs.lemmas.Nat.{pow_pos, pow_below, shr_split, mod_below, shr_high}
use Rattle.std.proofs.lemmas.Bool.{eq-eqb, ne_eqb, eqb-true, lt-ltb, le-ltb, cases_lt, cases_eq, cases_Bool, cond-true, cond-false, cond_both, both_ways}
use Rattle.std.proofs.lemmas.Bool.Decides.{nat_tests}
use Rattle.sites.specs.Sets.{has, only, with_site, without_site, everyone, known}

pub small_none : (n x s : ℕ) → x < 2 ^ n → n ≤ s → x / 2 ^ s ≡ 0
small_none n x s l h = let m : 2 ^ n ≤ 2 ^ s = pow_mono h in div-eq_of_lt (omega (arith, l, m))

-- what has an even count at s has not the site s
pub not_has : (x s : ℕ) → x / 2 ^ s % 2 ≡ 0 → has x s ≡ false
not_has x s e = ne_eqb (x / 2 ^ s % 2) 1 (λ o. omega arith)

pub has_none : (s : ℕ) → has 0 s ≡ false
has_none s = not_has 0 s (bit_at-zero s)

either_odd : (m n : ℕ) → m < 2 → n < 2 → eqb (max m n) 1 ≡ (eqb m 1 || eqb n 1)
either_odd m n h k = grind (arith, nat_tests)

-- the sites of either set
pub has_or : (x y s : ℕ) → has (bit_or x y) s ≡ (has x s || has y s)
has_or x y s = ap (λ n. eqb n 1) (bit_at_or x y s) ∙ either_odd (bit_at x s) (bit_at y s) (bit_at-lt x s) (bit_at-lt y s)

-- a power of two is the set of one site
pub has_power : (s k : ℕ) → has (2 ^ s) k ≡ eqb k s
has_power s k =
    ⊎_elim
    (λ (e : k ≡ s). ap (λ j. has (2 ^ s) j) e ∙ eq-eqb (bit_at (2 ^ s) s) 1 (bit_at-pow_same s) ∙ sym (eq-eqb k s e))
    (λ (o : k ≡ s → ⊥). not_has (2 ^ s) k (bit_at-pow_other s k o) ∙ sym (ne_eqb k s o))
    (cases_eq k s)

or_one : (n : ℕ) → n % 2 ≡ 0 → bit_or n 1 ≡ n + 1
or_one n e = omega (arith, or_step n 1, or_zero_r (n / 2))

one_less : (q m : ℕ) → 0 < q → q * m ≡ (q - 1) * m + m
one_less zero m h = absurd (omega arith)
one_less (suc q) m h = let e : suc q - 1 ≡ q = omega arith in rw e (suc-mul q m)

-- a set without its site s, by its count from s on and the rest
without_parts : (x s : ℕ) → has x s ≡ true → x - 2 ^ s ≡ (x / 2 ^ s - 1) * 2 ^ s + x % 2 ^ s
without_parts x s h =
    let odd : x / 2 ^ s % 2 ≡ 1 = eqb-true (x / 2 ^ s % 2) 1 h in
    omega (arith, one_less (x / 2 ^ s) (2 ^ s) (omega arith), shr_split x s)

-- it has the site s no more
without_not : (x s : ℕ) → has x s ≡ true → has (x - 2 ^ s) s ≡ false
without_not x s h =
    let odd : x / 2 ^ s % 2 ≡ 1 = eqb-true (x / 2 ^ s % 2) 1 h in
    let rest = mod_below x (2 ^ s) (pow_pos s) in
    let count : (x - 2 ^ s) / 2 ^ s ≡ x / 2 ^ s - 1 =
    ap (λ n. n / 2 ^ s) (without_parts x s h) ∙ shr_high (x / 2 ^ s - 1) s (x % 2 ^ s) rest in
    not_has (x - 2 ^ s) s (omega arith)

-- and with that site it is the set again
without_with : (x s : ℕ) → has x s ≡ true → bit_or (x - 2 ^ s) (2 ^ s) ≡ x
without_with x s h =
    let odd : x / 2 ^ s % 2 ≡ 1 = eqb-true (x / 2 ^ s % 2) 1 h in
    let rest = mod_below x (2 ^ s) (pow_pos s) in
    let one : 2 ^ s ≡ 1 * 2 ^ s + 0 = omega arith in
    let joined = or_block s (x / 2 ^ s - 1) 1 (x % 2 ^ s) 0 rest (pow_pos s) in
    let count : bit_or (x / 2 ^ s - 1) 1 ≡ x / 2 ^ s = or_one (x / 2 ^ s - 1) (omega arith) ∙ omega arith in
    ap (λ n. bit_or n (2 ^ s)) (without_parts x s h) ∙ ap (λ n. bit_or ((x / 2 ^ s - 1) * 2 ^ s + x % 2 ^ s) n) one ∙ joined
    ∙ ap (λ n. n * 2 ^ s + bit_or (x % 2 ^ s) 0) count ∙ ap (λ n. x / 2 ^ s * 2 ^ s + n) (or_zero_r (x % 2 ^ s)) ∙ shr_split x s

taken_out : (b y e : Bool) → b ≡ (y || e) → (e ≡ true → y ≡ false) → y ≡ (b && not e)
taken_out b true true h k = k refl ∙ ap (λ v. v && false) (sym h)
taken_out b true false h k = ap (λ v. v && true) (sym h)
taken_out b false true h k = ap (λ v. v && false) (sym h)
taken_out b false false h k = ap (λ v. v && true) (sym h)

kept_out : (b e : Bool) → (e ≡ true → b ≡ false) → b ≡ (b && not e)
kept_out true true k = k refl
kept_out true false k = refl
kept_out false true k = refl
kept_out false false k = refl

-- the set and one site less
pub has_without : (x s k : ℕ) → has (without_site x s) k ≡ (has x k && not (eqb k s))
has_without x s k =
    ⊎_elim
    (λ (t : has x s ≡ true).
    ap (λ y. has y k) (cond-true (has x s) (x - 2 ^ s) x t)
    ∙ taken_out (has x k) (has (x - 2 ^ s) k) (eqb k s)
    (ap (λ y. has y k) (sym (without_with x s t)) ∙ has_or (x - 2 ^ s) (2 ^ s) k
    ∙ ap (λ b. has (x - 2 ^ s) k || b) (has_power s k))
    (λ e. ap (λ j. has (x - 2 ^ s) j) (eqb-true k s e) ∙ without_not x s t))
    (λ (f : has x s ≡ false).
    ap (λ y. has y k) (cond-false (has x s) (x - 2 ^ s) x f)
    ∙ kept_out (has x k) (eqb k s) (λ e. ap (λ j. has x j) (eqb-true k s e) ∙ f))
    (cases_Bool (has x s))

pub known_less : (n x : ℕ) → known n x ≡ true → x < 2 ^ n
known_less n x e =
    let none : x / 2 ^ n ≡ 0 = eqb-true (x / 2 ^ n) 0 e in
    let no_part : x / 2 ^ n * 2 ^ n ≡ 0 = ap (λ q. q * 2 ^ n) none ∙ omega arith in
    omega (arith, shr_split x n, mod_below x (2 ^ n) (pow_pos n))

-- a set that counts less than 2^n has sites below n alone
pub has_below : (n x s : ℕ) → x < 2 ^ n → has x s ≡ true → s < n
has_below n x s l t =
    ⊎_elim
    (λ (k : s < n). k)
    (λ (g : n ≤ s). absurd (both_ways (has x s) (not_has x s (bit_at_above x n s l g)) t))
    (cases_lt s n)

pub known_has : (n x s : ℕ) → known n x ≡ true → has x s ≡ true → s < n
known_has n x s e t = has_below n x s (known_less n x e) t

-- a set that counts less than 2^n has known sites alone
pub less_known : (n x : ℕ) → x < 2 ^ n → known n x ≡ true
less_known n x l = eq-eqb (x / 2 ^ n) 0 (div-eq_of_lt l)

only_is : (s : ℕ) → s < 16 → only s ≡ 2 ^ s
only_is s h = cond-true (ltb s 16) (2 ^ s) 0 (lt-ltb s 16 h)

only_less : (n s : ℕ) → s < n → only s < 2 ^ n
only_less n s h = cond_both (ltb s 16) (2 ^ s) 0 (λ y. y < 2 ^ n) (λ _. pow_below s n h) (λ _. pow_pos n)

pub has_only : (s k : ℕ) → s < 16 → has (only s) k ≡ eqb k s
has_only s k h = ap (λ y. has y k) (only_is s h) ∙ has_power s k

-- the set and one site more
pub has_with : (x s k : ℕ) → s < 16 → has (with_site x s) k ≡ (has x k || eqb k s)
has_with x s k h = has_or x (only s) k ∙ ap (λ b. has x k || b) (has_only s k h)

-- a set that has the site s counts at least 2^s
pub has_counts : (x s : ℕ) → has x s ≡ true → 2 ^ s ≤ x
has_counts x s h =
    let odd : x / 2 ^ s % 2 ≡ 1 = eqb-true (x / 2 ^ s % 2) 1 h in
    ⊎_elim (λ (l : x < 2 ^ s). absurd (omega (arith, div-eq_of_lt l))) (λ (g : 2 ^ s ≤ x). g) (cases_lt x (2 ^ s))

-- the first n sites
pub has_ones : (n s : ℕ) → has (2 ^ n - 1) s ≡ ltb s n
has_ones n s =
    ⊎_elim
    (λ (l : s < n).
    let d = n - s - 1 in
    let apart : n ≡ suc d + s = omega arith in
    let count : (2 ^ n - 1) / 2 ^ s ≡ 2 ^ suc d - 1 =
    ap (λ m. (2 ^ m - 1) / 2 ^ s) apart ∙ ap (λ m. m / 2 ^ s) (ones_split (suc d) s)
    ∙ shr_high (2 ^ suc d - 1) s (2 ^ s - 1) (omega (arith, pow_pos s)) in
    eq-eqb ((2 ^ n - 1) / 2 ^ s % 2) 1 (omega (arith, count, pow-suc 2 d, pow_pos d)) ∙ sym (lt-ltb s n l))
    (λ (g : n ≤ s).
    let none : (2 ^ n - 1) / 2 ^ s ≡ 0 = small_none n (2 ^ n - 1) s (omega (arith, pow_pos n)) g in
    not_has (2 ^ n - 1) s (ap (λ m. m % 2) none) ∙ sym (le-ltb s n g))
    (cases_lt s n)

everyone_is : (n : ℕ) → n ≤ 16 → everyone n ≡ 2 ^ n - 1
everyone_is n h =
    ⊎_elim
    (λ (l : n < 16). cond-true (ltb n 16) (2 ^ n - 1) 65535 (lt-ltb n 16 l))
    (λ (g : 16 ≤ n).
    let full : 16 ≡ n = omega arith in
    cond-false (ltb n 16) (2 ^ n - 1) 65535 (le-ltb n 16 g) ∙ ap (λ m. 2 ^ m - 1) full)
    (cases_lt n 16)

pub has_everyone : (n s : ℕ) → n ≤ 16 → has (everyone n) s ≡ ltb s n
has_everyone n s h = ap (λ y. has y s) (everyone_is n h) ∙ has_ones n s

pub known_sixteen : (n x : ℕ) → n ≤ 16 → known n x ≡ true → x < 2 ^ 16
known_sixteen n x h e = omega (arith, known_less n x e, pow_mono h)

pub known_with : (n x s : ℕ) → s < n → known n x ≡ true → known n (with_site x s) ≡ true
known_with n x s h e =
    less_known n (with_site x s) (or_lt n x (only s) (known_less n x e) (only_less n s h))

pub known_without : (n x s : ℕ) → known n x ≡ true → known n (without_site x s) ≡ true
known_without n x s e =
    less_known n (without_site x s)
    (cond_both (has x s) (x - 2 ^ s) x (λ y. y < 2 ^ n) (λ _. omega (arith, known_less n x e)) (λ _. known_less n x e))

pub known_everyone : (n : ℕ) → n ≤ 16 → known n (everyone n) ≡ true
known_everyone n h = less_known n (everyone n) (omega (arith, everyone_is n h, pow_pos n))
