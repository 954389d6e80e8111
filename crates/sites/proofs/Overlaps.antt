-- Sets that include one another, and sets that share a site.
use Rattle.std.proofs.Common.{◌≡◌, ℕ, zero, suc, ◌+◌, ◌-◌, ◌/◌, ◌%◌, ◌^◌, ◌<◌, min, Bool, true, false, ◌&&◌, eqb, ◌≢◌, sym, refl, ap, ◌∙◌, ⊎_elim, pow-suc, arith}
use lib.Bits.{bit_and}
use Rattle.std.specs.Int.{bit_at}
use Rattle.std.proofs.lemmas.Nat.Bits.{bit_at_and, bit_at-lt, bit_at-suc, same_from_bits}
use Rattle.std.proofs.lemmas.Nat.{field_of, mod-pow-add}
use Rattle.std.proofs.lemmas.Bool.{eq-eqb, eqb-true, eqb-false, ne_eqb, not-true, not_from_false, and_parts, and_from, both_ways, cases_Bool}
use Rattle.std.proofs.lemmas.Bool.Decides.{nat_tests}
use Rattle.sites.specs.Sets.{has, includes, meets, Shared}
use Rattle.sites.proofs.Marks.{has_none}

both_odd : (m n : ℕ) → m < 2 → n < 2 → eqb (min m n) 1 ≡ (eqb m 1 && eqb n 1)
both_odd m n h k = grind (arith, nat_tests)

-- the sites of both sets
pub has_and : (x y s : ℕ) → has (bit_and x y) s ≡ (has x s && has y s)
has_and x y s = ap (λ n. eqb n 1) (bit_at_and x y s) ∙ both_odd (bit_at x s) (bit_at y s) (bit_at-lt x s) (bit_at-lt y s)

-- a set has each site of a set that it includes
pub includes_has : (x y s : ℕ) → includes x y ≡ true → has y s ≡ true → has x s ≡ true
includes_has x y s e h =
    (and_parts (has x s) (has y s) (sym (has_and x y s) ∙ ap (λ n. has n s) (eqb-true (bit_and x y) y e) ∙ h)).0

has_half : (x s : ℕ) → has (x / 2) s ≡ has x (suc s)
has_half x s = ap (λ n. eqb n 1) (sym (bit_at-suc x s))

-- a set that counts less than 2^k and is not empty has a site below k
some_site : (k x : ℕ) → x < 2 ^ k → 0 < x → (s : ℕ) × ((s < k) × (has x s ≡ true))
some_site zero x l p = absurd (omega arith)
some_site (suc k) x l p =
    ⊎_elim
    (λ (odd : has x 0 ≡ true). (0, (omega arith, odd)))
    (λ (even : has x 0 ≡ false).
    let rest : x / 1 % 2 ≢ 1 = eqb-false (x / 1 % 2) 1 even in
    let m = some_site k (x / 2) (omega (arith, pow-suc 2 k)) (omega arith) in
    (suc m.0, (omega (arith, m.1.0), sym (has_half x m.0) ∙ m.1.1)))
    (cases_Bool (has x 0))

-- the first sixteen sites of a set
has_low : (x s : ℕ) → s < 16 → has (x % 65536) s ≡ has x s
has_low x s h =
    let d = 16 - s - 1 in
    let apart : 16 ≡ d + 1 + s = omega arith in
    let whole : x % 65536 / 2 ^ s ≡ x / 2 ^ s % 2 ^ (d + 1) = ap (λ n. x % 2 ^ n / 2 ^ s) apart ∙ field_of x (d + 1) s in
    ap (λ n. eqb n 1) (omega (arith, whole, mod-pow-add (x / 2 ^ s) d 1))

-- sets that meet share a site
pub meets_shared : (x y : ℕ) → meets x y ≡ true → Shared x y
meets_shared x y e =
    let both = bit_and x y in
    let some : both % 65536 ≢ 0 = eqb-false (both % 65536) 0 (not-true (eqb (both % 65536) 0) e) in
    let m = some_site 16 (both % 65536) (omega arith) (omega arith) in
    let s = m.0 in
    let parts = and_parts (has x s) (has y s) (sym (has_and x y s) ∙ sym (has_low both s m.1.0) ∙ m.1.1) in
    (s, (m.1.0, parts.0, parts.1))

-- and sets that share a site meet
pub shared_meets : (x y : ℕ) → Shared x y → meets x y ≡ true
shared_meets x y m =
    let s = m.0 in
    let both = bit_and x y in
    let there : has (both % 65536) s ≡ true =
    has_low both s m.1.0 ∙ has_and x y s ∙ and_from (has x s) (has y s) m.1.1 m.1.2 in
    not_from_false (eqb (both % 65536) 0)
    (ne_eqb (both % 65536) 0 (λ e. both_ways (has 0 s) (has_none s) (sym (ap (λ n. has n s) e) ∙ there)))

-- numbers that have the same sites are the same
same_sites : (x y : ℕ) → ((s : ℕ) → has x s ≡ has y s) → x ≡ y
same_sites x y e =
    same_from_bits x y (λ s. let h : eqb (bit_at x s) 1 ≡ eqb (bit_at y s) 1 = e s in let a = bit_at-lt x s in let b = bit_at-lt y s in grind (arith, nat_tests))

both_if : (a b : Bool) → (b ≡ true → a ≡ true) → (a && b) ≡ b
both_if a true h = ap (λ t. t && true) (h refl)
both_if true false h = refl
both_if false false h = refl

-- a set that has each site of another includes it
pub has_includes : (x y : ℕ) → ((s : ℕ) → has y s ≡ true → has x s ≡ true) → includes x y ≡ true
has_includes x y h =
    eq-eqb (bit_and x y) y (same_sites (bit_and x y) y (λ s. has_and x y s ∙ both_if (has x s) (has y s) (h s)))
