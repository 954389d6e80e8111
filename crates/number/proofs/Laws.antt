use Rattle.std.proofs.Common.{◌≡◌, ℕ, ◌+◌, ◌-◌, ◌*◌, ◌<◌, ◌≤◌, true, false, cond, ◌&&◌, List, [], ◌∷◌, length, get_or, Some, None, decimal, sym, refl, ap, ◌∙◌, ⊎_elim, arith, lit<, rules}
use Rattle.std.proofs.lemmas.Bool.Decides.{nat_tests}
use Rattle.std.proofs.lemmas.Str.Parse.{IsNumeralModel, numerals_by_fold, digits_value_short}
use Rattle.std.proofs.lemmas.Fmt.{decimal_digit, length-decimal-le, first_decimal, digits_decimal, digits_value-decimal, decimal-digits_value}
use Rattle.std.proofs.str.Laws.{order}
use Rattle.std.specs.Char.{is_ascii_digit}
use Rattle.std.specs.Str.{all_ascii_digits}
use Rattle.number.specs.Numbers.{more_digits, numeral, ReadsWritten, ReadsOnlyWritten}

abbrev value_on : ℕ → List ℕ → ℕ
value_on n [] = n
value_on n (c ∷ cs) = value_on (n * 10 + (c - 48)) cs

values : IsNumeralModel (λ ds. all_ascii_digits ds ≡ true) (value_on 0)
values = numerals_by_fold _ (search rules) value_on (search rules)

by_value : (n : ℕ) (bs : List ℕ) → more_digits n bs ≡ cond (all_ascii_digits bs) (Some (value_on n bs)) None
by_value n [] = refl
by_value n (b ∷ bs) = elim (is_ascii_digit b) as (λ v. cond v (more_digits (n * 10 + (b - 48)) bs) None ≡ cond (v && all_ascii_digits bs) (Some (value_on (n * 10 + (b - 48)) bs)) None) [ true ↦ by_value (n * 10 + (b - 48)) bs | false ↦ refl ]

-- at most seven digits, the first of them not 0
not_led_by_0 : (bs : List ℕ) → all_ascii_digits bs ≡ true → length bs ≤ 7 → 48 < get_or bs 0 0 → numeral bs ≡ Some (value_on 0 bs)
not_led_by_0 [] d l f = absurd (omega arith)
not_led_by_0 (b ∷ []) d l f = grind (arith, nat_tests)
not_led_by_0 (b ∷ c ∷ bs) d l f = let e = by_value (b - 48) (c ∷ bs) in grind (arith, nat_tests)

pub reads_written : ReadsWritten
reads_written n l = ⊎_elim
    (λ (p : 0 < n). not_led_by_0 (decimal n) (digits_decimal values n (omega arith)) (length-decimal-le 7 n (omega arith) (omega arith) (omega arith)) (first_decimal n p (omega arith)) ∙ ap Some (digits_value-decimal values n (omega arith)))
    (λ (p : n ≤ 0). let z : n ≡ 0 = omega arith in rw z (ap numeral (decimal_digit 0 (lit< tt))))
    (order 0 n)

-- a text that reads as n
record Numeral (bs : List ℕ) (n : ℕ) : Type 0 where
  digits : all_ascii_digits bs ≡ true
  some : 0 < length bs
  short : length bs ≤ 7
  lone_0 : get_or bs 0 0 ≡ 48 → length bs ≡ 1
  value : value_on 0 bs ≡ n

is_numeral : (bs : List ℕ) (n : ℕ) → numeral bs ≡ Some n → Numeral bs n
is_numeral [] n e = absurd (let z : ◌≡◌ {A = ℕ} 0 1 = cc in omega arith)
is_numeral (b ∷ []) n e = record { digits = grind (arith, nat_tests); some = omega arith; short = omega arith; lone_0 = λ _. refl; value = grind (arith, nat_tests) }
is_numeral (b ∷ c ∷ bs) n e =
    let o = by_value (b - 48) (c ∷ bs) in
    record { digits = grind (arith, nat_tests); some = omega arith; short = grind (arith, nat_tests); lone_0 = λ z. absurd (grind (arith, nat_tests)); value = grind (arith, nat_tests) }

pub reads_only_written : ReadsOnlyWritten
reads_only_written bs n e =
    let k = is_numeral bs n e in
    let v = digits_value_short values bs 7 k.digits k.short in
    (sym (decimal-digits_value values bs k.digits k.some k.lone_0 (omega arith)) ∙ ap decimal k.value, omega (arith, k.value))
