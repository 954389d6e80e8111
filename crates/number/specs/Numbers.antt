-- What a number field says.
use Rattle.std.specs.Prelude.{◌≡◌, ℕ, ◌+◌, ◌-◌, ◌*◌, ◌≤◌, cond, List, [], ◌∷◌, length, Some, None, decimal, Option, ◌==◌, nat_le}
use Rattle.std.specs.Char.{is_ascii_digit}

-- the number that n and the further digits bs write
abbrev pub more_digits : ℕ → List ℕ → Option ℕ
more_digits n [] = Some n
more_digits n (b ∷ bs) = cond (is_ascii_digit b) (more_digits (n * 10 + (b - 48)) bs) None

-- a digit that is not 0, and at most six more
abbrev pub led_by : ℕ → List ℕ → Option ℕ
led_by b bs = cond (is_ascii_digit b) (cond (nat_le (length bs) 6) (more_digits (b - 48) bs) None) None

-- 0 stands alone or not first
abbrev pub numeral : List ℕ → Option ℕ
numeral [] = None
numeral (b ∷ []) = cond (b == 48) (Some 0) (led_by b [])
numeral (b ∷ c ∷ bs) = cond (b == 48) None (led_by b (c ∷ bs))

-- a number of at most seven digits is read from what is written of it
abbrev pub ReadsWritten : Type 0
ReadsWritten = (n : ℕ) → n ≤ 9999999 → numeral (decimal n) ≡ Some n

-- and from no other text
abbrev pub ReadsOnlyWritten : Type 0
ReadsOnlyWritten = (bs : List ℕ) (n : ℕ) → numeral bs ≡ Some n → (bs ≡ decimal n) × (n ≤ 9999999)
