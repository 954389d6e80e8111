-- A text is cut at its first newline, and a line at its first comma.
use Rattle.std.proofs.Common.{◌≡◌, ℕ, suc, ◌+◌, ◌-◌, ◌<◌, ◌≤◌, Bool, true, false, eqb, ltb, leb, min, is_some, IfSome, slice_get, List, [], ◌∷◌, length, drop, refl, sym, ap, ◌∙◌, one-add, arith}
use Rattle.std.specs.List.{before_first, position_or_len, onto_first}
use Rattle.std.proofs.lemmas.List.{drop-drop, drop_min, length-drop, length-take-le}
use Rattle.std.proofs.lemmas.List.Sums.{prefix_len-le-length}
use Rattle.std.proofs.lemmas.Bool.{le-leb}
use Rattle.std.proofs.lemmas.Bool.Decides.{nat_tests}
use Rattle.tokens.specs.Text.{lines, fields}
use Rattle.tokens.specs.Rows.{row, rows, place_at}
use Rattle.tokens.specs.Ahead.{fields_from}

abbrev newline : ℕ → Bool
newline b = eqb b 10

abbrev comma : ℕ → Bool
comma b = eqb b 44

first_line : (bs : List ℕ) → 0 < length bs → lines bs ≡ before_first newline bs ∷ lines (drop (position_or_len newline bs + 1) bs)
first_line [] h = absurd (omega arith)
first_line (b ∷ []) h = go (eqb b 10) refl
  where
    go : (v : Bool) → eqb b 10 ≡ v → lines (b ∷ []) ≡ before_first newline (b ∷ []) ∷ lines (drop (position_or_len newline (b ∷ []) + 1) (b ∷ []))
    go true q = rw q
    go false q = rw q
first_line (b ∷ c ∷ cs) h = go (eqb b 10) refl (first_line (c ∷ cs) (omega arith))
  where
    go : (v : Bool) → eqb b 10 ≡ v → lines (c ∷ cs) ≡ before_first newline (c ∷ cs) ∷ lines (drop (position_or_len newline (c ∷ cs) + 1) (c ∷ cs)) → lines (b ∷ c ∷ cs) ≡ before_first newline (b ∷ c ∷ cs) ∷ lines (drop (position_or_len newline (b ∷ c ∷ cs) + 1) (b ∷ c ∷ cs))
    go true q more = rw q
    go false q more =
        let n = position_or_len newline (c ∷ cs) in
        let e : drop (1 + n + 1) (b ∷ c ∷ cs) ≡ drop (n + 1) (c ∷ cs) = ap (λ k. drop k (b ∷ c ∷ cs)) (let h : 1 + n + 1 ≡ suc (n + 1) = omega arith in h) in
        rw (q, e, one-add) (ap (onto_first b) more)

-- the first of the rows of some lines has the number that they are counted from
pub first_number : (n : ℕ) (ls : List (List ℕ)) → IfSome (slice_get (rows n ls) 0) (λ r. r.place.line ≡ n)
first_number n [] = tt
first_number n (l ∷ ls) = refl

some_row : (n : ℕ) (bs : List ℕ) → ltb 0 (length bs) ≡ is_some (slice_get (rows n (lines bs)) 0)
some_row n [] = refl
some_row n (b ∷ bs) =
    let t : ltb 0 (suc (length bs)) ≡ true = grind (arith, nat_tests) in
    rw (first_line (b ∷ bs) (omega arith)) t

-- a row is left where the next line begins before the end of the text
pub row_left : (s : List ℕ) (at n : ℕ) → ltb at (length s) ≡ is_some (slice_get (rows n (lines (drop at s))) 0)
row_left s at n =
    let t : ltb at (length s) ≡ ltb 0 (length s - at) = grind (arith, nat_tests) in
    t ∙ rw (← length-drop at s) (some_row n (drop at s))

from_within : (at : ℕ) (bs : List ℕ) → at ≤ length bs → fields_from at bs ≡ fields (drop at bs)
from_within at bs h = rw (le-leb at (length bs) h)

-- the fields from place k of what stands from `at` on
from_later : (k at : ℕ) (bs : List ℕ) → at ≤ length bs → fields_from k (drop at bs) ≡ fields_from (at + k) bs
from_later k at bs h =
    let t : leb k (length bs - at) ≡ leb (at + k) (length bs) = grind (arith, nat_tests) in
    rw (length-drop at bs, drop-drop k at bs, t)

first_field : (bs : List ℕ) → fields bs ≡ before_first comma bs ∷ fields_from (position_or_len comma bs + 1) bs
first_field [] = refl
first_field (b ∷ bs) = go (eqb b 44) refl (first_field bs)
  where
    go : (v : Bool) → eqb b 44 ≡ v → fields bs ≡ before_first comma bs ∷ fields_from (position_or_len comma bs + 1) bs → fields (b ∷ bs) ≡ before_first comma (b ∷ bs) ∷ fields_from (position_or_len comma (b ∷ bs) + 1) (b ∷ bs)
    go true q more = rw q (ap (λ fs. [] ∷ fs) (sym (from_within 0 bs (omega arith)) ∙ from_later 0 1 (b ∷ bs) (omega arith)))
    go false q more =
        let n = position_or_len comma bs in
        let e : fields_from (n + 1) bs ≡ fields_from (1 + n + 1) (b ∷ bs) = from_later (n + 1) 1 (b ∷ bs) (omega arith) ∙ ap (λ k. fields_from k (b ∷ bs)) (omega arith) in
        rw (q, ← e, one-add) (ap (onto_first b) more)

-- the part before the first byte of a kind is no longer than the whole
part_length : (p : ℕ → Bool) (bs : List ℕ) → length (before_first p bs) ≡ position_or_len p bs
part_length p bs = length-take-le (position_or_len p bs) bs (prefix_len-le-length _ bs)

-- the reader is at `at` in s, and the line that begins there is cut off
module _ (s : List ℕ) (at n : ℕ) (line : List ℕ) (l : at < length s) (e : line ≡ before_first newline (drop at s)) where
  rest : drop (position_or_len newline (drop at s) + 1) (drop at s) ≡ drop (min (at + length line + 1) (length s)) s
  rest =
      let k : length line ≡ position_or_len newline (drop at s) = rw e (part_length newline (drop at s)) in
      drop-drop (position_or_len newline (drop at s) + 1) at s ∙ ap (λ k. drop k s) (omega arith) ∙ sym (drop_min (at + length line + 1) s)

  pub next_row : rows n (lines (drop at s)) ≡ row (place_at n 1) (fields line) ∷ rows (n + 1) (lines (drop (min (at + length line + 1) (length s)) s))
  next_row =
      ap (rows n) (first_line (drop at s) (let d = length-drop at s in omega arith)) ∙ ap (λ f. row (place_at n 1) (fields f) ∷ rows (n + 1) (lines (drop (position_or_len newline (drop at s) + 1) (drop at s)))) (sym e) ∙ ap (λ bs. row (place_at n 1) (fields line) ∷ rows (n + 1) (lines bs)) rest

-- the reader is at `at` in the line s, and the field that begins there is cut off
module _ (s : List ℕ) (at : ℕ) (field : List ℕ) (l : at ≤ length s) (e : field ≡ before_first comma (drop at s)) where
  pub next_field : fields_from at s ≡ field ∷ fields_from (at + (length field + 1)) s
  next_field =
      let k : length field ≡ position_or_len comma (drop at s) = rw e (part_length comma (drop at s)) in
      from_within at s l ∙ first_field (drop at s) ∙ ap (λ f. f ∷ fields_from (position_or_len comma (drop at s) + 1) (drop at s)) (sym e)
      ∙ ap (λ fs. field ∷ fs) (from_later (position_or_len comma (drop at s) + 1) at s l ∙ ap (λ k. fields_from k s) (omega arith))
