-- Lines as rows of fields, and the tokens that they give.
use Rattle.std.specs.Prelude.{◌≡◌, ℕ, ◌+◌, List, [], ◌∷◌, Some, None, Option}
use Rattle.number.specs.Numbers.{numeral}
use Rattle.tokens.specs.declared.token.Place.{Place}
use Rattle.tokens.specs.Text.{fields}

-- a line, or what is left of one: its fields, and the place of the first of them
pub record Row : Type 0 where
  pub place : Place
  pub fields : List (List ℕ)

abbrev pub place_at : ℕ → ℕ → Place
place_at l f = record { line = l; field = f }

abbrev pub row : Place → List (List ℕ) → Row
row p fs = record { place = p; fields = fs }

-- the lines as rows, numbered from n on
abbrev pub rows : ℕ → List (List ℕ) → List Row
rows n [] = []
rows n (l ∷ ls) = row (place_at n 1) (fields l) ∷ rows (n + 1) ls

-- the rows of some lines, numbered one after another
abbrev pub AreNumbered : List Row → Type 0
AreNumbered rs = (n : ℕ) × ((ls : List (List ℕ)) × (rs ≡ rows n ls))

-- a token, by what it holds
pub data Seen : Type 0 where
  word : List ℕ → Place → Seen
  number : List ℕ → ℕ → Place → Seen
  end : Place → Seen

abbrev pub field_seen : Option ℕ → List ℕ → Place → Seen
field_seen None f p = word f p
field_seen (Some n) f p = number f n p

abbrev pub first_of : Place → List (List ℕ) → Seen
first_of p [] = end p
first_of p (f ∷ fs) = field_seen (numeral f) f p

-- the first token of a row
abbrev pub token : Row → Seen
token r = first_of r.place r.fields

abbrev pub rest_of : Place → List (List ℕ) → Row
rest_of p [] = row p []
rest_of p (f ∷ fs) = row (place_at p.line (p.field + 1)) fs

-- what follows it: the end is not passed
abbrev pub past : Row → Row
past r = rest_of r.place r.fields
