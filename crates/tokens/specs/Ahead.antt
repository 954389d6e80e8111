-- What a reader of lines and a reader of fields have ahead of them.
use Rattle.std.specs.Prelude.{ℕ, ◌+◌, ◌^◌, ◌<◌, ◌≤◌, cond, List, [], length, drop, nat_le}
use Rattle.tokens.specs.declared.reader.Reader.TheInside as reader
use Rattle.tokens.specs.declared.fields.Fields.TheInside as fields
use Rattle.tokens.specs.Text.{lines, fields}
use Rattle.tokens.specs.Rows.{Row, row, rows}

-- the lines from the next on
abbrev pub lines_ahead : reader.Inside → List Row
lines_ahead r = rows r.line (lines (drop r.at r.input.now))

-- the next line begins within the input or at its end, and each line before it took a byte or more
pub record WithinInput (r : reader.Inside) : Type 0 where
  pub within : r.at ≤ length r.input.now
  pub counted : r.line ≤ r.at + 1

-- the fields of a line from place `at` on, of which there are none past its end
abbrev pub fields_from : ℕ → List ℕ → List (List ℕ)
fields_from at bs = cond (nat_le at (length bs)) (fields (drop at bs)) []

-- the fields from the next on
abbrev pub fields_ahead : fields.Inside → Row
fields_ahead f = row f.place (fields_from f.at f.line.now)

-- the next field begins within the line, at its end or one past it, and each field before it took a byte or more; so did each line
-- before this one
pub record WithinLine (f : fields.Inside) : Type 0 where
  pub within : f.at ≤ length f.line.now + 1
  pub counted : f.place.field ≤ f.at + 1
  pub numbered : f.place.line < 2 ^ 63
