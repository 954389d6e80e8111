-- what the check does not find by itself
use Rattle.std.proofs.Common.{◌+◌, drop, refl, sym}
use Rattle.std.proofs.lemmas.List.{take_rest}
use Rattle.tokens.specs.Text.{lines}
use Rattle.tokens.proofs.Cuts.{first_number, next_row}
use Rattle.tokens.proofs.reader.Reader.next_line.Goals as goal

pub returns-clause-told : goal.returns-clause-told
returns-clause-told c =
    let r = c.self.inside in
    let e = next_row r.input.now r.at r.line _ c.if-self.false (rw take_rest at c.up_to-line.ensures) in
    rw (← c.self.view_is, e, c.new-fields.ensures) refl

pub returns-clause-passes : goal.returns-clause-passes
returns-clause-passes c =
    let r = c.self.inside in
    let e = next_row r.input.now r.at r.line _ c.if-self.false (rw take_rest at c.up_to-line.ensures) in
    rw (← c.self.view_is, e, c.min-self-inside.ensures) refl

pub returns-clause-follows : goal.returns-clause-follows
returns-clause-follows c =
    let r = c.self.inside in
    rw (c.new-fields.ensures, c.min-self-inside.ensures) (first_number (r.line + 1) _)

pub returns-clause-numbered : goal.returns-clause-numbered
returns-clause-numbered c =
    let r = c.self.inside in
    (r.line, (lines (drop r.at r.input.now), sym c.self.view_is))
