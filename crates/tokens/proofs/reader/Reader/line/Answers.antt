-- what the check does not find by itself
use Rattle.std.proofs.Common.{drop}
use Rattle.tokens.specs.Text.{lines}
use Rattle.tokens.proofs.Cuts.{first_number}
use Rattle.tokens.proofs.reader.Reader.line.Goals as goal

pub returns-then-matches-clause-told : goal.returns-then-matches-clause-told
returns-then-matches-clause-told c =
    let r = c.self.inside in
    rw (← c.self.view_is) (first_number r.line (lines (drop r.at r.input.now)))
