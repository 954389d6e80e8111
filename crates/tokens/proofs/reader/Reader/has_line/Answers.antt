-- what the check does not find by itself
use Rattle.tokens.proofs.Cuts.{row_left}
use Rattle.tokens.proofs.reader.Reader.has_line.Goals as goal

pub returns : goal.returns
returns c =
    let r = c.self.inside in
    rw (← c.self.view_is) (row_left r.input.now r.at r.line)
