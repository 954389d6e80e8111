-- what the check does not find by itself
use Rattle.std.proofs.Common.{rules}
use Rattle.rows.proofs.Fills.{filled_entries, filled_rows}
use Rattle.rows.proofs.rows.RowVault.new.Goals as goal

pub returns-clause-stored : goal.returns-clause-stored
returns-clause-stored c = let filled = c.fill.ensures.after (λ y e. e) in search (rules, filled_entries)

pub returns-clause-memory : goal.returns-clause-memory
returns-clause-memory c = let filled = c.fill.ensures.after (λ y e. e) in search (rules, filled_rows)
