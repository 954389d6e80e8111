-- what the check does not find by itself
use Rattle.std.proofs.Common.{rules}
use Rattle.journal.proofs.Fills.{filled_length, filled_order, filled_used, filled_slots, filled_entries}
use Rattle.journal.proofs.journal.JournalVault.new.Goals as goal

pub invariant_of-result-2 : goal.invariant_of-result-2
invariant_of-result-2 c = search (rules, filled_length, filled_order)

pub returns-clause-stored : goal.returns-clause-stored
returns-clause-stored c = search (rules, filled_length, filled_entries)

pub returns-clause-used : goal.returns-clause-used
returns-clause-used c = search (rules, filled_used)

pub returns-clause-memory : goal.returns-clause-memory
returns-clause-memory c = search (rules, filled_slots)
