-- what the check does not find by itself
use Rattle.number.proofs.Laws.{reads_written, reads_only_written}
use Rattle.number.proofs.numerals_stand.Goals as goal

pub returns : goal.returns
returns c = record { written = reads_written; only = reads_only_written }
