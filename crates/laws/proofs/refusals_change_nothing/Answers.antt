-- what the check does not find by itself
use Rattle.laws.proofs.Refusals.{refusals_change_nothing}
use Rattle.laws.proofs.refusals_change_nothing.Goals as goal

pub returns : goal.returns
returns c = refusals_change_nothing
