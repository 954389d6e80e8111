-- what the check does not find by itself
use Rattle.history.proofs.Validity.{decided_is_settled}
use Rattle.history.proofs.decided_is_settled.Goals as goal

pub returns : goal.returns
returns c = decided_is_settled
