-- what the check does not find by itself
use Rattle.history.proofs.Agreement.{decisions_agree}
use Rattle.history.proofs.decisions_agree.Goals as goal

pub returns : goal.returns
returns c = decisions_agree
