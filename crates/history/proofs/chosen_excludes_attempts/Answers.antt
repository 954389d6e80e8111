-- what the check does not find by itself
use Rattle.history.proofs.Agreement.{chosen_excludes_attempts}
use Rattle.history.proofs.chosen_excludes_attempts.Goals as goal

pub returns : goal.returns
returns c = chosen_excludes_attempts
