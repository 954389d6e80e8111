-- what the check does not find by itself
use Rattle.sites.proofs.Overlaps.{meets_shared, shared_meets}
use Rattle.sites.proofs.laws.meeting.Goals as goal

pub returns : goal.returns
returns c = λ x y. (meets_shared x y, shared_meets x y)
