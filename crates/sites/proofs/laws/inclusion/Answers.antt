-- what the check does not find by itself
use Rattle.sites.proofs.Overlaps.{includes_has, has_includes}
use Rattle.sites.proofs.laws.inclusion.Goals as goal

pub returns : goal.returns
returns c = λ x y. ((λ e s h. includes_has x y s e h), has_includes x y)
