-- what the check does not find by itself
use Rattle.std.proofs.Common.{sym, arith}
use Rattle.sites.proofs.Marks.{has_below}
use Rattle.sites.proofs.set.without_site.Goals as goal

pub overflow_shl-result : goal.overflow_shl-result
overflow_shl-result c = has_below 32 c.args.sites c.args.site (omega arith) (sym c.if-not-has.ensures)
