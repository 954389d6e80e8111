-- what the check does not find by itself
use Rattle.std.proofs.Common.{◌/◌, ◌^◌, sym, ◌∙◌, arith}
use Rattle.std.proofs.lemmas.Bool.{le-leb, eq-eqb}
use Rattle.sites.proofs.Marks.{small_none}
use Rattle.sites.proofs.set.known.Goals as goal

pub returns-then-count-ge32 : goal.returns-then-count-ge32
returns-then-count-ge32 c =
    le-leb 32 c.args.count (omega arith)
    ∙ sym
    (eq-eqb (c.args.sites / 2 ^ c.args.count) 0
    (small_none 32 c.args.sites c.args.count (omega arith) (omega arith)))
