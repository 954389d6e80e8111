-- what the check does not find by itself
use Rattle.std.proofs.Common.{◌%◌, sym, ap, ◌∙◌, arith}
use Rattle.std.proofs.lemmas.Bool.{le-ltb}
use Rattle.sites.proofs.Marks.{not_has, small_none}
use Rattle.sites.proofs.set.has.Goals as goal

pub returns-else-site-lt32 : goal.returns-else-site-lt32
returns-else-site-lt32 c =
    le-ltb c.args.site 32 (omega arith)
    ∙ sym
    (not_has c.args.sites c.args.site
    (ap (λ n. n % 2) (small_none 32 c.args.sites c.args.site (omega arith) (omega arith))))
