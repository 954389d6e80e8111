-- what the check does not find by itself
use Rattle.std.proofs.Common.{rules}
use Rattle.std.proofs.Math.Seq.{map-set, take-set-lt}
use Rattle.rows.proofs.rows.keeping.RowVaultVault.write.Goals as goal

pub returns-clause-entries : goal.returns-clause-entries
returns-clause-entries c = search (rules, map-set, take-set-lt)
