-- The number that stands for each refusal.
use Rattle.std.specs.Prelude.{ℕ}
use Rattle.sites.specs.declared.refusal.Refusal.{Refusal}
use Rattle.sites.specs.declared.refusal.Refusal.TheVariants as refusal

abbrev pub number : Refusal → ℕ
number refusal.Unreadable = 1
number refusal.SiteCount = 2
number refusal.PolicyRange = 3
number refusal.NoCrossing = 4
number refusal.Mismatch = 5
number refusal.UnknownSite = 6
number refusal.NoMessage = 7
number refusal.WrongKind = 8
number refusal.WrongPower = 9
number refusal.Stale = 10
number refusal.Unfit = 11
number refusal.Undecided = 12
number refusal.NumbersSpent = 13
number refusal.ListFull = 14
number refusal.VaultFull = 15
number refusal.BytesShort = 16
