use Rattle.std.proofs.Common.{◌≡◌, ◌+◌, ◌^◌, ◌<◌, drop}
use Rattle.number.specs.Numbers.{more_digits}
use Rattle.number.proofs.digits_on.Given as goal

abbrev pub invariant-loop-byte : goal.invariant-loop-byte
invariant-loop-byte l = (l.number < 10 ^ (l.byte-index + 1)) × (more_digits l.number (drop l.byte-index l.rest) ≡ more_digits l.lead l.rest)
