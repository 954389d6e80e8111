-- what the check does not find by itself
use Rattle.std.proofs.Common.{arith}
use Rattle.number.proofs.Digits.{six_digits}
use Rattle.number.proofs.digits_on.Goals as goal

pub overflow_mul-number : goal.overflow_mul-number
overflow_mul-number c = omega (arith, six_digits _ _ c.loop-byte.invariant.0 (omega arith))

pub overflow_add-number : goal.overflow_add-number
overflow_add-number c = grind (arith, six_digits _ _ c.loop-byte.invariant.0 (omega arith))
