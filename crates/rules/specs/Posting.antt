-- What goes into the message list.
use Rattle.std.specs.Prelude.{ℕ, zero, suc, ◌+◌, min, Bool, cond, List, [], ◌∷◌, ◌++◌, length, nat_le, slice_set}
use Rattle.sites.specs.Sets.{has, size}
use Rattle.rules.specs.declared.message.Kind.{Kind}
use Rattle.rules.specs.declared.message.Message.{Message}

abbrev pub message : Kind → ℕ → ℕ → ℕ → Message
message k n from to = record { kind = k; number = n; sender = from; receiver = to }

-- one message to each site of a set below s, in rising order
unfoldable pub broadcast_below : ℕ → Kind → ℕ → ℕ → ℕ → List Message
broadcast_below zero k n from x = []
broadcast_below (suc s) k n from x = broadcast_below s k n from x ++ cond (has x s) (message k n from s ∷ []) []

-- one message to each site of a set
abbrev pub broadcast : Kind → ℕ → ℕ → ℕ → List Message
broadcast k n from x = broadcast_below 16 k n from x

-- the list with new messages from the place i on
abbrev pub written : List Message → ℕ → List Message → List Message
written xs i [] = xs
written xs i (m ∷ ms) = written (slice_set xs i m) (i + 1) ms

-- how many places of a list of that length count
abbrev pub counting : ℕ → ℕ
counting k = min k 4096

abbrev pub places : List Message → ℕ
places ms = counting (length ms)

-- a list of k places, of which n are taken, has one more for each site of the set x
abbrev pub room : ℕ → ℕ → ℕ → Bool
room k n x = nat_le (n + size x) (counting k)
