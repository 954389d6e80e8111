use Rattle.std.proofs.Common.{◌≡◌, take}
use Rattle.rules.specs.Entries.{plain}
use Rattle.journal.specs.Slots.{plain_slots, slots_of}
use Rattle.journal.proofs.journal.keeping.fill.Given as goal

abbrev pub invariant-loop-site : goal.invariant-loop-site
invariant-loop-site l = plain_slots (take l.site l.slots) ≡ slots_of l.site (plain l.own)
