-- what the check does not find by itself
use Rattle.std.proofs.Common.{List, [], ◌∷◌, ◌++◌, take, sym, ap, ◌∙◌, arith}
use Rattle.std.proofs.lemmas.List.{map-append, take_more_set}
use Rattle.std.proofs.lemmas.List.FromFn.{map-range_with_len_more}
use Rattle.rules.specs.Entries.{plain}
use Rattle.journal.specs.Slots.{Written, slot, plain_slot, plain_slots}
use Rattle.journal.specs.declared.slot.Slot.{Slot}
use Rattle.journal.proofs.journal.keeping.fill.Goals as goal

pub loop-site-preserved : goal.loop-site-preserved
loop-site-preserved c =
    let l = c.loop-site in
    let e = plain c.args.own in
    let x : Slot = record { site = l.site; own = c.args.own } in
    ap plain_slots (take_more_set l.slots l.site x (omega arith)) ∙ map-append plain_slot (take l.site l.slots) (x ∷ [])
    ∙ ap (λ (t : List Written). t ++ (slot l.site e ∷ [])) l.invariant
    ∙ sym (map-range_with_len_more (λ s. slot s e) 0 l.site l.site (omega arith))
