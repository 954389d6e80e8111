-- Filling the first slots with one record for each site.
use Rattle.std.proofs.Common.{◌≡◌, ℕ, ◌<◌, ◌≤◌, List, ◌++◌, length, get_or, take, drop, replicate, sym, ap, ◌∙◌, arith, length-take-le}
use Rattle.std.proofs.lemmas.List.FromFn.{get_or-map-range_with_len, length-map-range_with_len}
use Rattle.std.proofs.lemmas.List.{drop-map, ext_get_or, get_or-map, get_or-replicate, get_or-take, length-append, length-drop, length-map, length-replicate, map-append, take_at}
use Rattle.rules.specs.Entries.{Entry, plain}
use Rattle.rules.specs.World.{no_entry}
use Rattle.rules.specs.declared.record.Record.{Record}
use Rattle.journal.specs.Facts.{length_newest}
use Rattle.journal.specs.Slots.{Written, slot, plain_slot, plain_slots, slots_of, InOrder, newest}
use Rattle.journal.specs.declared.slot.Slot.{Slot}
use Rattle.journal.proofs.Replay.{first_at}

-- the first n of the slots xs are filled: they are the slots ys
module _ (n : ℕ) (r : Record) (xs ys : List Slot) (within : n ≤ length xs) (filled : plain_slots ys ≡ slots_of (length (take n xs)) (plain r)) where
  abbrev e : Entry
  e = plain r

  first : plain_slots ys ≡ slots_of n e
  first = filled ∙ ap (λ k. slots_of k e) (length-take-le n xs within)

  abbrev fresh : ℕ → Written
  fresh s = slot s e

  long : length ys ≡ n
  long = sym (length-map ys plain_slot) ∙ ap length first ∙ length-map-range_with_len fresh 0 n

  -- the first ones are these
  pub filled_used : plain_slots (take n (ys ++ drop n xs)) ≡ slots_of n e
  filled_used = ap plain_slots (take_at ys (drop n xs) n long) ∙ first

  pub filled_slots : plain_slots (ys ++ drop n xs) ≡ slots_of n e ++ drop n (plain_slots xs)
  filled_slots =
      map-append plain_slot ys (drop n xs) ∙ ap (λ t. t ++ plain_slots (drop n xs)) first
      ∙ ap (λ t. slots_of n e ++ t) (sym (drop-map plain_slot n xs))

  pub filled_length : length (ys ++ drop n xs) ≡ length xs
  filled_length = omega (arith, length-append ys (drop n xs), length-drop n xs, long)

  at : (s : ℕ) (d : Slot) → s < n → plain_slot (get_or (ys ++ drop n xs) s d) ≡ fresh s
  at s d h =
      ap plain_slot (sym (get_or-take n (ys ++ drop n xs) s d h) ∙ ap (λ t. get_or t s d) (take_at ys (drop n xs) n long))
      ∙ sym (get_or-map plain_slot ys s d (fresh s) (omega (arith, long))) ∙ ap (λ t. get_or t s (fresh s)) first
      ∙ get_or-map-range_with_len fresh 0 n s s (fresh s) h (omega arith)

  -- in the order of the sites
  pub filled_order : InOrder n (ys ++ drop n xs)
  filled_order s d h = ap (λ w. w.site) (at s d h)

  -- and the record is the newest of each site
  pub filled_entries : newest n (plain_slots (take n (ys ++ drop n xs))) ≡ replicate n e
  filled_entries =
      let d : Slot = record { site = 0; own = r } in
      let ws = plain_slots (take n (ys ++ drop n xs)) in
      ext_get_or no_entry (newest n ws) (replicate n e) (length_newest n ws ∙ sym (length-replicate n e))
      (λ s h.
      let low : s < n = omega (arith, length_newest n ws) in
      first_at n (ys ++ drop n xs) s d low filled_order (omega (arith, length-append ys (drop n xs), long)) ∙ ap (λ w. w.own) (at s d low)
      ∙ sym (get_or-replicate n s e no_entry low))
