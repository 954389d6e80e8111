-- A journal vault has one lawful record for each site, and its memory is only appended to.
use Rattle.std.specs.Prelude.{◌≡◌, ℕ, ◌+◌, ◌-◌, ◌≤◌, List, [], ◌∷◌, length, take, drop, replicate, slice_index_or, refl}
use Rattle.std.specs.List.{All, fold}
use Rattle.std.proofs.Common.{sym, ap, ◌∙◌, arith, length-set, take-take, drop-drop}
use Rattle.std.proofs.lemmas.List.{length-replicate}
use Rattle.std.proofs.lemmas.List.Elements.{All-head, All-map, All-replicate, All-set, All-tail}
use Rattle.rules.specs.Entries.{Entry, Lawful}
use Rattle.rules.specs.World.{no_entry}
use Rattle.vault.specs.Records.{lawful_none, lawful_at, lawful_plain}
use Rattle.journal.specs.Journal.{journal_stored, used_slots, Appended}
use Rattle.journal.specs.Slots.{Written, LawfulSlot, plain_slot, plain_slots, put, newest}
use Rattle.journal.specs.declared.journal.JournalVault.{JournalVault}
use Rattle.journal.specs.declared.slot.Slot.{Slot}

length_folded : (ws : List Written) (es : List Entry) → length (fold put es ws) ≡ length es
length_folded [] es = refl
length_folded (w ∷ ws) es = length_folded ws (put es w) ∙ length-set es w.site w.own

pub length_newest : (n : ℕ) (ws : List Written) → length (newest n ws) ≡ n
length_newest n ws = length_folded ws (replicate n no_entry) ∙ length-replicate n no_entry

pub journal_whole : (v : JournalVault) → length (journal_stored v).entries ≡ (journal_stored v).sites
journal_whole v = length_newest v.sites (used_slots v)

slots_lawful : (xs : List Slot) → All LawfulSlot (plain_slots xs)
slots_lawful xs = All-map LawfulSlot plain_slot xs (λ i d l. lawful_plain (slice_index_or xs i d).own)

lawful_folded : (ws : List Written) (es : List Entry) → All LawfulSlot ws → All Lawful es → All Lawful (fold put es ws)
lawful_folded [] es h l = l
lawful_folded (w ∷ ws) es h l =
    lawful_folded ws (put es w) (All-tail LawfulSlot w ws h) (All-set Lawful es w.site w.own (All-head LawfulSlot w ws h) l)

pub journal_lawful : (v : JournalVault) (s : ℕ) → Lawful (slice_index_or (journal_stored v).entries s no_entry)
journal_lawful v s =
    let start = All-replicate Lawful v.sites no_entry lawful_none in
    let written = slots_lawful (take v.used v.slots.now) in
    lawful_at (journal_stored v).entries (lawful_folded (used_slots v) (replicate v.sites no_entry) written start) s

pub appended_alike : (v : JournalVault) → Appended v v
appended_alike v = record { memory = refl; size = refl; sites = refl; grown = omega arith; before = refl; after = refl }

take_within : (m n : ℕ) (xs ys : List Slot) → m ≤ n → take n ys ≡ take n xs → take m ys ≡ take m xs
take_within m n xs ys h e = sym (take-take m n ys h) ∙ ap (take m) e ∙ take-take m n xs h

drop_within : (m n : ℕ) (xs ys : List Slot) → m ≤ n → drop m ys ≡ drop m xs → drop n ys ≡ drop n xs
drop_within m n xs ys h e =
    let apart : m + (n - m) ≡ n = omega arith in
    sym (ap (λ k. drop k ys) apart) ∙ sym (drop-drop (n - m) m ys) ∙ ap (drop (n - m)) e ∙ drop-drop (n - m) m xs
    ∙ ap (λ k. drop k xs) apart

pub appended_chained : (u v w : JournalVault) → Appended u v → Appended v w → Appended u w
appended_chained u v w h k = record {
  memory = k.memory ∙ h.memory;
  size = k.size ∙ h.size;
  sites = k.sites ∙ h.sites;
  grown = omega arith;
  before = take_within u.used v.used v.slots.now w.slots.now h.grown k.before ∙ h.before;
  after = k.after ∙ drop_within v.used w.used u.slots.now v.slots.now k.grown h.after;
}
