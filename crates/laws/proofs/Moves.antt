-- A step changes the record of its site and no other.
use Rattle.std.proofs.Common.{◌≡◌, ℕ, ◌≢◌, List, length, get_or, set, Ok, Err, Result, refl, ap, subst, ⊎_elim, le_refl}
use native.Mathlib.Decide.{ℕ_discrete}
use Rattle.std.proofs.lemmas.List.{get_or-set_same, get_or-set_other, set_past}
use Rattle.std.proofs.lemmas.Bool.{cases_lt}
use Rattle.sites.specs.declared.refusal.Refusal.{Refusal}
use Rattle.rules.specs.Plans.{Plan}
use Rattle.rules.specs.Entries.{Entry, Lawful}
use Rattle.rules.specs.World.{World, no_entry, entry_at, applied, admitted, after_of}
use Rattle.laws.specs.Laws.{Risen, SameIfDecided}
use Rattle.laws.proofs.Held.{Held, held_admitted}
use Rattle.laws.proofs.Steps.{Fits}

-- what a call on the site s makes of the records; where G holds, a decision stays
pub record Moved (G : Type 0) (s : ℕ) (w w' : World) : Type 0 where
  pub others : (t : ℕ) → t ≢ s → entry_at w' t ≡ entry_at w t
  pub rises : (t : ℕ) → Lawful (entry_at w t) → Risen (entry_at w t) (entry_at w' t)
  pub lawful : (t : ℕ) → Lawful (entry_at w t) → Lawful (entry_at w' t)
  pub decides : G → (t : ℕ) → SameIfDecided (entry_at w t) (entry_at w' t)

-- a relation that holds of the step and of a record that stays holds at every site
pub at_every : (Q : Entry → Entry → Type 0) (es : List Entry) (s : ℕ) (e : Entry) →
    ((x : Entry) → Q x x) → Q (get_or es s no_entry) e → (t : ℕ) → Q (get_or es t no_entry) (get_or (set es s e) t no_entry)
at_every Q es s e same step t =
    elim (ℕ_discrete t s) [
      | yes h ↦ rw h (⊎_elim
          (λ lt. rw (get_or-set_same es s e no_entry lt) step)
          (λ past. rw (set_past es s e past) (same (get_or es s no_entry)))
          (cases_lt s (length es)))
      | no h ↦ rw (get_or-set_other es s t e no_entry h) (same (get_or es t no_entry))
    ]

risen_same : (e : Entry) → Risen e e
risen_same e = record { elected = le_refl e.elected; attempt = le_refl e.attempt }

-- no record is written
pub unmoved : (G : Type 0) (s : ℕ) (w w' : World) → w'.entries ≡ w.entries → Moved G s w w'
unmoved G s w w' h = record {
  others = λ t d. ap (λ (es : List Entry). get_or es t no_entry) h;
  rises = λ t l. rw h (risen_same (entry_at w t));
  lawful = λ t l. rw h l;
  decides = λ g t d. ap (λ (es : List Entry). (get_or es t no_entry).state) h;
}

applied_moved : (G : Type 0) (w : World) (p : Plan) → Fits G p.site (entry_at w p.site) p → Moved G p.site w (applied w p)
applied_moved G w p f = record {
  others = λ t d. get_or-set_other w.entries p.site t p.own no_entry d;
  rises = at_every (λ e e'. Lawful e → Risen e e') w.entries p.site p.own (λ e l. risen_same e) f.rises;
  lawful = at_every (λ e e'. Lawful e → Lawful e') w.entries p.site p.own (λ e l. l) f.lawful;
  decides = λ g. at_every SameIfDecided w.entries p.site p.own (λ e d. refl) (f.decides g);
}

plan_moved : (G : Type 0) (s : ℕ) (w : World) (x : Result Plan Refusal) → Held (Fits G s (entry_at w s)) x → Moved G s w (after_of w x)
plan_moved G s w (Ok p) h =
    subst (λ t. Fits G t (entry_at w t) p → Moved G t w (applied w p)) h.own_site (applied_moved G w p) h
plan_moved G s w (Err r) h = unmoved G s w w refl

-- a step that fits moves the records so, when it is admitted
pub admitted_moved : (G : Type 0) (s l : ℕ) (w : World) (x : Result Plan Refusal) → Held (Fits G s (entry_at w s)) x → Moved G s w (after_of w (admitted l w x))
admitted_moved G s l w x h = plan_moved G s w (admitted l w x) (held_admitted (Fits G s (entry_at w s)) l w x h)
