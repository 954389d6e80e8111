-- The newest records of a journal, and the slots that they are in.
use Rattle.std.proofs.Common.{◌≡◌, ℕ, zero, suc, Bor, ◌+◌, ◌-◌, ◌<◌, ◌≤◌, Some, None, Option, List, [], ◌∷◌, ◌++◌, length, get_or, take, drop, replicate, refl, sym, ap, ap₂, subst, ◌∙◌, ⊎_elim, arith, length-set, get_or-set_other, get_or-set_same}
use Rattle.std.specs.List.{fold}
use Rattle.std.specs.Option.{option_map, option_or, unwrap_or}
use Rattle.std.proofs.lemmas.List.{drop-take, map_more, map-append, take-append-drop, take-take}
use Rattle.std.proofs.lemmas.List.Folds.{find-append}
use Rattle.std.proofs.lemmas.List.Sums.{fold_push, fold-append}
use Rattle.std.proofs.lemmas.Bool.{cases_eq}
use Rattle.std.proofs.lemmas.Bool.Decides.{nat_tests}
use Rattle.std.proofs.lemmas.Grind.{common_steps, reverse_onto}
use Rattle.rules.specs.Entries.{Entry, plain}
use Rattle.rules.specs.World.{no_entry}
use Rattle.journal.specs.Facts.{length_newest}
use Rattle.journal.specs.Slots.{slot, plain_slot, plain_slots, InOrder, put, newest, last_of}
use Rattle.journal.specs.declared.slot.Slot.{Slot}

-- the record of a slot, where there is one
abbrev pub own_or : Option Slot → Entry → Entry
own_or (Some x) e = plain x.own
own_or None e = e

pub own_or-unwrap : (o : Option (Bor Slot)) (r : Bor Slot) → plain (unwrap_or o r).now.own ≡ own_or (option_map (λ x. x.now) o) (plain r.now.own)
own_or-unwrap (Some x) r = refl
own_or-unwrap None r = refl

own_or-or : (o p : Option Slot) (e : Entry) → own_or (option_or o p) e ≡ own_or o (own_or p e)
own_or-or (Some x) p e = refl
own_or-or None p e = refl

last_of-cons : (s : ℕ) (x : Slot) (xs : List Slot) → last_of s (x ∷ xs) ≡ option_or (last_of s xs) (last_of s (x ∷ []))
last_of-cons s x xs = grind (arith, find-append, reverse_onto)

-- one slot more is the newest of its site, and of no other
put_at : (s : ℕ) (es : List Entry) (x : Slot) → s < length es → get_or (put es (plain_slot x)) s no_entry ≡ own_or (last_of s (x ∷ [])) (get_or es s no_entry)
put_at s es x h = grind (arith, common_steps, nat_tests)

-- the newest record of a site is in its last slot
pub found_back : (s : ℕ) (xs : List Slot) (es : List Entry) → s < length es → get_or (fold put es (plain_slots xs)) s no_entry ≡ own_or (last_of s xs) (get_or es s no_entry)
found_back s [] es h = refl
found_back s (x ∷ xs) es h =
    let e = get_or es s no_entry in
    found_back s xs (put es (plain_slot x)) (omega (arith, length-set es x.site (plain x.own)))
    ∙ ap (own_or (last_of s xs)) (put_at s es x h)
    ∙ sym (own_or-or (last_of s xs) (last_of s (x ∷ [])) e)
    ∙ ap (λ o. own_or o e) (sym (last_of-cons s x xs))

-- among the first i slots there is a newest of the site s, and its record is the one that is left
pub record Found (n : ℕ) (xs : List Slot) (i s : ℕ) (d : Slot) : Type 0 where
  pub at : ℕ
  pub within : at < i
  pub owner : (get_or xs at d).site ≡ s
  pub last : (j : ℕ) → at < j → j < i → (get_or xs j d).site ≡ s → ⊥
  pub left : get_or (newest n (plain_slots (take i xs))) s no_entry ≡ plain (get_or xs at d).own

module _ (n : ℕ) (xs : List Slot) (s : ℕ) (d : Slot) (known : s < n) where
  one_more : (i : ℕ) → i < length xs → newest n (plain_slots (take (i + 1) xs)) ≡ put (newest n (plain_slots (take i xs))) (plain_slot (get_or xs i d))
  one_more i h =
      ap (newest n) (map_more plain_slot xs i d h)
      ∙ fold_push put (replicate n no_entry) (plain_slots (take i xs)) (plain_slot (get_or xs i d))

  -- one slot more, of the site
  found_here : (i : ℕ) → i < length xs → (get_or xs i d).site ≡ s → Found n xs (i + 1) s d
  found_here i h same = record {
    at = i;
    within = omega arith;
    owner = same;
    last = λ j a b. absurd (omega arith);
    left =
        let ws = plain_slots (take i xs) in
        let e = plain (get_or xs i d).own in
        ap (λ t. get_or t s no_entry) (one_more i h)
        ∙ ap (λ k. get_or (put (newest n ws) (slot k e)) s no_entry) same
        ∙ get_or-set_same (newest n ws) s e no_entry (omega (arith, length_newest n ws));
  }

  -- one slot more, of another site
  found_before : (i : ℕ) → i < length xs → ((get_or xs i d).site ≡ s → ⊥) → Found n xs i s d → Found n xs (i + 1) s d
  found_before i h other f = record {
    at = f.at;
    within = omega (arith, f.within);
    owner = f.owner;
    last = λ j a b is.
        ⊎_elim (λ (e : j ≡ i). other (ap (λ k. (get_or xs k d).site) (sym e) ∙ is)) (λ (e : j ≡ i → ⊥). f.last j a (omega arith) is) (cases_eq j i);
    left =
        let x = get_or xs i d in
        ap (λ t. get_or t s no_entry) (one_more i h)
        ∙ get_or-set_other (newest n (plain_slots (take i xs))) x.site s (plain x.own) no_entry (λ e. other (sym e))
        ∙ f.left;
  }

  -- the first n slots are in order, so there is one once they are read
  pub newest_below : InOrder n xs → (i : ℕ) → i ≤ length xs → s < i → Found n xs i s d
  newest_below e zero m g = absurd (omega arith)
  newest_below e (suc i) m g =
      subst (λ k. Found n xs k s d) (omega arith)
      (⊎_elim (λ (same : (get_or xs i d).site ≡ s). found_here i (omega arith) same)
      (λ (other : (get_or xs i d).site ≡ s → ⊥).
      let apart : s ≡ i → ⊥ = λ is. other (ap (λ k. (get_or xs k d).site) (sym is) ∙ e s d known) in
      found_before i (omega arith) other (newest_below e i (omega arith) (omega arith)))
      (cases_eq (get_or xs i d).site s))

-- of the first n slots it is the one in order
pub first_at : (n : ℕ) (xs : List Slot) (s : ℕ) (d : Slot) → s < n → InOrder n xs → n ≤ length xs → get_or (newest n (plain_slots (take n xs))) s no_entry ≡ plain (get_or xs s d).own
first_at n xs s d l e h =
    let f = newest_below n xs s d l e n h l in
    f.left ∙ ap (λ k. plain (get_or xs k d).own) (sym (e f.at d f.within) ∙ f.owner)

-- and of the first u slots the last one behind those, if there is one
pub newest_at : (n u : ℕ) (xs : List Slot) (s : ℕ) (d : Slot) → s < n → InOrder n xs → n ≤ u → u ≤ length xs → get_or (newest n (plain_slots (take u xs))) s no_entry ≡ own_or (last_of s (take (u - n) (drop n xs))) (plain (get_or xs s d).own)
newest_at n u xs s d l e h m =
    let later = take (u - n) (drop n xs) in
    let all : n + (u - n) ≡ u = omega arith in
    let split : take u xs ≡ take n xs ++ later =
    sym (take-append-drop n (take u xs))
    ∙ ap₂ ◌++◌ (take-take n u xs h) (ap (λ k. drop n (take k xs)) (sym all) ∙ drop-take n (u - n) xs) in
    let first = plain_slots (take n xs) in
    ap (λ t. get_or (newest n (plain_slots t)) s no_entry) split
    ∙ ap (λ t. get_or (newest n t) s no_entry) (map-append plain_slot (take n xs) later)
    ∙ ap (λ t. get_or t s no_entry) (fold-append put (replicate n no_entry) first (plain_slots later))
    ∙ found_back s later (newest n first) (omega (arith, length_newest n first))
    ∙ ap (own_or (last_of s later)) (first_at n xs s d l e (omega arith))
