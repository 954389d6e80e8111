-- what the check does not find by itself
use Rattle.std.proofs.Common.{◌≡◌, ℕ, ◌+◌, ◌-◌, ◌≤◌, List, get_or, drop, sym, ap, ◌∙◌, arith}
use Rattle.std.proofs.lemmas.List.{get_or-drop, get_or-take}
use Rattle.journal.specs.declared.slot.Slot.{Slot}
use Rattle.journal.proofs.laws.append_only.Goals as goal

-- what stands past the place n
past : (n : ℕ) (xs : List Slot) (k : ℕ) (d : Slot) → n ≤ k → get_or (drop n xs) (k - n) d ≡ get_or xs k d
past n xs k d h =
    let place : n + (k - n) ≡ k = omega arith in
    get_or-drop n xs (k - n) d ∙ ap (λ j. get_or xs j d) place

pub returns : goal.returns
returns c =
    λ v v' h.
    let xs = v.slots.now in
    let ys = v'.slots.now in (
      h.grown,
      (λ k l d. sym (get_or-take v.used ys k d l) ∙ ap (λ t. get_or t k d) h.before ∙ get_or-take v.used xs k d l),
      (λ k l d. sym (past v'.used ys k d l) ∙ ap (λ t. get_or t (k - v'.used) d) h.after ∙ past v'.used xs k d l),
    )
