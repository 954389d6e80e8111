-- No message goes to its own sender.
use Rattle.std.proofs.Common.{◌≡◌, ℕ, zero, suc, ◌+◌, ◌^◌, ◌<◌, ◌≤◌, Bool, true, false, cond, not, ◌&&◌, eqb, ltb, ◌≢◌, List, [], ◌∷◌, length, get_or, set, sym, refl, ap, ◌∙◌, arith}
use native.Mathlib.Decide.{ℕ_discrete}
use native.Mathlib.Nat.{min-le_left}
use Rattle.std.proofs.ByRecursion.{All-append}
use Rattle.std.proofs.lemmas.List.{get_or-set_same, get_or-set_other, length-set}
use Rattle.std.proofs.lemmas.Bool.{true≢false, cond_both, ne_eqb, eq-eqb}
use Rattle.std.specs.List.{AllByRecursion as All}
use Rattle.sites.proofs.Marks.{has_without, has_power, has_none}
use Rattle.sites.specs.Sets.{has, only, without_site, size}
use Rattle.rules.specs.Plans.{Plan}
use Rattle.rules.specs.Posting.{message, broadcast_below, broadcast, written}
use Rattle.rules.specs.World.{World, applied, no_message}
use Rattle.rules.specs.declared.message.Kind.{Kind}
use Rattle.rules.specs.declared.message.Message.{Message}
use Rattle.post.proofs.Sizes.{length_broadcast}
use Rattle.laws.proofs.Held.{Roomy}

abbrev pub Apart : Message → Type 0
Apart m = m.sender ≢ m.receiver

-- so it is with every message that was sent
abbrev pub AllApart : World → Type 0
AllApart w = (k : ℕ) → k < w.net.sent → Apart (get_or w.messages k no_message)

false_there : (b c : Bool) → c ≡ true → (b && not c) ≡ false
false_there true true h = refl
false_there false true h = refl
false_there true false h = absurd (true≢false (sym h))
false_there false false h = refl

-- a set without the site s has not s
pub without_itself : (x s : ℕ) → has (without_site x s) s ≡ false
without_itself x s = has_without x s s ∙ false_there (has x s) (eqb s s) (eq-eqb s s refl)

-- the set of one site has no other
pub only_other : (s k : ℕ) → s ≢ k → has (only s) k ≡ false
only_other s k d =
    cond_both (ltb s 16) (2 ^ s) 0 (λ x. has x k ≡ false)
    (λ _. has_power s k ∙ ne_eqb k s (λ e. d (sym e)))
    (λ _. has_none k)

-- one message, where the set has the site
one_apart : (b : Bool) (m : Message) → (b ≡ true → Apart m) → All Apart (cond b (m ∷ []) [])
one_apart true m h = (h refl, tt)
one_apart false m h = tt

below_apart : (s : ℕ) (k : Kind) (n from x : ℕ) → has x from ≡ false → All Apart (broadcast_below s k n from x)
unfolding broadcast_below
below_apart zero k n from x h = tt
below_apart (suc s) k n from x h =
    All-append Apart (broadcast_below s k n from x) (cond (has x s) (message k n from s ∷ []) []) (below_apart s k n from x h)
    (one_apart (has x s) (message k n from s) (λ t e. true≢false (sym t ∙ ap (λ y. has x y) (sym e) ∙ h)))

-- the places below i are so, and the new messages: then so are all places up to the last new one
written_apart : (xs : List Message) (i : ℕ) (new : List Message) → i + length new ≤ length xs → ((k : ℕ) → k < i → Apart (get_or xs k no_message)) → All Apart new →
    (k : ℕ) → k < i + length new → Apart (get_or (written xs i new) k no_message)
written_apart xs i [] fits h a k lt = h k (omega arith)
written_apart xs i (m ∷ new) fits h a k lt =
    let len = length-set xs i m in
    let less : i < length xs = omega arith in
    written_apart (set xs i m) (i + 1) new (omega arith)
    (λ j b. elim (ℕ_discrete j i) [
      | yes e ↦ rw e (rw (get_or-set_same xs i m no_message less) a.0)
      | no d ↦ rw (get_or-set_other xs i j m no_message d) (h j (omega arith))
    ])
    a.1 k (omega arith)

-- a step whose site is not among those that it sends to keeps it so
pub applied_apart : (w : World) (p : Plan) → Roomy w p → has p.to p.site ≡ false → AllApart w → AllApart (applied w p)
applied_apart w p room h all k lt =
    let new = broadcast p.kind p.own.elected p.site p.to in
    let len : length new ≡ size p.to = length_broadcast p.kind p.own.elected p.site p.to in
    let least = min-le_left (length w.messages) 4096 in
    written_apart w.messages w.net.sent new (omega arith) all
    (below_apart 16 p.kind p.own.elected p.site p.to h) k (omega arith)
