-- A set has as many sites as messages go to it.
use Rattle.std.proofs.Common.{◌≡◌, ℕ, zero, suc, ◌+◌, ◌-◌, ◌/◌, ◌%◌, ◌^◌, ◌<◌, ◌≤◌, true, false, cond, eqb, [], ◌∷◌, ◌++◌, length, sym, refl, ap, ◌∙◌, le_trans, le_refl, add_comm, suc-add, zero-add, add-one, one-add, arith, lit<}
use native.Mathlib.Nat.{mod-one}
use lib.Count.{ones, ones_cat}
use Rattle.std.proofs.lemmas.Nat.{mod-pow-add, mod_below, pow_pos}
use Rattle.std.proofs.lemmas.List.{append-nil, length-append, length_push}
use Rattle.sites.specs.Sets.{has, size}
use Rattle.rules.specs.Posting.{message, broadcast_below, broadcast}
use Rattle.rules.specs.declared.message.Kind.{Kind}
use Rattle.rules.specs.declared.message.Message.{Message}

pub below_none : (k : Kind) (n from x : ℕ) → broadcast_below 0 k n from x ≡ []
unfolding broadcast_below
below_none k n from x = refl

pub below_sent : (s : ℕ) (k : Kind) (n from x : ℕ) → has x s ≡ true → broadcast_below (s + 1) k n from x ≡ broadcast_below s k n from x ++ (message k n from s ∷ [])
unfolding broadcast_below
below_sent s k n from x h = rw (add-one, h)

pub below_kept : (s : ℕ) (k : Kind) (n from x : ℕ) → has x s ≡ false → broadcast_below (s + 1) k n from x ≡ broadcast_below s k n from x
unfolding broadcast_below
below_kept s k n from x h = rw (add-one, h) (append-nil (broadcast_below s k n from x))

one_or_none : (b : ℕ) (m : Message) → b < 2 → length (cond (eqb b 1) (m ∷ []) []) ≡ ones b
unfolding ones
one_or_none zero m h = refl
one_or_none (suc zero) m h = refl
one_or_none (suc (suc b)) m h = absurd (omega arith)

length_below : (s : ℕ) (k : Kind) (n from x : ℕ) → length (broadcast_below s k n from x) ≡ ones (x % 2 ^ s)
unfolding broadcast_below ones
length_below zero k n from x = ap ones (sym (mod-one x))
length_below (suc s) k n from x =
    let q : ℕ = x / 2 ^ s in
    let m : Message = message k n from s in
    length-append (broadcast_below s k n from x) (cond (has x s) (m ∷ []) [])
    ∙ ap (λ (y : ℕ). y + length (cond (has x s) (m ∷ []) [])) (length_below s k n from x)
    ∙ ap (λ (y : ℕ). ones (x % 2 ^ s) + y) (one_or_none (q % 2) m (mod_below q 2 (lit< tt)))
    ∙ add_comm (ones (x % 2 ^ s)) (ones (q % 2))
    ∙ sym (ones_cat s (q % 2) (x % 2 ^ s) (mod_below x (2 ^ s) (pow_pos s)))
    ∙ ap ones (sym (mod-pow-add x 1 s))
    ∙ ap (λ (y : ℕ). ones (x % 2 ^ y)) (one-add s)

pub length_broadcast : (k : Kind) (n from x : ℕ) → length (broadcast k n from x) ≡ size x
length_broadcast k n from x = length_below 16 k n from x

step_up : (s : ℕ) (k : Kind) (n from x : ℕ) → length (broadcast_below s k n from x) ≤ length (broadcast_below (suc s) k n from x)
unfolding broadcast_below
step_up s k n from x = simp length-append (omega arith)

within_all : (d s : ℕ) (k : Kind) (n from x : ℕ) → length (broadcast_below s k n from x) ≤ length (broadcast_below (d + s) k n from x)
within_all zero s k n from x = rw zero-add (le_refl (length (broadcast_below s k n from x)))
within_all (suc d) s k n from x = rw suc-add (le_trans (within_all d s k n from x) (step_up (d + s) k n from x))

-- where a site is in the set, there is a place for its message among those of all
pub room_for : (s : ℕ) (k : Kind) (n from x : ℕ) → s < 16 → has x s ≡ true → length (broadcast_below s k n from x) < size x
room_for s k n from x h t =
    let e : (15 - s) + (s + 1) ≡ 16 = omega arith in
    let l : length (broadcast_below (s + 1) k n from x) ≡ length (broadcast_below s k n from x) + 1 =
    ap length (below_sent s k n from x t) ∙ length_push (broadcast_below s k n from x) (message k n from s) in
    let w : length (broadcast_below (s + 1) k n from x) ≤ length (broadcast_below 16 k n from x) =
    rw e at (within_all (15 - s) (s + 1) k n from x) in
    let a = length_broadcast k n from x in
    omega arith
