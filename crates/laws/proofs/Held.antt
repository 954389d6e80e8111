-- What holds of a value that may be refused.
use Rattle.std.proofs.Common.{◌≡◌, ℕ, ◌+◌, ◌≤◌, Bool, true, false, cond, ltb, leb, Ok, Err, Result, refl}
use Rattle.std.proofs.lemmas.Bool.{leb-true}
use Rattle.sites.specs.Sets.{size}
use Rattle.sites.specs.declared.refusal.Refusal.{Refusal}
use Rattle.sites.specs.declared.refusal.Refusal.TheVariants as refusal
use Rattle.rules.specs.Plans.{Plan}
use Rattle.rules.specs.Posting.{places}
use Rattle.rules.specs.World.{World, placed, paid, admitted, write_price}

abbrev pub Held : {A : Type 0} → (A → Type 0) → Result A Refusal → Type 0
Held P (Ok a) = P a
Held P (Err x) = Unit {0}

pub held_if : {A : Type 0} (P : A → Type 0) (b : Bool) (x : Result A Refusal) (r : Refusal) → (b ≡ true → Held P x) → Held P (cond b x (Err r))
held_if P true x r h = h refl
held_if P false x r h = tt

pub held_unless : {A : Type 0} (P : A → Type 0) (b : Bool) (x : Result A Refusal) (r : Refusal) → (b ≡ false → Held P x) → Held P (cond b (Err r) x)
held_unless P true x r h = tt
held_unless P false x r h = h refl

pub held_paid : (P : Plan → Type 0) (l : ℕ) (x : Result Plan Refusal) → Held P x → Held P (paid l x)
held_paid P l (Ok p) h = held_unless P (ltb l write_price) (Ok p) refusal.VaultFull (λ e. h)
held_paid P l (Err r) h = tt

held_placed : (P : Plan → Type 0) (w : World) (x : Result Plan Refusal) → Held P x → Held P (placed w x)
held_placed P w (Ok p) h = held_if P (leb (w.net.sent + size p.to) (places w.messages)) (Ok p) refusal.ListFull (λ e. h)
held_placed P w (Err r) h = tt

-- the room is asked for last, and changes no step
pub held_admitted : (P : Plan → Type 0) (l : ℕ) (w : World) (x : Result Plan Refusal) → Held P x → Held P (admitted l w x)
held_admitted P l w x h = held_paid P l (placed w x) (held_placed P w x h)

abbrev pub Roomy : World → Plan → Type 0
Roomy w p = w.net.sent + size p.to ≤ places w.messages

placed_roomy : (w : World) (x : Result Plan Refusal) → Held (Roomy w) (placed w x)
placed_roomy w (Ok p) =
    held_if (Roomy w) (leb (w.net.sent + size p.to) (places w.messages)) (Ok p) refusal.ListFull
    (leb-true (w.net.sent + size p.to) (places w.messages))
placed_roomy w (Err r) = tt

-- what is admitted has room in the list
pub admitted_roomy : (l : ℕ) (w : World) (x : Result Plan Refusal) → Held (Roomy w) (admitted l w x)
admitted_roomy l w x = held_paid (Roomy w) l (placed w x) (placed_roomy w x)
