-- Validity: every commit goes back to an attempt at 1, which every Yes precedes; and what a decided site rests on.
use Rattle.std.proofs.Common.{◌≡◌, ℕ, zero, suc, ◌<◌, true, List, [], ◌∷◌, sym, refl, subst, inl, inr, arith}
use native.Mathlib.Decide.{ℕ_discrete}
use Rattle.rules.specs.Counting.{is_pre_committed}
use Rattle.rules.specs.Entries.{final_state}
use Rattle.rules.specs.declared.state.Outcome.{Outcome}
use Rattle.rules.specs.declared.state.Outcome.TheVariants as outcome
use Rattle.rules.specs.declared.state.State.{State}
use Rattle.rules.specs.declared.state.State.TheVariants as state
use Rattle.history.specs.Events.{Setting, Event, Voted, Refused, Joined, Attempted, Acknowledged, Decided, Followed, ◌∈◌}
use Rattle.history.specs.Histories.{standing, TookPart, AllVoted, May, Good}
use Rattle.history.specs.Facts.{Facts}
use Rattle.history.specs.Promises.{Settled, NoExcludesCommit, DecidedIsSettled, Validity, CommittedIsValid}
use Rattle.history.proofs.Facts.{histories_have_facts}

pre_committed_is : (t : State) → is_pre_committed t ≡ true → t ≡ state.PreCommitted
pre_committed_is t e = grind arith

module _ {p : Setting} {h : List Event} (F : Facts p h) where
  -- by induction on the bound of n: below an attempt to commit after an election stands an earlier one, at the greatest attempt reported
  rooted : (bound n r : ℕ) → n < bound → Attempted n r outcome.Commit ∈ h → AllVoted p h
  rooted zero n r b a = absurd (omega arith)
  rooted (suc bound) n r b a =
      elim (ℕ_discrete n 1) [
        | yes e ↦ (F.first_attempt r outcome.Commit (rw e at a)).1
        | no d ↦
            let one = F.attempt_above n r outcome.Commit a in
            let g = F.later_attempt n r outcome.Commit a (omega arith) in
            let w = g.speaker in
            let below = F.report_below w.0 n r w.1 g.greatest w.3 in
            let before = F.report_attempted w.0 n r outcome.Commit g.greatest (rw (pre_committed_is w.1 w.5) at w.3) in
            rooted bound g.greatest before.0 (omega arith) before.1
      ]

pub validity : Validity
validity p h g n r a = rooted (histories_have_facts p h g) (suc n) n r (omega arith) a

pub no_excludes_commit : NoExcludesCommit
no_excludes_commit p h g s n r m a =
    let F = histories_have_facts p h g in
    F.one_vote s (validity p h g n r a s (F.refuser s m)) m

part_more : (h : List Event) (e : Event) (s n r : ℕ) (o : Outcome) → TookPart h s n r o → TookPart (e ∷ h) s n r o
part_more h e s n r o (inl m) = inl (inr m)
part_more h e s n r o (inr m) = inr (m.0, inr m.1)

-- what is settled stays settled
pub settled_more : (p : Setting) (h : List Event) (e : Event) (o : Outcome) → Settled p h o → Settled p (e ∷ h) o
settled_more p h e o (inl c) =
    let x = c.2 in
    inl (c.0, c.1, record { sites = x.sites; enough = x.enough; attempt = inr x.attempt; acks = λ s i. part_more h e s c.0 c.1 o (x.acks s i) })
settled_more p h e o (inr v) = let w = v.1 in inr (v.0, (w.0, inr w.1))

same_final : (o o' : Outcome) → final_state o ≡ final_state o' → o ≡ o'
same_final o o' e = grind arith

-- a decided site, a report of one, and a decision: what they rest on is settled
record Resting (p : Setting) (h : List Event) : Type 0 where
  stood : (s : ℕ) (o : Outcome) → (standing p h s).state ≡ final_state o → Settled p h o
  reported : (s n r : ℕ) (o : Outcome) (a : ℕ) → Joined s n r (final_state o) a ∈ h → Settled p h o
  ruled : (n r : ℕ) (o : Outcome) → Decided n r o ∈ h → Settled p h o

module _ (p : Setting) (h : List Event) (R : Resting p h) where
  grounds : (n r : ℕ) (o : Outcome) → May p h (Decided n r o) → Settled p h o
  grounds n r o (u, inl c) = inl (n, r, c)
  grounds n r o (u, inr (inl v)) = inr v
  grounds n r o (u, inr (inr k)) = R.reported k.0 n r o k.1 k.2

  -- the state was so before
  before : (e : Event) (s : ℕ) (o : Outcome) → (standing p h s).state ≡ final_state o → Settled p (e ∷ h) o
  before e s o x = settled_more p h e o (R.stood s o x)

  stood_more : (e : Event) → May p h e → (s : ℕ) (o : Outcome) → (standing p (e ∷ h) s).state ≡ final_state o → Settled p (e ∷ h) o
  stood_more (Voted t) m s o x = elim (ℕ_discrete s t) [ yes y ↦ absurd (grind arith) | no d ↦ before (Voted t) s o (grind arith) ]
  stood_more (Refused t) m s o x =
      elim (ℕ_discrete s t) [ yes y ↦ inr (grind arith, (t, inl refl)) | no d ↦ before (Refused t) s o (grind arith) ]
  stood_more (Joined t n r v a) m s o x = before (Joined t n r v a) s o (grind arith)
  stood_more (Attempted n r o') m s o x =
      elim (ℕ_discrete s r) [ yes y ↦ absurd (grind arith) | no d ↦ before (Attempted n r o') s o (grind arith) ]
  stood_more (Acknowledged t n r o') m s o x =
      elim (ℕ_discrete s t) [ yes y ↦ absurd (grind arith) | no d ↦ before (Acknowledged t n r o') s o (grind arith) ]
  stood_more (Decided n r o') m s o x =
      elim (ℕ_discrete s r) [
        | yes y ↦ subst (Settled p (Decided n r o' ∷ h)) (same_final o' o (grind arith)) (settled_more p h (Decided n r o') o' (grounds n r o' m))
        | no d ↦ before (Decided n r o') s o (grind arith)
      ]
  stood_more (Followed t n r o') m s o x =
      elim (ℕ_discrete s t) [
        | yes y ↦ subst (Settled p (Followed t n r o' ∷ h)) (same_final o' o (grind arith)) (settled_more p h (Followed t n r o') o' (R.ruled n r o' m.2))
        | no d ↦ before (Followed t n r o') s o (grind arith)
      ]

  reported_more : (e : Event) → May p h e → (s n r : ℕ) (o : Outcome) (a : ℕ) → Joined s n r (final_state o) a ∈ (e ∷ h) → Settled p (e ∷ h) o
  reported_more e m s n r o a (inl x) =
      let y : May p h (Joined s n r (final_state o) a) = subst (May p h) (sym x) m in
      before e s o (sym y.1)
  reported_more e m s n r o a (inr x) = settled_more p h e o (R.reported s n r o a x)

  ruled_more : (e : Event) → May p h e → (n r : ℕ) (o : Outcome) → Decided n r o ∈ (e ∷ h) → Settled p (e ∷ h) o
  ruled_more e m n r o (inl x) = settled_more p h e o (grounds n r o (subst (May p h) (sym x) m))
  ruled_more e m n r o (inr x) = settled_more p h e o (R.ruled n r o x)

resting : (p : Setting) (h : List Event) → Good p h → Resting p h
resting p [] g = record {
  stood = λ s o x. absurd (grind arith);
  reported = λ s n r o a x. absurd x;
  ruled = λ n r o x. absurd x;
}
resting p (e ∷ h) g = let R = resting p h g.1 in record {
  stood = stood_more p h R e g.0;
  reported = reported_more p h R e g.0;
  ruled = ruled_more p h R e g.0;
}

pub decided_is_settled : DecidedIsSettled
decided_is_settled p h g s o x = (resting p h g).stood s o x

pub committed_is_valid : CommittedIsValid
committed_is_valid p h g s x =
    elim (decided_is_settled p h g s outcome.Commit x) [
      | inl c ↦ validity p h g c.0 c.1 c.2.attempt
      | inr v ↦ absurd (grind arith)
    ]
