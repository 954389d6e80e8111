-- What the rules give of every good history, by induction over its events.
use Rattle.std.proofs.Common.{◌≡◌, ℕ, ◌<◌, ◌≤◌, true, cond, eqb, ◌⊎◌, List, [], ◌∷◌, sym, refl, subst, inl, inr, arith}
use native.Mathlib.Decide.{ℕ_discrete}
use Rattle.sites.specs.Sets.{has}
use Rattle.rules.specs.Entries.{pre_state}
use Rattle.rules.specs.declared.state.Outcome.{Outcome}
use Rattle.rules.specs.declared.state.Outcome.TheVariants as outcome
use Rattle.rules.specs.declared.state.State.{State}
use Rattle.rules.specs.declared.state.State.TheVariants as state
use Rattle.history.specs.Events.{Setting, Event, Voted, Refused, Joined, Attempted, Acknowledged, Decided, Followed, ◌∈◌}
use Rattle.history.specs.Histories.{standing, Under, TookPart, AllVoted, Basis, May, Good}
use Rattle.history.specs.Facts.{HasJoined, HistoriesHaveFacts}

-- the coordinator of the last attempt that the site s took part in
abbrev partner : List Event → ℕ → ℕ
partner [] s = 0
partner (Voted t ∷ h) s = partner h s
partner (Refused t ∷ h) s = partner h s
partner (Joined t n r u a ∷ h) s = partner h s
partner (Attempted n r o ∷ h) s = cond (eqb s r) r (partner h s)
partner (Acknowledged t n r o ∷ h) s = cond (eqb s t) r (partner h s)
partner (Decided n r o ∷ h) s = partner h s
partner (Followed t n r o ∷ h) s = partner h s

joined_more : {h : List Event} {x : Event} {s n r : ℕ} → HasJoined h s n r → HasJoined (x ∷ h) s n r
joined_more j = record { reported = j.reported; attempt = j.attempt; event = inr j.event }

module _ (p : Setting) where
  -- numbers begin at 1, and the last attempt does not exceed the number
  pub numbered : (h : List Event) (s : ℕ) → Good p h → 1 ≤ (standing p h s).elected
  numbered [] s g = omega arith
  numbered (x ∷ h) s g = let ih = numbered h s g.1 in grind arith

  pub within : (h : List Event) (s : ℕ) → Good p h → (standing p h s).attempt ≤ (standing p h s).elected
  within [] s g = omega arith
  within (x ∷ h) s g = let ih = within h s g.1 in grind arith

  -- the number does not fall
  pub joined_reached : (h : List Event) (s n r : ℕ) (t : State) (a : ℕ) → Good p h → Joined s n r t a ∈ h → n ≤ (standing p h s).elected
  joined_reached [] s n r t a g m = absurd m
  joined_reached (x ∷ h) s n r t a g m = let ih = joined_reached h s n r t a g.1 in grind arith

  one_lead : (h : List Event) (s n r r' : ℕ) (t t' : State) (a a' : ℕ) → Good p h → Joined s n r t a ∈ h → Joined s n r' t' a' ∈ h → r ≡ r'
  one_lead [] s n r r' t t' a a' g m m' = absurd m
  one_lead (x ∷ h) s n r r' t t' a a' g m m' =
      let ih = one_lead h s n r r' t t' a a' g.1 in
      let b = joined_reached h s n r t a g.1 in
      let b' = joined_reached h s n r' t' a' g.1 in
      grind arith

  -- nor does the last attempt
  pub part_reached : (h : List Event) (s n r : ℕ) (o : Outcome) → Good p h → TookPart h s n r o → n ≤ (standing p h s).attempt
  part_reached [] s n r o g m = grind arith
  part_reached (x ∷ h) s n r o g m = let ih = part_reached h s n r o g.1 in let b = within h s g.1 in grind arith

  joined_above : (h : List Event) (s n r : ℕ) (t : State) (a : ℕ) → Good p h → Joined s n r t a ∈ h → 2 ≤ n
  joined_above [] s n r t a g m = absurd m
  joined_above (x ∷ h) s n r t a g m = let ih = joined_above h s n r t a g.1 in let b = numbered h s g.1 in grind arith

  report_below : (h : List Event) (s n r : ℕ) (t : State) (a : ℕ) → Good p h → Joined s n r t a ∈ h → a < n
  report_below [] s n r t a g m = absurd m
  report_below (x ∷ h) s n r t a g m = let ih = report_below h s n r t a g.1 in let b = within h s g.1 in grind arith

  pub attempt_reached : (h : List Event) (n r : ℕ) (o : Outcome) → Good p h → Attempted n r o ∈ h → n ≤ (standing p h r).attempt
  attempt_reached h n r o g m = part_reached h r n r o g (inr (refl, m))

  one_outcome : (h : List Event) (n r : ℕ) (o o' : Outcome) → Good p h → Attempted n r o ∈ h → Attempted n r o' ∈ h → o ≡ o'
  one_outcome [] n r o o' g m m' = absurd m
  one_outcome (x ∷ h) n r o o' g m m' =
      let ih = one_outcome h n r o o' g.1 in
      let b = attempt_reached h n r o g.1 in
      let b' = attempt_reached h n r o' g.1 in
      grind arith

  attempt_above : (h : List Event) (n r : ℕ) (o : Outcome) → Good p h → Attempted n r o ∈ h → 1 ≤ n
  attempt_above [] n r o g m = absurd m
  attempt_above (x ∷ h) n r o g m = let ih = attempt_above h n r o g.1 in grind arith

  part_attempted : (h : List Event) (s n r : ℕ) (o : Outcome) → Good p h → TookPart h s n r o → Attempted n r o ∈ h
  part_attempted [] s n r o g m = grind arith
  part_attempted (x ∷ h) s n r o g m = let ih = part_attempted h s n r o g.1 in grind arith

  part_reported : (h : List Event) (s n r : ℕ) (o : Outcome) (m r' : ℕ) (t : State) (a : ℕ) → Good p h → TookPart h s n r o → Joined s m r' t a ∈ h → n < m → n ≤ a
  part_reported [] s n r o m r' t a g k j l = absurd j
  part_reported (x ∷ h) s n r o m r' t a g k j l =
      let ih = part_reported h s n r o m r' t a g.1 in
      let b = joined_reached h s m r' t a g.1 in
      let b' = part_reached h s n r o g.1 in
      grind arith

  -- a pre-committed or pre-aborted site took part in an attempt at its last attempt number
  came : (h : List Event) (s : ℕ) (o : Outcome) → Good p h → (standing p h s).state ≡ pre_state o → Attempted (standing p h s).attempt (partner h s) o ∈ h
  came [] s o g e = grind arith
  came (x ∷ h) s o g e = let ih = came h s o g.1 in grind arith

  -- an initial or waiting site took part in none
  pub unmoved : (h : List Event) (s : ℕ) → Good p h → ((standing p h s).state ≡ state.Initial) ⊎ ((standing p h s).state ≡ state.Waiting) → (standing p h s).attempt ≡ 0
  unmoved [] s g e = refl
  unmoved (x ∷ h) s g e = let ih = unmoved h s g.1 in grind arith

  report_attempted : (h : List Event) (s n r : ℕ) (o : Outcome) (a : ℕ) → Good p h → Joined s n r (pre_state o) a ∈ h → (q : ℕ) × (Attempted a q o ∈ h)
  report_attempted [] s n r o a g m = absurd m
  report_attempted (x ∷ h) s n r o a g (inl e) =
      let y : May p h (Joined s n r (pre_state o) a) = subst (May p h) (sym e) g.0 in
      let c = came h s o g.1 in
      (partner h s, grind arith)
  report_attempted (x ∷ h) s n r o a g (inr m) = let k = report_attempted h s n r o a g.1 m in (k.0, inr k.1)

  report_none : (h : List Event) (s n r : ℕ) (t : State) (a : ℕ) → Good p h → Joined s n r t a ∈ h → (t ≡ state.Initial) ⊎ (t ≡ state.Waiting) → a ≡ 0
  report_none [] s n r t a g m i = absurd m
  report_none (x ∷ h) s n r t a g m i =
      let ih = report_none h s n r t a g.1 in
      let u = unmoved h s g.1 in
      grind arith

  -- a site at a number above 1 has joined it
  has_joined : (h : List Event) (s n r : ℕ) → Under p h s n r → 2 ≤ n → HasJoined h s n r
  has_joined [] s n r u l = absurd (omega arith)
  has_joined (Joined t m q v a ∷ h) s n r u l =
      elim (ℕ_discrete s t) [
        | yes e ↦ record { reported = v; attempt = a; event = grind arith }
        | no d ↦ joined_more (has_joined h s n r (grind arith) l)
      ]
  has_joined (Voted t ∷ h) s n r u l = joined_more (has_joined h s n r (grind arith) l)
  has_joined (Refused t ∷ h) s n r u l = joined_more (has_joined h s n r (grind arith) l)
  has_joined (Attempted m q o ∷ h) s n r u l = joined_more (has_joined h s n r (grind arith) l)
  has_joined (Acknowledged t m q o ∷ h) s n r u l = joined_more (has_joined h s n r (grind arith) l)
  has_joined (Decided m q o ∷ h) s n r u l = joined_more (has_joined h s n r (grind arith) l)
  has_joined (Followed t m q o ∷ h) s n r u l = joined_more (has_joined h s n r (grind arith) l)

  attempt_joined : (h : List Event) (n r : ℕ) (o : Outcome) → Good p h → Attempted n r o ∈ h → 2 ≤ n → HasJoined h r n r
  attempt_joined [] n r o g m l = absurd m
  attempt_joined (x ∷ h) n r o g (inl e) l =
      let y : May p h (Attempted n r o) = subst (May p h) (sym e) g.0 in
      joined_more (has_joined h r n r y.0 l)
  attempt_joined (x ∷ h) n r o g (inr m) l = joined_more (attempt_joined h n r o g.1 m l)

  ack_joined : (h : List Event) (s n r : ℕ) (o : Outcome) → Good p h → Acknowledged s n r o ∈ h → 2 ≤ n → HasJoined h s n r
  ack_joined [] s n r o g m l = absurd m
  ack_joined (x ∷ h) s n r o g (inl e) l =
      let y : May p h (Acknowledged s n r o) = subst (May p h) (sym e) g.0 in
      joined_more (has_joined h s n r y.0 l)
  ack_joined (x ∷ h) s n r o g (inr m) l = joined_more (ack_joined h s n r o g.1 m l)

  part_joined : (h : List Event) (s n r : ℕ) (o : Outcome) → Good p h → TookPart h s n r o → 2 ≤ n → HasJoined h s n r
  part_joined h s n r o g (inl m) l = ack_joined h s n r o g m l
  part_joined h s n r o g (inr m) l = rw m.0 (attempt_joined h n r o g m.1 l)

  pub basis_more : {h : List Event} {n r : ℕ} {o : Outcome} (x : Event) → Basis p h n r o → Basis p (x ∷ h) n r o
  basis_more x b = let w = b.speaker in record {
    sites = b.sites;
    greatest = b.greatest;
    enough = b.enough;
    reports = λ s i. let v = b.reports s i in (v.0, v.1, inr v.2, v.3, v.4);
    speaker = (w.0, w.1, w.2, inr w.3, w.4, w.5);
  }

  later_attempt : (h : List Event) (n r : ℕ) (o : Outcome) → Good p h → Attempted n r o ∈ h → 2 ≤ n → Basis p h n r o
  later_attempt [] n r o g m l = absurd m
  later_attempt (x ∷ h) n r o g (inl e) l =
      let y : May p h (Attempted n r o) = subst (May p h) (sym e) g.0 in
      elim y.2 [ inl f ↦ absurd (omega (arith, f.number)) | inr b ↦ basis_more x b ]
  later_attempt (x ∷ h) n r o g (inr m) l = basis_more x (later_attempt h n r o g.1 m l)

  first_attempt : (h : List Event) (r : ℕ) (o : Outcome) → Good p h → Attempted 1 r o ∈ h → (o ≡ outcome.Commit) × AllVoted p h
  first_attempt [] r o g m = absurd m
  first_attempt (x ∷ h) r o g (inl e) =
      let y : May p h (Attempted 1 r o) = subst (May p h) (sym e) g.0 in
      elim y.2 [
        | inl f ↦ (f.to_commit, λ s i. inr (f.votes s i))
        | inr b ↦ let w = b.speaker in absurd (omega (arith, joined_above h w.0 1 r w.1 b.greatest g.1 w.3))
      ]
  first_attempt (x ∷ h) r o g (inr m) = let k = first_attempt h r o g.1 m in (k.0, λ s i. inr (k.1 s i))

  -- a site that voted is not initial any more
  past_vote : (h : List Event) (s : ℕ) → Good p h → (Voted s ∈ h) ⊎ (Refused s ∈ h) → (standing p h s).state ≡ state.Initial → ⊥
  past_vote [] s g m e = grind arith
  past_vote (x ∷ h) s g m e = let ih = past_vote h s g.1 in grind arith

  one_vote : (h : List Event) (s : ℕ) → Good p h → Voted s ∈ h → Refused s ∈ h → ⊥
  one_vote [] s g m m' = m
  one_vote (x ∷ h) s g m m' = let ih = one_vote h s g.1 in let v = past_vote h s g.1 in grind arith

  refuser : (h : List Event) (s : ℕ) → Good p h → Refused s ∈ h → has p.voters s ≡ true
  refuser [] s g m = absurd m
  refuser (x ∷ h) s g m = let ih = refuser h s g.1 in grind arith

  -- at the number 1 a site is under the first coordinator
  pub first_lead : (h : List Event) (s : ℕ) → Good p h → (standing p h s).elected ≡ 1 → (standing p h s).lead ≡ p.first
  first_lead [] s g e = refl
  first_lead (x ∷ h) s g e = let ih = first_lead h s g.1 in let b = numbered h s g.1 in grind arith

pub histories_have_facts : HistoriesHaveFacts
histories_have_facts p h g = record {
  one_lead = λ s n r r' t t' a a'. one_lead p h s n r r' t t' a a' g;
  joined_above = λ s n r t a. joined_above p h s n r t a g;
  report_below = λ s n r t a. report_below p h s n r t a g;
  one_outcome = λ n r o o'. one_outcome p h n r o o' g;
  attempt_above = λ n r o. attempt_above p h n r o g;
  part_joined = λ s n r o. part_joined p h s n r o g;
  part_attempted = λ s n r o. part_attempted p h s n r o g;
  part_reported = λ s n r o m r' t a. part_reported p h s n r o m r' t a g;
  report_attempted = λ s n r o a. report_attempted p h s n r o a g;
  report_none = λ s n r t a. report_none p h s n r t a g;
  first_attempt = λ r o. first_attempt p h r o g;
  later_attempt = λ n r o. later_attempt p h n r o g;
  one_vote = λ s. one_vote p h s g;
  refuser = λ s. refuser p h s g;
}
