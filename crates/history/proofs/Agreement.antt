-- Agreement: what is chosen excludes the other outcome.
use Rattle.std.proofs.Common.{◌≡◌, ℕ, zero, suc, ◌<◌, ◌≤◌, false, ◌≢◌, List, [], ◌∷◌, ◌++◌, refl, subst, inl, inr, arith}
use native.Mathlib.Decide.{dec_le, ℕ_discrete}
use Rattle.rules.specs.Counting.{is_pre_committed}
use Rattle.rules.specs.Entries.{decided}
use Rattle.rules.specs.declared.state.Outcome.{Outcome}
use Rattle.rules.specs.declared.state.Outcome.TheVariants as outcome
use Rattle.rules.specs.declared.state.State.{State}
use Rattle.rules.specs.declared.state.State.TheVariants as state
use Rattle.history.specs.Events.{Setting, Crossing, Event, Joined, Attempted, ◌∈◌}
use Rattle.history.specs.Histories.{TookPart, is_commit, Chosen, Good}
use Rattle.history.specs.Facts.{Facts}
use Rattle.history.specs.Promises.{Settled, ChosenExcludesAttempts, Agreement, DecisionsAgree}
use Rattle.history.proofs.Facts.{histories_have_facts}
use Rattle.history.proofs.Sets.{cross}
use Rattle.history.proofs.Validity.{no_excludes_commit, settled_more, decided_is_settled}

module _ {p : Setting} {h : List Event} (F : Facts p h) where
  -- one of the two attempts is to abort, and so comes after 1
  later : (o o' : Outcome) (n m r q : ℕ) → o ≢ o' → Attempted n r o ∈ h → Attempted m q o' ∈ h → n ≤ m → 2 ≤ m
  later o o' n m r q d a b l =
      elim (ℕ_discrete m 1) [
        | yes e ↦
            let one = F.attempt_above n r o a in
            let first = F.first_attempt q o' (rw e at b) in
            let same : n ≡ 1 = omega arith in
            let other = F.first_attempt r o (rw same at a) in
            absurd (d (grind arith))
        | no f ↦ let one = F.attempt_above m q o' b in omega arith
      ]

  -- at one number a site is under one coordinator, which attempts one outcome
  same_number : (o o' : Outcome) (s n r m q : ℕ) (t : State) (a : ℕ) → o ≢ o' → n ≡ m → 2 ≤ m → TookPart h s n r o → Joined s m q t a ∈ h → Attempted m q o' ∈ h → ⊥
  same_number o o' s n r m q t a d e l k j b =
      let here : TookPart h s m r o = subst (λ i. TookPart h s i r o) e k in
      let own = F.part_joined s m r o here l in
      let same = F.one_lead s m r q own.reported t own.attempt a own.event j in
      let made : Attempted m q o ∈ h = subst (λ i. Attempted m i o ∈ h) same (F.part_attempted s m r o here) in
      d (F.one_outcome m q o o' made b)

  -- where an undecided site reports an attempt, the outcome that its state stands for was attempted there
  spoke : (o : Outcome) (s n r : ℕ) (t : State) (a : ℕ) → Joined s n r t a ∈ h → decided t ≡ false → is_pre_committed t ≡ is_commit o → 1 ≤ a → (q : ℕ) × (Attempted a q o ∈ h)
  spoke outcome.Commit s n r state.PreCommitted a j u b l = F.report_attempted s n r outcome.Commit a j
  spoke outcome.Commit s n r state.Initial a j u b l = absurd (grind arith)
  spoke outcome.Commit s n r state.Waiting a j u b l = absurd (grind arith)
  spoke outcome.Commit s n r state.PreAborted a j u b l = absurd (grind arith)
  spoke outcome.Commit s n r state.Committed a j u b l = absurd (grind arith)
  spoke outcome.Commit s n r state.Aborted a j u b l = absurd (grind arith)
  spoke outcome.Abort s n r state.Initial a j u b l = absurd (omega (arith, F.report_none s n r state.Initial a j (inl refl)))
  spoke outcome.Abort s n r state.Waiting a j u b l = absurd (omega (arith, F.report_none s n r state.Waiting a j (inr refl)))
  spoke outcome.Abort s n r state.PreCommitted a j u b l = absurd (grind arith)
  spoke outcome.Abort s n r state.PreAborted a j u b l = F.report_attempted s n r outcome.Abort a j
  spoke outcome.Abort s n r state.Committed a j u b l = absurd (grind arith)
  spoke outcome.Abort s n r state.Aborted a j u b l = absurd (grind arith)

  -- By induction on the bound of m. A site of both quorums took part at n, so at m it reports n or more. Hence the greatest
  -- reported attempt is between n and m, and o' was attempted there too, by the state of the site that reports it.
  excluded : (o o' : Outcome) (n r : ℕ) → Crossing p → o ≢ o' → Chosen p h n r o → (bound m q : ℕ) → m < bound → n ≤ m → Attempted m q o' ∈ h → ⊥
  excluded o o' n r cr d c zero m q b l a = absurd (omega arith)
  excluded o o' n r cr d c (suc bound) m q b l a =
      let up = later o o' n m r q d c.attempt a l in
      let g = F.later_attempt m q o' a up in
      let w = g.speaker in
      let x = cross p o o' c.sites g.sites cr d c.enough g.enough in
      let both = x.1 in
      let k = c.acks x.0 both.1 in
      let rep = g.reports x.0 both.2 in
      elim (ℕ_discrete n m) [
        | yes e ↦ same_number o o' x.0 n r m q rep.0 rep.1 d e up k rep.2 a
        | no f ↦
            let told = F.part_reported x.0 n r o m q rep.0 rep.1 k rep.2 (omega arith) in
            let one = F.attempt_above n r o c.attempt in
            let below = F.report_below w.0 m q w.1 g.greatest w.3 in
            let before = spoke o' w.0 m q w.1 g.greatest w.3 w.4 w.5 (omega (arith, rep.4)) in
            excluded o o' n r cr d c bound g.greatest before.0 (omega arith) (omega (arith, rep.4)) before.1
      ]

pub chosen_excludes_attempts : ChosenExcludesAttempts
chosen_excludes_attempts p h cr g o o' d n r m q c l a = excluded (histories_have_facts p h g) o o' n r cr d c (suc m) m q (omega arith) l a

pub agreement : Agreement
agreement p h cr g (inl c) (inl d) =
    let x = c.2 in
    let y = d.2 in
    elim (dec_le c.0 d.0) [
      | yes l ↦ chosen_excludes_attempts p h cr g outcome.Commit outcome.Abort (λ e. grind arith) c.0 c.1 d.0 d.1 x l y.attempt
      | no f ↦ chosen_excludes_attempts p h cr g outcome.Abort outcome.Commit (λ e. grind arith) d.0 d.1 c.0 c.1 y (omega arith) x.attempt
    ]
agreement p h cr g (inl c) (inr v) = let w = v.1 in no_excludes_commit p h g w.0 c.0 c.1 w.1 c.2.attempt
agreement p h cr g (inr v) d = grind arith

one_settled : (p : Setting) (h : List Event) → Crossing p → Good p h → (o o' : Outcome) → Settled p h o → Settled p h o' → o ≡ o'
one_settled p h cr g outcome.Commit outcome.Commit x y = refl
one_settled p h cr g outcome.Commit outcome.Abort x y = absurd (agreement p h cr g x y)
one_settled p h cr g outcome.Abort outcome.Commit x y = absurd (agreement p h cr g y x)
one_settled p h cr g outcome.Abort outcome.Abort x y = refl

good_before : (p : Setting) (h g : List Event) → Good p (g ++ h) → Good p h
good_before p h [] k = k
good_before p h (x ∷ g) k = good_before p h g k.1

settled_later : (p : Setting) (h g : List Event) (o : Outcome) → Settled p h o → Settled p (g ++ h) o
settled_later p h [] o x = x
settled_later p h (e ∷ g) o x = settled_more p (g ++ h) e o (settled_later p h g o x)

pub decisions_agree : DecisionsAgree
decisions_agree p h g cr k s t o o' x y =
    one_settled p (g ++ h) cr k o o'
    (settled_later p h g o (decided_is_settled p h (good_before p h g k) s o x))
    (decided_is_settled p (g ++ h) k t o' y)
