-- What each step makes of the record of its site.
use Rattle.std.proofs.Common.{◌≡◌, ℕ, Bool, true, false, cond, not, ◌&&◌, ◌||◌, ltb, leb, Some, None, Option, sym, refl, ◌∙◌, le_refl, arith}
use Rattle.std.proofs.lemmas.Bool.{true≢false, or_parts, and_parts, ltb-true}
use Rattle.sites.specs.declared.refusal.Refusal.TheVariants as refusal
use Rattle.quorum.specs.Quorums.{Quorums}
use Rattle.rules.specs.Counting.{matches, is_initial}
use Rattle.rules.specs.Entries.{Entry, Lawful, decided, in_state, attempted_in, joined, can_join, join, pre_state, final_state, voted_state}
use Rattle.rules.specs.Plans.{Plan, plan, begin_plan, begun, voted, elected_to, attempted, concluded, received, poll_ruling, attempt_ruling, ruling_of, quorum_for, group_of, ruled, advanced}
use Rattle.rules.specs.declared.call.Vote.{Vote}
use Rattle.rules.specs.declared.call.Vote.TheVariants as vote
use Rattle.rules.specs.declared.message.Kind.{Kind}
use Rattle.rules.specs.declared.message.Kind.TheVariants as kind
use Rattle.rules.specs.declared.message.Message.{Message}
use Rattle.rules.specs.declared.role.Role.{Role}
use Rattle.rules.specs.declared.role.Role.TheVariants as role
use Rattle.rules.specs.declared.role.Ruling.{Ruling}
use Rattle.rules.specs.declared.role.Ruling.TheVariants as ruling
use Rattle.rules.specs.declared.state.Outcome.{Outcome}
use Rattle.rules.specs.declared.state.Outcome.TheVariants as outcome
use Rattle.rules.specs.declared.state.State.{State}
use Rattle.rules.specs.declared.state.State.TheVariants as state
use Rattle.laws.specs.Laws.{Risen, SameIfDecided, FitsRole, RoleAgrees}
use Rattle.laws.proofs.Held.{Held, held_unless}

-- the step is for the site s with the record e; where G holds, it keeps a decision
pub record Fits (G : Type 0) (s : ℕ) (e : Entry) (p : Plan) : Type 0 where
  pub own_site : p.site ≡ s
  pub rises : Lawful e → Risen e p.own
  pub lawful : Lawful e → Lawful p.own
  pub decides : G → SameIfDecided e p.own

module _ (G : Type 0) (s : ℕ) (e : Entry) where
  -- only the state changes
  in_state_fits : (t : State) (r : Option Role) (k : Kind) (x : ℕ) → (G → decided e.state ≡ true → t ≡ e.state) → Fits G s e (plan s (in_state e t) r k x)
  in_state_fits t r k x h = record {
    own_site = refl;
    rises = λ l. record { elected = le_refl e.elected; attempt = le_refl e.attempt };
    lawful = λ l. l;
    decides = h;
  }

  -- the last attempt comes up to the last elected
  attempted_in_fits : (t : State) (r : Option Role) (k : Kind) (x : ℕ) → (G → decided e.state ≡ true → t ≡ e.state) → Fits G s e (plan s (attempted_in e t) r k x)
  attempted_in_fits t r k x h = record {
    own_site = refl;
    rises = λ l. record { elected = le_refl e.elected; attempt = l.2 };
    lawful = λ l. (l.0, l.1, le_refl e.elected, l.3);
    decides = h;
  }

  -- the last elected rises
  joined_fits : (n lead : ℕ) (r : Option Role) (k : Kind) (x : ℕ) → can_join e n lead ≡ true → Fits G s e (plan s (joined e n lead) r k x)
  joined_fits n lead r k x h =
      let a = and_parts (ltb e.elected n) (ltb n 1000000 && ltb lead 16) h in
      let b = and_parts (ltb n 1000000) (ltb lead 16) a.1 in
      let up = ltb-true e.elected n a.0 in
      let bounded = ltb-true n 1000000 b.0 in
      let known = ltb-true lead 16 b.1 in
      record {
        own_site = refl;
        rises = λ l. record { elected = omega arith; attempt = le_refl e.attempt };
        lawful = λ l. (omega arith, bounded, omega arith, known);
        decides = λ g d. refl;
      }

-- an initial site is undecided
initial_undecided : (t u : State) → not (is_initial t) ≡ false → decided t ≡ true → u ≡ t
initial_undecided state.Initial u i d = absurd (true≢false (sym d))
initial_undecided state.Waiting u i d = absurd (true≢false i)
initial_undecided state.PreCommitted u i d = absurd (true≢false i)
initial_undecided state.PreAborted u i d = absurd (true≢false i)
initial_undecided state.Committed u i d = absurd (true≢false i)
initial_undecided state.Aborted u i d = absurd (true≢false i)

undecided : (t u : State) → decided t ≡ false → decided t ≡ true → u ≡ t
undecided t u n d = absurd (true≢false (sym d ∙ n))

begin_fits : (v : Vote) (s all : ℕ) (e : Entry) (r : Option Role) → not (is_initial e.state) ≡ false → Fits (Unit {0}) s e (begin_plan v s all e r)
begin_fits vote.Yes s all e r i = in_state_fits (Unit {0}) s e _ _ _ _ (λ g d. initial_undecided e.state state.Waiting i d)
begin_fits vote.No s all e r i = attempted_in_fits (Unit {0}) s e _ _ _ _ (λ g d. initial_undecided e.state state.Aborted i d)

pub begun_fits : (v : Vote) (s all : ℕ) (e : Entry) (r : Option Role) → Held (Fits (Unit {0}) s e) (begun v s all e r)
begun_fits v s all e r =
    held_unless (Fits (Unit {0}) s e) (ltb 1 e.elected) _ refusal.Stale (λ b.
    held_unless (Fits (Unit {0}) s e) (not (is_initial e.state)) _ refusal.Unfit (λ i.
    begin_fits v s all e r i))

pub voted_fits : (v : Vote) (m : Message) (e : Entry) (r : Option Role) → Held (Fits (Unit {0}) m.receiver e) (voted v m e r)
voted_fits v m e r =
    held_unless (Fits (Unit {0}) m.receiver e) (not (matches e m)) _ refusal.Stale (λ b.
    held_unless (Fits (Unit {0}) m.receiver e) (not (is_initial e.state)) _ refusal.Unfit (λ i.
    in_state_fits (Unit {0}) m.receiver e _ _ _ _ (λ g d. initial_undecided e.state (voted_state v) i d)))

elected_fits : (m : Message) (e : Entry) → Held (Fits (Unit {0}) m.receiver e) (elected_to m e (join e m.number m.sender))
elected_fits m e = by (can_join e m.number m.sender) refl
  where
    by : (b : Bool) → can_join e m.number m.sender ≡ b → Held (Fits (Unit {0}) m.receiver e) (elected_to m e (cond b (Some (joined e m.number m.sender)) None))
    by true h = joined_fits (Unit {0}) m.receiver e m.number m.sender _ _ _ h
    by false h = tt

attempted_fits : (o : Outcome) (m : Message) (e : Entry) (r : Option Role) → Held (Fits (Unit {0}) m.receiver e) (attempted o m e r)
attempted_fits o m e r =
    held_unless (Fits (Unit {0}) m.receiver e) (not (matches e m)) _ refusal.Stale (λ b.
    held_unless (Fits (Unit {0}) m.receiver e) (decided e.state || leb m.number e.attempt) _ refusal.Unfit (λ i.
    attempted_in_fits (Unit {0}) m.receiver e _ _ _ _
    (λ g d. undecided e.state (pre_state o) (or_parts (decided e.state) (leb m.number e.attempt) i).0 d)))

concluded_fits : (o : Outcome) (m : Message) (e : Entry) (r : Option Role) → Held (Fits (Unit {0}) m.receiver e) (concluded o m e r)
concluded_fits o m e r =
    held_unless (Fits (Unit {0}) m.receiver e) (not (matches e m)) _ refusal.Stale (λ b.
    held_unless (Fits (Unit {0}) m.receiver e) (decided e.state) _ refusal.Unfit (λ i.
    in_state_fits (Unit {0}) m.receiver e _ _ _ _ (λ g d. undecided e.state (final_state o) i d)))

pub received_fits : (k : Kind) (m : Message) (e : Entry) (r : Option Role) → Held (Fits (Unit {0}) m.receiver e) (received k m e r)
received_fits kind.Start m e r = tt
received_fits kind.Yes m e r = tt
received_fits kind.No m e r = tt
received_fits kind.Elected m e r = elected_fits m e
received_fits (kind.Report t a) m e r = tt
received_fits kind.PreCommit m e r = attempted_fits outcome.Commit m e r
received_fits kind.PreAbort m e r = attempted_fits outcome.Abort m e r
received_fits kind.Ack m e r = tt
received_fits kind.Commit m e r = concluded_fits outcome.Commit m e r
received_fits kind.Abort m e r = concluded_fits outcome.Abort m e r

-- the state that a ruling brings
abbrev ruled_state : Ruling → State
ruled_state (ruling.Attempt o) = pre_state o
ruled_state (ruling.Decide o) = final_state o

-- a ruling, if there is one, keeps the state t if that is decided
abbrev Keeps : State → Option Ruling → Type 0
Keeps t None = Unit {0}
Keeps t (Some x) = decided t ≡ true → ruled_state x ≡ t

ruled_fits : (G : Type 0) (s g : ℕ) (e : Entry) (x : Option Ruling) → (G → Keeps e.state x) → Held (Fits G s e) (ruled s g e x)
ruled_fits G s g e None h = tt
ruled_fits G s g e (Some (ruling.Attempt o)) h = attempted_in_fits G s e _ _ _ _ h
ruled_fits G s g e (Some (ruling.Decide o)) h = attempted_in_fits G s e _ _ _ _ h

undecided_keeps : (t : State) (x : Option Ruling) → decided t ≡ false → Keeps t x
undecided_keeps t None n = tt
undecided_keeps t (Some x) n = undecided t (ruled_state x) n

-- by what was reported, and then by any other ruling x
reports_keep : (t : State) (aborted committed : Bool) (x : Option Ruling) → (t ≡ state.Committed → (committed ≡ true) × (aborted ≡ false)) → (t ≡ state.Aborted → aborted ≡ true) →
    Keeps t (cond aborted (Some (ruling.Decide outcome.Abort)) (cond committed (Some (ruling.Decide outcome.Commit)) x))
reports_keep state.Initial a c x h k = undecided_keeps state.Initial _ refl
reports_keep state.Waiting a c x h k = undecided_keeps state.Waiting _ refl
reports_keep state.PreCommitted a c x h k = undecided_keeps state.PreCommitted _ refl
reports_keep state.PreAborted a c x h k = undecided_keeps state.PreAborted _ refl
reports_keep state.Committed true c x h k = absurd (true≢false (h refl).1)
reports_keep state.Committed false true x h k = λ d. refl
reports_keep state.Committed false false x h k = absurd (true≢false (sym (h refl).0))
reports_keep state.Aborted true c x h k = λ d. refl
reports_keep state.Aborted false c x h k = absurd (true≢false (sym (k refl)))

role_keeps : (q : Quorums) (all : ℕ) (e : Entry) (r : Role) → FitsRole e r → Keeps e.state (ruling_of q all r)
role_keeps q all e (role.Polling p) h = undecided_keeps e.state (poll_ruling all p) h
role_keeps q all e (role.Canvassing c) h = reports_keep e.state c.aborted c.committed _ h.0 h.1
role_keeps q all e (role.Attempting t) h = undecided_keeps e.state (attempt_ruling (quorum_for q.commits q.aborts t.outcome t.acked) t) h

pub advanced_fits : (q : Quorums) (all s : ℕ) (e : Entry) (r : Option Role) → Held (Fits (RoleAgrees e r) s e) (advanced q all s e r)
advanced_fits q all s e None = tt
advanced_fits q all s e (Some r) =
    ruled_fits (FitsRole e r) s (group_of all r) e (ruling_of q all r) (role_keeps q all e r)
