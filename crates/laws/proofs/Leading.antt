-- A site with a role leads itself, has voted, and is undecided; each step keeps this.
use Rattle.std.proofs.Common.{◌≡◌, ℕ, ◌<◌, ◌≤◌, Bool, true, false, cond, not, ◌||◌, eqb, ltb, leb, Some, None, Option, sym, refl, ap, ◌∙◌, arith}
use Rattle.std.proofs.lemmas.Bool.{true≢false, not-false, and_parts, ltb-true, ltb-false, eqb-true}
use Rattle.sites.proofs.Marks.{has_none}
use Rattle.sites.specs.Sets.{has}
use Rattle.sites.specs.declared.refusal.Refusal.TheVariants as refusal
use Rattle.quorum.specs.Quorums.{Quorums}
use Rattle.rules.specs.Counting.{matches, is_initial, coordinator, counted_by, counted}
use Rattle.rules.specs.Entries.{Entry, decided, joined, can_join, join, pre_state}
use Rattle.rules.specs.Plans.{Plan, begin_plan, begun, voted, elected_to, attempted, concluded, received, count_of, tallied, ruling_of, group_of, ruled, advanced}
use Rattle.rules.specs.declared.call.Vote.{Vote}
use Rattle.rules.specs.declared.call.Vote.TheVariants as vote
use Rattle.rules.specs.declared.message.Kind.{Kind}
use Rattle.rules.specs.declared.message.Kind.TheVariants as kind
use Rattle.rules.specs.declared.message.Message.{Message}
use Rattle.rules.specs.declared.role.Role.{Role}
use Rattle.rules.specs.declared.role.Role.TheVariants as role
use Rattle.rules.specs.declared.role.Ruling.{Ruling}
use Rattle.rules.specs.declared.role.Ruling.TheVariants as ruling
use Rattle.rules.specs.declared.state.Outcome.{Outcome}
use Rattle.rules.specs.declared.state.Outcome.TheVariants as outcome
use Rattle.laws.specs.Laws.{RoleAgrees}
use Rattle.laws.proofs.Apart.{Apart, without_itself, only_other}
use Rattle.laws.proofs.Held.{Held, held_unless}

-- the site s leads itself, has voted, and is undecided
pub record Leading (s : ℕ) (e : Entry) : Type 0 where
  pub itself : e.lead ≡ s
  pub undecided : decided e.state ≡ false
  pub has_voted : is_initial e.state ≡ false

-- so it is where the site has a role
abbrev pub Leads : ℕ → Entry → Option Role → Type 0
Leads s e None = Unit {0}
Leads s e (Some r) = Leading s e

-- before any election the site is under f
pub record Under (f : ℕ) (e : Entry) : Type 0 where
  pub numbered : 0 < e.elected
  pub led : e.elected ≤ 1 → e.lead ≡ f

-- the step is for the site s with the record e, keeps all this, and sends nothing to s
pub record KeptBy (f s : ℕ) (e : Entry) (p : Plan) : Type 0 where
  pub own_site : p.site ≡ s
  pub leads : Leads s p.own p.role
  pub under : Under f e → Under f p.own
  pub others : has p.to s ≡ false

-- a site that cannot lead has no role, and gets none by keeping it
roleless : (s : ℕ) (e e' : Entry) (r : Option Role) → (Leading s e → ⊥) → Leads s e r → Leads s e' r
roleless s e e' None h l = tt
roleless s e e' (Some r) h l = absurd (h l)

initial_roleless : (s : ℕ) (e e' : Entry) (r : Option Role) → not (is_initial e.state) ≡ false → Leads s e r → Leads s e' r
initial_roleless s e e' r i = roleless s e e' r (λ l. true≢false (sym (not-false (is_initial e.state) i) ∙ l.has_voted))

under_same : (f : ℕ) (e e' : Entry) → e'.elected ≡ e.elected → e'.lead ≡ e.lead → Under f e → Under f e'
under_same f e e' n a u = record { numbered = rw n u.numbered; led = λ h. a ∙ u.led (rw n at h) }

begin_keeps : (v : Vote) (s all : ℕ) (e : Entry) (r : Option Role) → e.lead ≡ s → not (is_initial e.state) ≡ false → Leads s e r → KeptBy s s e (begin_plan v s all e r)
begin_keeps vote.Yes s all e r h i l = record {
  own_site = refl;
  leads = record { itself = h; undecided = refl; has_voted = refl };
  under = under_same s e _ refl refl;
  others = without_itself all s;
}
begin_keeps vote.No s all e r h i l = record {
  own_site = refl;
  leads = initial_roleless s e _ r i l;
  under = under_same s e _ refl refl;
  others = without_itself all s;
}

pub begun_keeps : (v : Vote) (s all : ℕ) (e : Entry) (r : Option Role) → Under s e → Leads s e r → Held (KeptBy s s e) (begun v s all e r)
begun_keeps v s all e r u l =
    held_unless (KeptBy s s e) (ltb 1 e.elected) _ refusal.Stale (λ b.
    held_unless (KeptBy s s e) (not (is_initial e.state)) _ refusal.Unfit (λ i.
    begin_keeps v s all e r (u.led (ltb-false 1 e.elected b)) i l))

pub voted_keeps : (f : ℕ) (v : Vote) (m : Message) (e : Entry) (r : Option Role) → Apart m → Leads m.receiver e r → Held (KeptBy f m.receiver e) (voted v m e r)
voted_keeps f v m e r d l =
    held_unless (KeptBy f m.receiver e) (not (matches e m)) _ refusal.Stale (λ b.
    held_unless (KeptBy f m.receiver e) (not (is_initial e.state)) _ refusal.Unfit (λ i.
    record {
      own_site = refl;
      leads = initial_roleless m.receiver e _ r i l;
      under = under_same f e _ refl refl;
      others = only_other m.sender m.receiver d;
    }))

elected_keeps : (f : ℕ) (m : Message) (e : Entry) → Apart m → Held (KeptBy f m.receiver e) (elected_to m e (join e m.number m.sender))
elected_keeps f m e d = by (can_join e m.number m.sender) refl
  where
    by : (b : Bool) → can_join e m.number m.sender ≡ b → Held (KeptBy f m.receiver e) (elected_to m e (cond b (Some (joined e m.number m.sender)) None))
    by true h =
        let up = ltb-true e.elected m.number (and_parts (ltb e.elected m.number) _ h).0 in
        record {
          own_site = refl;
          leads = tt;
          under = λ u. record { numbered = omega arith; led = λ k. absurd (omega arith) };
          others = only_other m.sender m.receiver d;
        }
    by false h = tt

-- what comes from the coordinator of the receiver finds no role there
matched_roleless : (m : Message) (e e' : Entry) (r : Option Role) → coordinator m.kind m ≡ m.sender → Apart m → not (matches e m) ≡ false → Leads m.receiver e r → Leads m.receiver e' r
matched_roleless m e e' r c d b =
    let both = and_parts (eqb e.elected m.number) (eqb e.lead (coordinator m.kind m)) (not-false (matches e m) b) in
    let from = eqb-true e.lead (coordinator m.kind m) both.1 in
    roleless m.receiver e e' r (λ l. d (sym c ∙ sym from ∙ l.itself))

attempted_keeps : (f : ℕ) (o : Outcome) (m : Message) (e : Entry) (r : Option Role) → coordinator m.kind m ≡ m.sender → Apart m → Leads m.receiver e r → Held (KeptBy f m.receiver e) (attempted o m e r)
attempted_keeps f o m e r c d l =
    held_unless (KeptBy f m.receiver e) (not (matches e m)) _ refusal.Stale (λ b.
    held_unless (KeptBy f m.receiver e) (decided e.state || leb m.number e.attempt) _ refusal.Unfit (λ i.
    record {
      own_site = refl;
      leads = matched_roleless m e _ r c d b l;
      under = under_same f e _ refl refl;
      others = only_other m.sender m.receiver d;
    }))

concluded_keeps : (f : ℕ) (o : Outcome) (m : Message) (e : Entry) (r : Option Role) → coordinator m.kind m ≡ m.sender → Apart m → Leads m.receiver e r → Held (KeptBy f m.receiver e) (concluded o m e r)
concluded_keeps f o m e r c d l =
    held_unless (KeptBy f m.receiver e) (not (matches e m)) _ refusal.Stale (λ b.
    held_unless (KeptBy f m.receiver e) (decided e.state) _ refusal.Unfit (λ i.
    record {
      own_site = refl;
      leads = matched_roleless m e _ r c d b l;
      under = under_same f e _ refl refl;
      others = has_none m.receiver;
    }))

pub received_keeps : (f : ℕ) (k : Kind) (m : Message) (e : Entry) (r : Option Role) → m.kind ≡ k → Apart m → Leads m.receiver e r → Held (KeptBy f m.receiver e) (received k m e r)
received_keeps f kind.Start m e r h d l = tt
received_keeps f kind.Yes m e r h d l = tt
received_keeps f kind.No m e r h d l = tt
received_keeps f kind.Elected m e r h d l = elected_keeps f m e d
received_keeps f (kind.Report t a) m e r h d l = tt
received_keeps f kind.PreCommit m e r h d l = attempted_keeps f outcome.Commit m e r (ap (λ y. coordinator y m) h) d l
received_keeps f kind.PreAbort m e r h d l = attempted_keeps f outcome.Abort m e r (ap (λ y. coordinator y m) h) d l
received_keeps f kind.Ack m e r h d l = tt
received_keeps f kind.Commit m e r h d l = concluded_keeps f outcome.Commit m e r (ap (λ y. coordinator y m) h) d l
received_keeps f kind.Abort m e r h d l = concluded_keeps f outcome.Abort m e r (ap (λ y. coordinator y m) h) d l

count_keeps : (s : ℕ) (e : Entry) (x : Option Role) → Leads s e x → Held (λ y. Leading s e) (count_of x)
count_keeps s e None l = tt
count_keeps s e (Some r) l = l

leading_leads : (s : ℕ) (e : Entry) (x : Option Role) → Leading s e → Leads s e x
leading_leads s e None l = tt
leading_leads s e (Some r) l = l

counted_leads : (s : ℕ) (e : Entry) (r : Option Role) (k : Kind) (t : ℕ) → Leads s e r → Leads s e (counted_by r k t)
counted_leads s e None k t l = tt
counted_leads s e (Some r) k t l = leading_leads s e (counted r k t) l

-- only a site with a role counts
pub tallied_keeps : (s : ℕ) (m : Message) (e : Entry) (r : Option Role) → Leads s e r → Held (λ y. Leading s e) (tallied m e r)
tallied_keeps s m e r l =
    held_unless (λ y. Leading s e) (not (matches e m)) _ refusal.Stale (λ b.
    count_keeps s e (counted_by r m.kind m.sender) (counted_leads s e r m.kind m.sender l))

attempt_leading : (o : Outcome) (s : ℕ) (e e' : Entry) → e'.lead ≡ e.lead → e'.state ≡ pre_state o → Leading s e → Leading s e'
attempt_leading outcome.Commit s e e' a t l = record { itself = a ∙ l.itself; undecided = ap decided t; has_voted = ap is_initial t }
attempt_leading outcome.Abort s e e' a t l = record { itself = a ∙ l.itself; undecided = ap decided t; has_voted = ap is_initial t }

ruled_keeps : (f s g : ℕ) (e : Entry) (x : Option Ruling) → Leading s e → Held (KeptBy f s e) (ruled s g e x)
ruled_keeps f s g e None l = tt
ruled_keeps f s g e (Some (ruling.Attempt o)) l = record {
  own_site = refl;
  leads = attempt_leading o s e _ refl refl l;
  under = under_same f e _ refl refl;
  others = without_itself g s;
}
ruled_keeps f s g e (Some (ruling.Decide o)) l = record {
  own_site = refl;
  leads = tt;
  under = under_same f e _ refl refl;
  others = without_itself g s;
}

pub advanced_keeps : (f : ℕ) (q : Quorums) (all s : ℕ) (e : Entry) (r : Option Role) → Leads s e r → Held (KeptBy f s e) (advanced q all s e r)
advanced_keeps f q all s e None l = tt
advanced_keeps f q all s e (Some r) l = ruled_keeps f s (group_of all r) e (ruling_of q all r) l

-- an undecided coordinator agrees with its role
pub leads_agrees : (s : ℕ) (e : Entry) (r : Option Role) → Leads s e r → RoleAgrees e r
leads_agrees s e None l = tt
leads_agrees s e (Some (role.Polling p)) l = l.undecided
leads_agrees s e (Some (role.Canvassing c)) l =
    (λ t. absurd (true≢false (sym (ap decided t) ∙ l.undecided)), λ t. absurd (true≢false (sym (ap decided t) ∙ l.undecided)))
leads_agrees s e (Some (role.Attempting t)) l = l.undecided
