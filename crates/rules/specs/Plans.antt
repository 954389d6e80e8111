-- What one site does at each step: its record, its role, and what it sends.
use Rattle.std.specs.Prelude.{ℕ, Bool, false, cond, not, ◌&&◌, ◌||◌, Some, None, Ok, Err, Option, Result, ◌==◌, nat_le, nat_lt}
use Rattle.sites.specs.Sets.{only, without_site}
use Rattle.sites.specs.declared.refusal.Refusal.{Refusal}
use Rattle.sites.specs.declared.refusal.Refusal.TheVariants as refusal
use Rattle.quorum.specs.Quorums.{Quorums}
use Rattle.rules.specs.Counting.{matches, counted_by, is_initial}
use Rattle.rules.specs.Entries.{Entry, plain, in_state, attempted_in, join, decided, pre_state, final_state, voted_state}
use Rattle.rules.specs.declared.call.Vote.{Vote}
use Rattle.rules.specs.declared.call.Vote.TheVariants as vote
use Rattle.rules.specs.declared.message.Kind.{Kind}
use Rattle.rules.specs.declared.message.Kind.TheVariants as kind
use Rattle.rules.specs.declared.message.Message.{Message}
use Rattle.rules.specs.declared.role.Attempt.{Attempt}
use Rattle.rules.specs.declared.role.Canvass.{Canvass}
use Rattle.rules.specs.declared.role.Poll.{Poll}
use Rattle.rules.specs.declared.role.Role.{Role}
use Rattle.rules.specs.declared.role.Role.TheVariants as role
use Rattle.rules.specs.declared.role.Ruling.{Ruling}
use Rattle.rules.specs.declared.role.Ruling.TheVariants as ruling
use Rattle.rules.specs.declared.state.Outcome.{Outcome}
use Rattle.rules.specs.declared.state.Outcome.TheVariants as outcome
use Rattle.rules.specs.declared.state.State.TheVariants as state
use Rattle.rules.specs.declared.step.Step.{Step}

-- a step: the site writes its record, has that role then, and sends a message of that kind to each site of a set
pub record Plan : Type 0 where
  pub site : ℕ
  pub own : Entry
  pub role : Option Role
  pub kind : Kind
  pub to : ℕ

abbrev pub plan : ℕ → Entry → Option Role → Kind → ℕ → Plan
plan s e r k x = record { site = s; own = e; role = r; kind = k; to = x }

-- a step by its plain parts
abbrev pub plain_step : Step → Plan
plain_step t = plan t.site (plain t.own) t.role t.kind t.to

abbrev pub planned : Result Step Refusal → Result Plan Refusal
planned (Ok t) = Ok (plain_step t)
planned (Err x) = Err x

-- what goes out with an attempt
abbrev pub pre_kind : Outcome → Kind
pre_kind outcome.Commit = kind.PreCommit
pre_kind outcome.Abort = kind.PreAbort

-- what goes out with a decision
abbrev pub final_kind : Outcome → Kind
final_kind outcome.Commit = kind.Commit
final_kind outcome.Abort = kind.Abort

-- what goes back with a vote
abbrev pub vote_kind : Vote → Kind
vote_kind vote.Yes = kind.Yes
vote_kind vote.No = kind.No

-- begin: the first coordinator s, one of the sites all, gives its vote
abbrev pub begin_plan : Vote → ℕ → ℕ → Entry → Option Role → Plan
begin_plan vote.Yes s all e r =
    plan s (in_state e state.Waiting) (Some (role.Polling (record { yes = only s; no = false }))) kind.Start (without_site all s)
begin_plan vote.No s all e r = plan s (attempted_in e state.Aborted) r kind.Abort (without_site all s)

abbrev pub begun : Vote → ℕ → ℕ → Entry → Option Role → Result Plan Refusal
begun v s all e r =
    cond (nat_lt 1 e.elected) (Err refusal.Stale)
    (cond (not (is_initial e.state)) (Err refusal.Unfit) (Ok (begin_plan v s all e r)))

-- vote: the receiver of a start answers it
abbrev pub voted : Vote → Message → Entry → Option Role → Result Plan Refusal
voted v m e r =
    cond (not (matches e m)) (Err refusal.Stale)
    (cond (not (is_initial e.state)) (Err refusal.Unfit)
    (Ok (plan m.receiver (in_state e (voted_state v)) r (vote_kind v) (only m.sender))))

-- an elected message: the receiver goes under the greater number, drops its role, and reports
abbrev pub elected_to : Message → Entry → Option Entry → Result Plan Refusal
elected_to m e (Some e') = Ok (plan m.receiver e' None (kind.Report e.state e.attempt) (only m.sender))
elected_to m e None = Err refusal.Stale

-- an attempt reaches the receiver, which acknowledges it
abbrev pub attempted : Outcome → Message → Entry → Option Role → Result Plan Refusal
attempted o m e r =
    cond (not (matches e m)) (Err refusal.Stale)
    (cond (decided e.state || nat_le m.number e.attempt) (Err refusal.Unfit)
    (Ok (plan m.receiver (attempted_in e (pre_state o)) r kind.Ack (only m.sender))))

-- a decision reaches the receiver, which sends nothing
abbrev pub concluded : Outcome → Message → Entry → Option Role → Result Plan Refusal
concluded o m e r =
    cond (not (matches e m)) (Err refusal.Stale)
    (cond (decided e.state) (Err refusal.Unfit)
    (Ok (plan m.receiver (in_state e (final_state o)) r (final_kind o) 0)))

-- deliver, a message that is not counted
abbrev pub received : Kind → Message → Entry → Option Role → Result Plan Refusal
received kind.Elected m e r = elected_to m e (join e m.number m.sender)
received kind.PreCommit m e r = attempted outcome.Commit m e r
received kind.PreAbort m e r = attempted outcome.Abort m e r
received kind.Commit m e r = concluded outcome.Commit m e r
received kind.Abort m e r = concluded outcome.Abort m e r
received k m e r = Err refusal.WrongKind

-- deliver, a message that is counted: the role then
abbrev pub count_of : Option Role → Result Role Refusal
count_of None = Err refusal.Unfit
count_of (Some r) = Ok r

abbrev pub tallied : Message → Entry → Option Role → Result Role Refusal
tallied m e r = cond (not (matches e m)) (Err refusal.Stale) (count_of (counted_by r m.kind m.sender))

-- a role that does not count the message stays
abbrev pub role_after : Result Role Refusal → Option Role → Option Role
role_after (Ok x) r = Some x
role_after (Err e) r = r

-- advance: what the votes, the reports or the acknowledgements allow
abbrev pub poll_ruling : ℕ → Poll → Option Ruling
poll_ruling all p =
    cond p.no (Some (ruling.Decide outcome.Abort))
    (cond (p.yes == all) (Some (ruling.Attempt outcome.Commit)) None)

-- the first row that holds, by what was reported
abbrev pub canvass_ruling : Bool → Bool → Canvass → Option Ruling
canvass_ruling commit abort c =
    cond c.aborted (Some (ruling.Decide outcome.Abort))
    (cond c.committed (Some (ruling.Decide outcome.Commit))
    (cond (c.committable && commit) (Some (ruling.Attempt outcome.Commit))
    (cond (not c.committable && abort) (Some (ruling.Attempt outcome.Abort)) None)))

-- is a set a quorum for an outcome
abbrev pub quorum_for : (ℕ → Bool) → (ℕ → Bool) → Outcome → ℕ → Bool
quorum_for commits aborts outcome.Commit x = commits x
quorum_for commits aborts outcome.Abort x = aborts x

abbrev pub attempt_ruling : Bool → Attempt → Option Ruling
attempt_ruling enough a = cond enough (Some (ruling.Decide a.outcome)) None

abbrev pub ruling_of : Quorums → ℕ → Role → Option Ruling
ruling_of q all (role.Polling p) = poll_ruling all p
ruling_of q all (role.Canvassing c) = canvass_ruling (q.commits c.reported) (q.aborts c.reported) c
ruling_of q all (role.Attempting t) = attempt_ruling (quorum_for q.commits q.aborts t.outcome t.acked) t

-- the sites that a coordinator speaks to: all of them when polling
abbrev pub group_of : ℕ → Role → ℕ
group_of all (role.Polling p) = all
group_of all (role.Canvassing c) = c.group
group_of all (role.Attempting t) = t.group

-- the coordinator s carries out a ruling in its group g
abbrev pub ruled_plan : ℕ → ℕ → Entry → Ruling → Plan
ruled_plan s g e (ruling.Attempt o) =
    plan s (attempted_in e (pre_state o)) (Some (role.Attempting (record { outcome = o; group = g; acked = only s }))) (pre_kind o) (without_site g s)
ruled_plan s g e (ruling.Decide o) = plan s (attempted_in e (final_state o)) None (final_kind o) (without_site g s)

abbrev pub ruled : ℕ → ℕ → Entry → Option Ruling → Result Plan Refusal
ruled s g e None = Err refusal.Undecided
ruled s g e (Some x) = Ok (ruled_plan s g e x)

abbrev pub advanced : Quorums → ℕ → ℕ → Entry → Option Role → Result Plan Refusal
advanced q all s e None = Err refusal.Unfit
advanced q all s e (Some r) = ruled s (group_of all r) e (ruling_of q all r)
