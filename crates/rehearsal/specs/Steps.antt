-- What the steps of a rehearsal tell.
use Rattle.std.specs.Prelude.{◌≡◌, ℕ, List, [], ◌++◌, Some, None, Option, Result, string_bytes}
use Rattle.tokens.specs.Rows.{Row}
use Rattle.tokens.specs.declared.token.Place.{Place}
use Rattle.schedule.specs.declared.line.Line.{Line}
use Rattle.votes.specs.declared.ballot.Votes.{Votes}
use Rattle.rehearsal.specs.Approvals.{core_of, new_stage}
use Rattle.rehearsal.specs.Faults.{answered_then}
use Rattle.rehearsal.specs.Stages.{calls_left}
use Rattle.rehearsal.specs.Transcript.{after_roster, policy_text, roster_text}
use Rattle.rehearsal.specs.declared.fault.Fault.{Fault}
use Rattle.rehearsal.specs.declared.opening.NewNet.{NewNet}
use Rattle.rehearsal.specs.declared.schedules.Rehearsal.{Rehearsal}

-- the text so far, and after it what f tells of the lines that are left
abbrev pub told : Rehearsal → (List Row → List ℕ) → List ℕ
told r f = string_bytes r.text ++ f r.reader

-- what follows the roster, where it opened a net
abbrev pub after_opening : Option NewNet → List Row → List ℕ
after_opening (Some n) rs = after_roster (core_of n) (core_of n).sites n.first rs
after_opening None rs = []

-- what follows the policy for a net, where it was accepted
abbrev pub after_fixing : NewNet → Option Votes → List Row → List ℕ
after_fixing n (Some p) rs = calls_left (new_stage n p) rs
after_fixing n None rs = []

-- what a line of the roster makes tells on as the rules say
abbrev pub Opens : Result Line Place → Result NewNet Fault → Type 0
Opens x made =
    (k : ℕ) (rs : List Row) → answered_then k made (λ n. after_opening (Some n) rs) ≡ roster_text k x rs

-- and so does what a line of the policy makes, whichever the net is
abbrev pub Fixes : Result Line Place → Result Votes Fault → Type 0
Fixes x made =
    (n : NewNet) (k : ℕ) (rs : List Row) →
    answered_then k made (λ p. after_fixing n (Some p) rs) ≡ policy_text (core_of n) (core_of n).sites n.first k x rs
