-- An approval as its calls see it.
use Rattle.std.specs.Prelude.{ℕ, List, Result}
use Rattle.sites.specs.declared.refusal.Refusal.{Refusal}
use Rattle.rules.specs.Calls.{going_by, answer, after}
use Rattle.rules.specs.World.{World}
use Rattle.rules.specs.declared.call.Call.{Call}
use Rattle.rows.specs.Rows.{row_left}
use Rattle.votes.specs.Ballots.{Ballot, quorums_of}
use Rattle.tokens.specs.Rows.{Row}
use Rattle.tokens.specs.declared.token.Place.{Place}
use Rattle.schedule.specs.declared.line.Line.{Line}
use Rattle.rehearsal.specs.Transcript.{call_text, call_world, calls_text}

-- the policy, the number of sites of the vault, and the world
pub record Stage : Type 0 where
  pub policy : Ballot
  pub sites : ℕ
  pub world : World

abbrev pub stage : Ballot → ℕ → World → Stage
stage b n w = record { policy = b; sites = n; world = w }

-- what a call answers and leaves
abbrev pub call_answer : Stage → Call → Result (Unit {0}) Refusal
call_answer s c = answer (going_by (quorums_of s.policy) s.sites row_left) s.world c

abbrev pub call_stage : Stage → Call → Stage
call_stage s c =
    stage s.policy s.sites (after (going_by (quorums_of s.policy) s.sites row_left) s.world c)

-- what line k of the calls tells and leaves
abbrev pub line_text : Stage → ℕ → Result Line Place → List ℕ
line_text s k x = call_text s.policy s.sites s.world k x

abbrev pub line_stage : Stage → Result Line Place → Stage
line_stage s x = stage s.policy s.sites (call_world s.policy s.sites s.world x)

-- what the lines of the calls tell that are left
abbrev pub calls_left : Stage → List Row → List ℕ
calls_left s rs = calls_text s.policy s.sites s.world rs
