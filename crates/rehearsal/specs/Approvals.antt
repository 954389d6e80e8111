-- The stage of an approval, and of a new one.
use Rattle.rules.specs.World.{Core, world}
use Rattle.rows.specs.Rows.{row_stored}
use Rattle.votes.specs.declared.ballot.Votes.{Votes}
use Rattle.rehearsal.specs.Transcript.{new_world}
use Rattle.rehearsal.specs.Stages.{Stage, stage}
use Rattle.rehearsal.specs.declared.approval.Approval.{Approval}
use Rattle.rehearsal.specs.declared.opening.NewNet.{NewNet}

abbrev pub stage_of : Approval → Stage
stage_of a = stage a.policy.ballot (row_stored a.vault).sites (world a.net (row_stored a.vault).entries a.list.items)

abbrev pub core_of : NewNet → Core
core_of n = n.net

abbrev pub new_stage : NewNet → Votes → Stage
new_stage n p = stage p.ballot (core_of n).sites (new_world (core_of n) (core_of n).sites n.first)
