use Rattle.std.proofs.Common.{◌≡◌, length}
use Rattle.rehearsal.specs.Approvals.{stage_of}
use Rattle.rehearsal.specs.Stages.{calls_left}
use Rattle.rehearsal.specs.Steps.{told}
use Rattle.rehearsal.proofs.schedules.Rehearsal.run_calls.Given as goal

abbrev pub invariant-loop-reading : goal.invariant-loop-reading
invariant-loop-reading l =
    told l.self (calls_left (stage_of l.approval)) ≡ told l.initial.self (calls_left (stage_of l.initial.approval))

abbrev pub decreases-loop-reading : goal.decreases-loop-reading
decreases-loop-reading l = length l.self.reader
