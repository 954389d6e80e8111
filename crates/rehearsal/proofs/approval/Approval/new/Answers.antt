-- what the check does not find by itself
use Rattle.std.proofs.Common.{◌≡◌, replicate, rules}
use Rattle.rules.specs.World.{no_message}
use Rattle.rehearsal.proofs.NewStage.{new_stage_is}
use Rattle.rehearsal.proofs.approval.Approval.new.Goals as goal

pub returns : goal.returns
returns c =
    let m : c.in_ok-list.list.items ≡ replicate 4096 no_message = search rules in
    new_stage_is _ c.args.opened.net _ _ _ _ _ c.args.opened.opened c.sites.ensures.is (search rules) c.new-vault.ensures.stored m
