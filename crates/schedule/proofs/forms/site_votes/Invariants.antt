use Rattle.std.proofs.Common.{◌≡◌, ◌-◌, length, replicate}
use Rattle.schedule.specs.Fields.{past_all}
use Rattle.schedule.proofs.Filled.{filled}
use Rattle.schedule.proofs.forms.site_votes.Given as goal

abbrev pub invariant-loop-site : goal.invariant-loop-site
invariant-loop-site l = record {
  sized : length l.votes ≡ 16;
  told : filled (l.sites - l.site) l.site l.votes l.fields ≡ filled l.sites 0 (replicate 16 0) l.initial.fields;
  left : past_all (l.sites - l.site) l.fields ≡ past_all l.sites l.initial.fields;
}
