-- what the check does not find by itself
use Rattle.std.proofs.Common.{◌∙◌, length-set}
use Rattle.std.proofs.lemmas.Result.{err_from_is_err_and}
use Rattle.schedule.proofs.Filled.{filled_more, filled_bad, filled_all, filled_padded, past_more, past_whole}
use Rattle.schedule.proofs.forms.site_votes.Goals as goal

pub loop-site-preserved : goal.loop-site-preserved
loop-site-preserved c =
    let n = c.args.sites in
    let i = c.loop-site.site in
    let l = c.loop-site-test.true in
    let vs = c.loop-site.votes in
    let r = c.loop-site.fields in
    let e = c.number.ensures.moves in record {
      sized = length-set _ _ _ ∙ c.loop-site.invariant.sized;
      told = rw e (filled_more n i l vs r _ c.in_ok-votes.ensures.told ∙ c.loop-site.invariant.told);
      left = rw e (past_more n i l vs r ∙ c.loop-site.invariant.left);
    }

pub returns-in_err-votes : goal.returns-in_err-votes
returns-in_err-votes c =
    let p = err_from_is_err_and c.from_residual.result c.from_residual.ensures.1 in
    let bad = filled_bad c.args.sites c.loop-site.site c.loop-site-test.true c.loop-site.votes _ _ c.in_err-votes.ensures.told in
    rw (p.1, p.2) (record { told = bad ∙ c.loop-site.invariant.told ∙ filled_padded c.args.sites _ c.requires; moves = tt })

pub returns : goal.returns
returns c = record {
  told = filled_all _ _ _ _ c.loop-site-test.false ∙ c.loop-site.invariant.told ∙ filled_padded c.args.sites _ c.requires;
  moves = past_whole _ _ _ c.loop-site-test.false ∙ c.loop-site.invariant.left;
}
