-- what the check does not find by itself
use Rattle.std.proofs.Common.{rules, arith, codes, ap, sym}
use Rattle.schedule.specs.Words.{keyword_of}
use Rattle.schedule.proofs.Spelling.{spelled}
use Rattle.schedule.proofs.words.Keyword.spelled_by.Goals as goal

pub returns-in-roster : goal.returns-in-roster
returns-in-roster c = ap keyword_of (sym (spelled (codes "roster") c.args.bytes.now (omega arith) (search rules)))

pub returns-in-deliver : goal.returns-in-deliver
returns-in-deliver c = ap keyword_of (sym (spelled (codes "deliver") c.args.bytes.now (omega arith) (search rules)))

pub returns-in-advance : goal.returns-in-advance
returns-in-advance c = ap keyword_of (sym (spelled (codes "advance") c.args.bytes.now (omega arith) (search rules)))
