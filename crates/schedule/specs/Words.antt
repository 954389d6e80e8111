-- The words of a schedule.
use Rattle.std.specs.Prelude.{ℕ, cond, List, Some, None, codes, Option}
use Rattle.std.specs.Str.{bytes_eq}
use Rattle.rules.specs.declared.call.Vote.{Vote}
use Rattle.rules.specs.declared.call.Vote.TheVariants as vote
use Rattle.schedule.specs.declared.words.Keyword.{Keyword}
use Rattle.schedule.specs.declared.words.Keyword.TheVariants as keyword

abbrev pub keyword_of : List ℕ → Option Keyword
keyword_of bs =
    cond (bytes_eq bs (codes "roster")) (Some keyword.Roster)
    (cond (bytes_eq bs (codes "votes")) (Some keyword.Votes)
    (cond (bytes_eq bs (codes "begin")) (Some keyword.Begin)
    (cond (bytes_eq bs (codes "vote")) (Some keyword.Vote)
    (cond (bytes_eq bs (codes "deliver")) (Some keyword.Deliver)
    (cond (bytes_eq bs (codes "advance")) (Some keyword.Advance) None)))))

abbrev pub vote_of : List ℕ → Option Vote
vote_of bs = cond (bytes_eq bs (codes "yes")) (Some vote.Yes) (cond (bytes_eq bs (codes "no")) (Some vote.No) None)
