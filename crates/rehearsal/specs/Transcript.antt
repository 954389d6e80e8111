-- What a schedule prints.
use Rattle.std.specs.Prelude.{ℕ, cond, List, [], ◌∷◌, ◌++◌, length, min, replicate, take, Ok, Err, Result, nat_lt}
use Rattle.sites.specs.declared.refusal.Refusal.{Refusal}
use Rattle.rules.specs.Calls.{going_by, answer, after}
use Rattle.rules.specs.Entries.{starting}
use Rattle.rules.specs.World.{Core, World, world, no_message}
use Rattle.votes.specs.Ballots.{Ballot, quorums_of, unfixed}
use Rattle.votes.specs.Fixing.{fix_answer, fix_ballot}
use Rattle.net.specs.Nets.{opening}
use Rattle.rows.specs.Rows.{row_left}
use Rattle.tokens.specs.Rows.{Row, rows}
use Rattle.tokens.specs.Text.{lines}
use Rattle.tokens.specs.declared.token.Place.{Place}
use Rattle.schedule.specs.Lines.{spelled}
use Rattle.schedule.specs.declared.line.Ballots.{Ballots}
use Rattle.schedule.specs.declared.line.Line.{Line}
use Rattle.schedule.specs.declared.line.Line.TheVariants as line
use Rattle.schedule.specs.declared.line.Section.TheVariants as section
use Rattle.rehearsal.specs.Text.{answer_line, unreadable_line, site_lines}

-- a line of the calls, over a net with policy b and n sites in the vault
abbrev pub call_text : Ballot → ℕ → World → ℕ → Result Line Place → List ℕ
call_text b n w k (Ok (line.Call c)) = answer_line k (answer (going_by (quorums_of b) n row_left) w c)
call_text b n w k (Ok l) = unreadable_line k 1
call_text b n w k (Err p) = unreadable_line k p.field

abbrev pub call_world : Ballot → ℕ → World → Result Line Place → World
call_world b n w (Ok (line.Call c)) = after (going_by (quorums_of b) n row_left) w c
call_world b n w x = w

-- the lines of the calls, and then the sites
abbrev pub calls_text : Ballot → ℕ → World → List Row → List ℕ
calls_text b n w [] = site_lines n w.entries
calls_text b n w (r ∷ rs) =
    call_text b n w r.place.line (spelled section.Calls r) ++ calls_text b n (call_world b n w (spelled section.Calls r)) rs

-- a new net of n sites under the first coordinator f, with its vault and a blank list (the laws take any list)
abbrev pub new_world : Core → ℕ → ℕ → World
new_world c n f = world c (replicate n (starting f)) (replicate 4096 no_message)

-- the line of the policy; a schedule goes on only after one that is accepted
abbrev pub fixed_text : Result (Unit {0}) Refusal → Ballot → Core → ℕ → ℕ → ℕ → List Row → List ℕ
fixed_text (Ok u) b c n f k rs = answer_line k (Ok u) ++ calls_text b n (new_world c n f) rs
fixed_text (Err x) b c n f k rs = answer_line k (Err x)

-- the votes of the sites that a line gives
abbrev pub votes_of : Ballots → List ℕ
votes_of v = take (min v.sites 16) v.votes

abbrev pub votes_text : Core → ℕ → ℕ → ℕ → Ballots → List Row → List ℕ
votes_text c n f k v rs =
    fixed_text (fix_answer v.commit v.abort (votes_of v)) (fix_ballot v.commit v.abort (votes_of v) unfixed) c n f k rs

abbrev pub policy_text : Core → ℕ → ℕ → ℕ → Result Line Place → List Row → List ℕ
policy_text c n f k (Ok (line.Votes v)) rs = votes_text c n f k v rs
policy_text c n f k (Ok l) rs = unreadable_line k 1
policy_text c n f k (Err p) rs = unreadable_line k p.field

abbrev pub after_roster : Core → ℕ → ℕ → List Row → List ℕ
after_roster c n f [] = []
after_roster c n f (r ∷ rs) = policy_text c n f r.place.line (spelled (section.Policy n) r) rs

-- the line of the roster; a schedule goes on only after one that is accepted
abbrev pub opened_text : Result Core Refusal → ℕ → ℕ → ℕ → List Row → List ℕ
opened_text (Ok c) n f k rs = answer_line k (Ok tt) ++ after_roster c n f rs
opened_text (Err x) n f k rs = answer_line k (Err x)

abbrev pub roster_text : ℕ → Result Line Place → List Row → List ℕ
roster_text k (Ok (line.Roster o)) rs = opened_text (opening o.sites o.first) o.sites o.first k rs
roster_text k (Ok l) rs = unreadable_line k 1
roster_text k (Err p) rs = unreadable_line k p.field

abbrev pub schedule_text : List Row → List ℕ
schedule_text [] = []
schedule_text (r ∷ rs) = roster_text r.place.line (spelled section.Roster r) rs

-- an input of more than 65,536 bytes is not read
abbrev pub transcript : List ℕ → List ℕ
transcript bs = cond (nat_lt 65536 (length bs)) (unreadable_line 0 0) (schedule_text (rows 1 (lines bs)))
