-- The forms of lines: what a row of fields spells, or the place of its first bad, missing or surplus field.
use Rattle.std.specs.Prelude.{ℕ, ◌-◌, cond, List, [], ◌∷◌, ◌++◌, replicate, Some, None, Ok, Err, Option, Result, nat_le}
use Rattle.rules.specs.declared.call.Call.TheVariants as call
use Rattle.tokens.specs.declared.token.Place.{Place}
use Rattle.tokens.specs.Rows.{Row, Seen, word, end, token, past}
use Rattle.tokens.specs.Seen.{place_of}
use Rattle.schedule.specs.declared.words.Keyword.{Keyword}
use Rattle.schedule.specs.declared.words.Keyword.TheVariants as keyword
use Rattle.schedule.specs.declared.line.Line.{Line}
use Rattle.schedule.specs.declared.line.Line.TheVariants as line
use Rattle.schedule.specs.declared.line.Ballots.{Ballots}
use Rattle.schedule.specs.declared.line.Reading.{Reading}
use Rattle.schedule.specs.declared.line.Section.{Section}
use Rattle.schedule.specs.declared.line.Section.TheVariants as section
use Rattle.schedule.specs.Words.{keyword_of}
use Rattle.schedule.specs.Fields.{then, number_at, vote_at, numbers, past_all}

abbrev pub as_end : Line → Seen → Result Line Place
as_end l (end p) = Ok l
as_end l t = Err (place_of t)

-- the line l, where no field is left
abbrev pub closed_at : Line → Row → Result Line Place
closed_at l r = as_end l (token r)

-- the forms, each from the field after its word on

abbrev pub roster_line : Row → Result Line Place
roster_line r = then (number_at r) (λ n. then (number_at (past r)) (λ f. closed_at (line.Roster (record { sites = n; first = f })) (past (past r))))

abbrev pub begin_line : Row → Result Line Place
begin_line r = then (vote_at r) (λ v. closed_at (line.Call (call.Begin v)) (past r))

abbrev pub vote_line : Row → Result Line Place
vote_line r = then (number_at r) (λ m. then (vote_at (past r)) (λ v. closed_at (line.Call (call.Vote m v)) (past (past r))))

abbrev pub deliver_line : Row → Result Line Place
deliver_line r = then (number_at r) (λ m. closed_at (line.Call (call.Deliver m)) (past r))

abbrev pub advance_line : Row → Result Line Place
advance_line r = then (number_at r) (λ s. closed_at (line.Call (call.Advance s)) (past r))

-- the votes of n sites in sixteen places, of which the others hold 0
abbrev pub padded : ℕ → List ℕ → Result (List ℕ) Place
padded n vs = Ok (vs ++ replicate (16 - n) 0)

abbrev pub ballots : ℕ → ℕ → ℕ → List ℕ → Ballots
ballots c a n vs = record { commit = c; abort = a; sites = n; votes = vs }

-- where there are n sites
abbrev pub votes_line : ℕ → Row → Result Line Place
votes_line n r =
    then (number_at r) (λ c.
    then (number_at (past r)) (λ a.
    then (then (numbers n (past (past r))) (padded n)) (λ vs.
    closed_at (line.Votes (ballots c a n vs)) (past_all n (past (past r))))))

-- the line of each section that a word names, which stands at p: any other word is bad there
abbrev pub roster_form : Place → Option Keyword → Row → Result Line Place
roster_form p (Some keyword.Roster) r = roster_line r
roster_form p k r = Err p

-- for n sites; no line gives the votes of more than sixteen
abbrev pub policy_form : ℕ → Place → Option Keyword → Row → Result Line Place
policy_form n p (Some keyword.Votes) r = cond (nat_le n 16) (votes_line n r) (Err p)
policy_form n p k r = Err p

abbrev pub call_form : Place → Option Keyword → Row → Result Line Place
call_form p (Some keyword.Begin) r = begin_line r
call_form p (Some keyword.Vote) r = vote_line r
call_form p (Some keyword.Deliver) r = deliver_line r
call_form p (Some keyword.Advance) r = advance_line r
call_form p k r = Err p

abbrev pub form : Section → Place → Option Keyword → Row → Result Line Place
form section.Roster p k r = roster_form p k r
form (section.Policy n) p k r = policy_form n p k r
form section.Calls p k r = call_form p k r

abbrev pub by_first : Section → Seen → Row → Result Line Place
by_first s (word w p) r = form s p (keyword_of w) r
by_first s t r = Err (place_of t)

-- the line that a row spells in a section
unfoldable pub spelled : Section → Row → Result Line Place
spelled s r = by_first s (token r) (past r)

-- the first of the rows ahead with its number, and those after it
abbrev pub first_read : Section → List Row → Option Reading
first_read s [] = None
first_read s (r ∷ rs) = Some (record { number = r.place.line; line = spelled s r })

abbrev pub after_first : List Row → List Row
after_first [] = []
after_first (r ∷ rs) = rs
