-- States and the letters that they are written by.
use Rattle.std.specs.Prelude.{◌≡◌, ℕ, cond, Some, None, Option, Ok, Err, Result, ◌==◌}
use Rattle.rules.specs.declared.state.State.{State}
use Rattle.rules.specs.declared.state.State.TheVariants as state
use Rattle.rules.specs.declared.state.UnknownLetter.{UnknownLetter}

-- q, w, p, n, c, a
abbrev pub letter_of : State → ℕ
letter_of state.Initial = 113
letter_of state.Waiting = 119
letter_of state.PreCommitted = 112
letter_of state.PreAborted = 110
letter_of state.Committed = 99
letter_of state.Aborted = 97

abbrev pub state_of : ℕ → Option State
state_of c =
    cond (c == 113) (Some state.Initial)
    (cond (c == 119) (Some state.Waiting)
    (cond (c == 112) (Some state.PreCommitted)
    (cond (c == 110) (Some state.PreAborted)
    (cond (c == 99) (Some state.Committed)
    (cond (c == 97) (Some state.Aborted) None)))))

-- the state, or the letter that stands for none
abbrev pub read_by : Option State → ℕ → Result State UnknownLetter
read_by (Some s) c = Ok s
read_by None c = Err (record { 0 = c })

abbrev pub read_state : ℕ → Result State UnknownLetter
read_state c = read_by (state_of c) c

-- a state is read back from its letter
abbrev pub LettersBack : Type 0
LettersBack = (s : State) → state_of (letter_of s) ≡ Some s

-- and from no other
abbrev pub LettersOnly : Type 0
LettersOnly = (c : ℕ) (s : State) → state_of c ≡ Some s → c ≡ letter_of s
