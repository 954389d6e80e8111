-- What is printed of a line that is carried out, or is not.
use Rattle.std.specs.Prelude.{ℕ, List, ◌++◌, Ok, Err, codes, decimal, Result}
use Rattle.sites.specs.Refusals.{number}
use Rattle.sites.specs.declared.refusal.Refusal.TheVariants as refusal
use Rattle.rehearsal.specs.Text.{answer_line, unreadable_line}
use Rattle.rehearsal.specs.declared.fault.Fault.{Fault}
use Rattle.rehearsal.specs.declared.fault.Fault.TheVariants as fault

abbrev pub fault_text : Fault → List ℕ
fault_text (fault.Unreadable f) = decimal (number refusal.Unreadable) ++ (codes "," ++ decimal f)
fault_text (fault.Refused x) = decimal (number x)

-- the line that answers line k
abbrev pub answered : {A : Type 0} → ℕ → Result A Fault → List ℕ
answered k (Ok a) = answer_line k (Ok tt)
answered k (Err (fault.Unreadable f)) = unreadable_line k f
answered k (Err (fault.Refused x)) = answer_line k (Err x)

-- and after an accepted line what f tells of what it made
abbrev pub answered_then : {A : Type 0} → ℕ → Result A Fault → (A → List ℕ) → List ℕ
answered_then k (Ok a) f = answered k (Ok a) ++ f a
answered_then {A = A} k (Err x) f = answered {A = A} k (Err x)
