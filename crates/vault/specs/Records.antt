-- Records are lawful by their type, and so is what is read of a list of them.
use Rattle.std.specs.Prelude.{ℕ, List, map, length, slice_index_or}
use Rattle.std.specs.List.{All}
use Rattle.std.proofs.Common.{sym, subst, ⊎_elim, arith}
use Rattle.std.proofs.lemmas.Bool.{cases_lt}
use Rattle.std.proofs.lemmas.List.{get_or_past}
use Rattle.std.proofs.lemmas.List.Elements.{All-map}
use Rattle.rules.specs.Entries.{Entry, Lawful, plain}
use Rattle.rules.specs.World.{no_entry}
use Rattle.rules.specs.declared.record.Record.{Record}

pub lawful_plain : (r : Record) → Lawful (plain r)
lawful_plain r = (r.counted, r.bounded, r.tried, r.led)

pub lawful_records : (rs : List Record) → All Lawful (map plain rs)
lawful_records rs = All-map Lawful plain rs (λ i d l. lawful_plain (slice_index_or rs i d))

-- so is what is read past them
pub lawful_none : Lawful no_entry
lawful_none = (omega arith, omega arith, omega arith, omega arith)

pub lawful_at : (es : List Entry) → All Lawful es → (s : ℕ) → Lawful (slice_index_or es s no_entry)
lawful_at es h s =
    ⊎_elim (h s no_entry) (λ past. subst Lawful (sym (get_or_past es s no_entry past)) lawful_none) (cases_lt s (length es))
