-- The stage of a new approval.
use Rattle.std.proofs.Common.{◌≡◌, ℕ, List, length, replicate, Ok, arith}
use Rattle.std.proofs.lemmas.Bool.Decides.{nat_tests}
use Rattle.net.specs.declared.net.Net.{Net}
use Rattle.rehearsal.specs.Opened.{IsOpened}
use Rattle.rows.specs.Rows.{row_opened}
use Rattle.rules.specs.declared.record.Record.{Record}
use Rattle.rules.specs.World.{Stored, world, no_message}
use Rattle.rules.specs.declared.message.Message.{Message}
use Rattle.vault.specs.Opening.{opening}
use Rattle.votes.specs.Ballots.{Ballot}
use Rattle.rehearsal.specs.Stages.{stage}
use Rattle.rehearsal.specs.Transcript.{new_world}

-- where the net was opened, sixteen rows are enough for its vault
pub vault_opens : (n : Net) (f : ℕ) → IsOpened n f → opening 16 n.sites f ≡ Ok tt
vault_opens n f e = grind (arith, nat_tests)

-- a new approval has a new stage
pub new_stage_is : (b : Ballot) (n : Net) (f s : ℕ) (rs : List Record) (v : Stored) (ms : List Message) → IsOpened n f → s ≡ n.sites → length rs ≡ 16 → v ≡ row_opened rs s f → ms ≡ replicate 4096 no_message → stage b v.sites (world n v.entries ms) ≡ stage b n.sites (new_world n n.sites f)
new_stage_is b n f s es v ms o d w p r =
    let h = vault_opens n f o in
    let e : opening (length es) s f ≡ Ok tt = cc in
    rw (p, e, d, r)
