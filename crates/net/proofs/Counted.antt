-- A row that refuses to count is as it was.
use Rattle.std.proofs.Common.{◌≡◌, ℕ, Ok, Err, Result, refl, ap}
use Rattle.std.proofs.lemmas.List.{set-get_or}
use Rattle.sites.specs.declared.refusal.Refusal.{Refusal}
use Rattle.rules.specs.Plans.{role_after}
use Rattle.rules.specs.World.{Core, row_at, no_row, with_rows, with_role, count_net}
use Rattle.rules.specs.declared.role.Role.{Role}

pub counted_net : (c : Core) (s : ℕ) (x : Result Role Refusal) → with_rows c c.sent (with_role c s (role_after x (row_at c s).role)) ≡ count_net c s x
counted_net c s (Ok r) = refl
counted_net c s (Err e) = ap (λ rows. with_rows c c.sent rows) (set-get_or c.rows.row s no_row)
