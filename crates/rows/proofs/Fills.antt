-- Filling the first rows with one record.
use Rattle.std.proofs.Common.{◌≡◌, ℕ, zero, suc, ◌≤◌, List, ◌∷◌, ◌++◌, length, take, drop, replicate, refl, sym, ap, ◌∙◌, length-take-le}
use Rattle.std.proofs.lemmas.List.{drop-map, length-replicate, map-append, take_at}
use Rattle.rules.specs.Entries.{plain}
use Rattle.rules.specs.declared.record.Record.{Record}
use Rattle.rows.specs.Rows.{plain_rows}

plain_replicate : (n : ℕ) (r : Record) → plain_rows (replicate n r) ≡ replicate n (plain r)
plain_replicate zero r = refl
plain_replicate (suc n) r = ap (λ t. plain r ∷ t) (plain_replicate n r)

-- the first n of the rows rs are filled: they are the rows xs
module _ (n : ℕ) (r : Record) (rs xs : List Record) (within : n ≤ length rs) (filled : xs ≡ replicate (length (take n rs)) r) where
  first : xs ≡ replicate n r
  first = filled ∙ ap (λ k. replicate k r) (length-take-le n rs within)

  pub filled_entries : plain_rows (take n (xs ++ drop n rs)) ≡ replicate n (plain r)
  filled_entries =
      ap plain_rows (take_at xs (drop n rs) n (ap length first ∙ length-replicate n r) ∙ first) ∙ plain_replicate n r

  pub filled_rows : plain_rows (xs ++ drop n rs) ≡ replicate n (plain r) ++ drop n (plain_rows rs)
  filled_rows =
      map-append plain xs (drop n rs)
      ∙ ap (λ t. t ++ plain_rows (drop n rs)) (ap plain_rows first ∙ plain_replicate n r)
      ∙ ap (λ t. replicate n (plain r) ++ t) (sym (drop-map plain n rs))
