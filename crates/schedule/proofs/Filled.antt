use Rattle.std.proofs.Common.{◌≡◌, ℕ, zero, suc, ◌+◌, ◌-◌, ◌<◌, ◌≤◌, List, [], ◌∷◌, ◌++◌, length, set, replicate, Ok, Err, Result, sym, refl, ap, ◌∙◌, arith}
use lib.ListN.{replicate-append-replicate}
use Rattle.std.proofs.lemmas.List.{set_at, append_assoc, length_push}
use Rattle.tokens.specs.declared.token.Place.{Place}
use Rattle.tokens.specs.Rows.{Row, past}
use Rattle.schedule.specs.Fields.{then, number_at, numbers, past_all}
use Rattle.schedule.specs.Lines.{padded}

-- k more numbers are read into vs, from index i on
abbrev pub filled : ℕ → ℕ → List ℕ → Row → Result (List ℕ) Place
filled zero i vs r = Ok vs
filled (suc k) i vs r = then (number_at r) (λ v. filled k (i + 1) (set vs i v) (past r))

pub one_more : (n i : ℕ) → i < n → n - i ≡ suc (n - (i + 1))
one_more n i l = omega arith

-- n numbers are wanted, of which i are read
module _ (n i : ℕ) (l : i < n) (vs : List ℕ) (r : Row) where
  pub filled_more : (v : ℕ) → Ok v ≡ number_at r → filled (n - (i + 1)) (i + 1) (set vs i v) (past r) ≡ filled (n - i) i vs r
  filled_more v e = rw (one_more n i l, ← e)

  pub filled_bad : (p : Place) → Err p ≡ number_at r → Err p ≡ filled (n - i) i vs r
  filled_bad p e = rw (one_more n i l, ← e)

  pub past_more : past_all (n - (i + 1)) (past r) ≡ past_all (n - i) r
  past_more = rw (one_more n i l)

pub filled_all : (n i : ℕ) (vs : List ℕ) (r : Row) → n ≤ i → Ok vs ≡ filled (n - i) i vs r
filled_all n i vs r l = let z : n - i ≡ 0 = omega arith in rw z

pub past_whole : (n i : ℕ) (r : Row) → n ≤ i → r ≡ past_all (n - i) r
past_whole n i r l = let z : n - i ≡ 0 = omega arith in rw z

filled_as : (k : ℕ) (xs zs : List ℕ) (r : Row) → filled k (length xs) (xs ++ (replicate k 0 ++ zs)) r ≡ then (numbers k r) (λ ys. Ok (xs ++ (ys ++ zs)))
filled_as zero xs zs r = refl
filled_as (suc k) xs zs r = first (λ v. filled_as k (xs ++ v ∷ []) zs (past r)) (number_at r)
  where
    rest : (v : ℕ) (o : Result (List ℕ) Place) → then {Y = List ℕ} o (λ ys. Ok ((xs ++ v ∷ []) ++ (ys ++ zs))) ≡ then (then o (λ vs. Ok (v ∷ vs))) (λ ys. Ok (xs ++ (ys ++ zs)))
    rest v (Ok ys) = rw append_assoc
    rest v (Err p) = refl

    first : ((v : ℕ) → filled k (length (xs ++ v ∷ [])) ((xs ++ v ∷ []) ++ (replicate k 0 ++ zs)) (past r) ≡ then (numbers k (past r)) (λ ys. Ok ((xs ++ v ∷ []) ++ (ys ++ zs)))) → (o : Result ℕ Place) → then o (λ v. filled k (length xs + 1) (set (xs ++ (0 ∷ (replicate k 0 ++ zs))) (length xs) v) (past r)) ≡ then (then o (λ v. then (numbers k (past r)) (λ vs. Ok (v ∷ vs)))) (λ ys. Ok (xs ++ (ys ++ zs)))
    first more (Err p) = refl
    first more (Ok v) =
        rw (set_at xs 0 (replicate k 0 ++ zs) v (length xs) refl, ← length_push xs v, ← append_assoc xs (v ∷ []) (replicate k 0 ++ zs)) (more v ∙ rest v (numbers k (past r)))

pub filled_padded : (n : ℕ) (r : Row) → n ≤ 16 → filled n 0 (replicate 16 0) r ≡ then (numbers n r) (padded n)
filled_padded n r l =
    let e : n + (16 - n) ≡ 16 = omega arith in
    ap (λ vs. filled n 0 vs r) (sym (replicate-append-replicate n (16 - n) 0 ∙ ap (λ k. replicate k 0) e)) ∙ filled_as n [] (replicate (16 - n) 0) r
