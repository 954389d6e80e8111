-- Bytes that are tested one by one.
use Rattle.std.proofs.Common.{◌≡◌, ℕ, ◌+◌, List, [], ◌∷◌, length, get_or, refl, add-one, arith}

-- the bytes ws stand in bs from place i on
abbrev pub Spells : List ℕ → ℕ → List ℕ → Type 0
Spells bs i [] = Unit {0}
Spells bs i (w ∷ ws) = (get_or bs i 0 ≡ w) × Spells bs (i + 1) ws

later : (ws : List ℕ) (b : ℕ) (bs : List ℕ) (i : ℕ) → Spells (b ∷ bs) (i + 1) ws → Spells bs i ws
later [] b bs i h = tt
later (w ∷ ws) b bs i h = (rw add-one at h.0, later ws b bs (i + 1) h.1)

pub spelled : (ws bs : List ℕ) → length bs ≡ length ws → Spells bs 0 ws → bs ≡ ws
spelled [] [] e h = refl
spelled [] (b ∷ bs) e h = absurd (omega arith)
spelled (w ∷ ws) [] e h = absurd (omega arith)
spelled (w ∷ ws) (b ∷ bs) e h = let t = spelled ws bs (omega arith) (later ws b bs 0 h.1) in cc
