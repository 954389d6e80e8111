-- Writing messages one after another.
use Rattle.std.proofs.Common.{◌≡◌, ℕ, suc, ◌+◌, ◌<◌, ◌≤◌, List, [], ◌∷◌, ◌++◌, length, take, drop, set, sym, refl, ap, ◌∙◌, add-zero, arith}
use Rattle.std.proofs.lemmas.List.{append_assoc, take-append-drop, take_more_set, drop-set-lt, length-set}
use Rattle.rules.specs.Posting.{written}
use Rattle.rules.specs.declared.message.Message.{Message}
use Rattle.post.specs.Sent.{WrittenAs}

pub written_more : (xs : List Message) (i : ℕ) (new : List Message) (m : Message) (j : ℕ) → j ≡ i + length new → set (written xs i new) j m ≡ written xs i (new ++ (m ∷ []))
written_more xs i [] m j e = ap (λ (k : ℕ). set xs k m) (e ∙ add-zero i)
written_more xs i (x ∷ new) m j e = written_more (set xs i x) (i + 1) new m j (omega arith)

pub length_written : (xs : List Message) (i : ℕ) (new : List Message) → length (written xs i new) ≡ length xs
length_written xs i [] = refl
length_written xs i (m ∷ new) = length_written (set xs i m) (i + 1) new ∙ length-set xs i m

pub written_as : WrittenAs
written_as xs i [] h = sym (rw add-zero (take-append-drop i xs))
written_as xs i (m ∷ ms) h =
    let lt : i < length xs = omega arith in
    let ys : List Message = set xs i m in
    let len : length ys ≡ length xs = length-set xs i m in
    let fits : (i + 1) + length ms ≤ length ys = omega arith in
    let n : (i + 1) + length ms ≡ i + suc (length ms) = omega arith in
    let less : i < (i + 1) + length ms = omega arith in
    written_as ys (i + 1) ms fits
    ∙ ap (λ (t : List Message). t ++ (ms ++ drop ((i + 1) + length ms) ys)) (take_more_set xs i m lt)
    ∙ append_assoc (take i xs) (m ∷ []) (ms ++ drop ((i + 1) + length ms) ys)
    ∙ ap (λ (t : List Message). take i xs ++ (m ∷ (ms ++ t))) (drop-set-lt ((i + 1) + length ms) xs i m less)
    ∙ ap (λ (k : ℕ). take i xs ++ (m ∷ (ms ++ drop k xs))) n
