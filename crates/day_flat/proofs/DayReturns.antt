-- Words compared as the definition compares lists, and the number that they mix into, word by word.
use Rattle.std.proofs.Common.{◌≡◌, refl, sym, ap, ◌∙◌, List, [], ◌∷◌, ℕ, zero, suc, ◌+◌, ◌≤◌, ◌<◌, length, get_or, drop, drop-cons, eqb, ◌&&◌, arith}
use Rattle.std.proofs.lemmas.List.{drop_all}
use lib.Pointwise.{pointwise}
use Rattle.laws.specs.Tests.{same_list}
use Rattle.day_flat.specs.Day.{mixed, fingerprint_of}

pub same-pointwise : (xs ys : List ℕ) → pointwise eqb xs ys ≡ same_list eqb xs ys
unfolding same_list
same-pointwise [] [] = refl
same-pointwise [] (y ∷ ys) = refl
same-pointwise (x ∷ xs) [] = refl
same-pointwise (x ∷ xs) (y ∷ ys) = ap (λ b. eqb x y && b) (same-pointwise xs ys)

pub mixed-step : (ws : List ℕ) (acc i : ℕ) → i < length ws → fingerprint_of (mixed acc (get_or ws i 0)) (drop (i + 1) ws) ≡ fingerprint_of acc (drop i ws)
unfolding fingerprint_of
mixed-step ws acc i h =
    let n : i + 1 ≡ suc i = omega arith in ap (λ k. fingerprint_of (mixed acc (get_or ws i 0)) (drop k ws)) n ∙ sym (ap (fingerprint_of acc) (drop-cons ws i 0 h))

pub mixed-end : (ws : List ℕ) (acc i : ℕ) → length ws ≤ i → acc ≡ fingerprint_of acc (drop i ws)
unfolding fingerprint_of
mixed-end ws acc i h = sym (ap (fingerprint_of acc) (drop_all i ws h))
