-- The loops over a list of boxes: one box more looked at, listed or emptied.
use mathlib.Core.Path.{◌≡◌, refl, sym, ap, ◌∙◌}
use mathlib.Core.Bool.{Bool, true, false, ◌||◌, cond}
use mathlib.Core.List.{List, [], ◌∷◌, ◌++◌, append-nil, append_assoc}
use Prim.Native.Nat.{ℕ, zero, suc, ◌+◌, ◌≤◌, ◌<◌}
use native.Mathlib.Omega.{arith}
use lib.Dec.{eqb}
use lib.ListN.{length, get_or, set, take, drop, length-append, length-map}
use lib.Seq.{sets, sets-eq, length-take-le, take_at, take-take, take-append-le, drop-cons, drop-length, take-suc, get_or-take, get_or-set_same, get_or-set_other}
use borrow.Author.Tests.{eq-eqb, ne_eqb, eqb-true, eqb-false}
use Rattle.laws.specs.Lists.{every, any_of, All}
use Rattle.laws.proofs.Lists.{All-at, any_of-append}
use Rattle.laws.proofs.Flags.{or-false}
use Rattle.box_groups.specs.Boxes.{all_are, emptied_at, up, Looked}

-- ## The first boxes of a list, moved up
pub up-at : (shift : ℕ) (boxes : List ℕ) (k : ℕ) → k < length boxes → get_or (up shift boxes) k 0 ≡ get_or boxes k 0 + shift
up-at shift [] k h = absurd (omega arith)
up-at shift (b ∷ bs) zero h = refl
up-at shift (b ∷ bs) (suc k) h = up-at shift bs k (omega arith)

pub up-many : (boxes : List ℕ) (shift : ℕ) → length (up shift boxes) ≡ length boxes
up-many boxes shift = length-map boxes (λ b. b + shift)

pub each-low : (boxes : List ℕ) (shift bound k : ℕ) → All (λ b. b < bound) (up shift boxes) → k < length boxes → get_or boxes k 0 + shift < bound
each-low boxes shift bound k a l = rw (← up-at shift boxes k l) (All-at (λ b. b < bound) (up shift boxes) 0 a k (omega (arith, up-many boxes shift)))

module _ (boxes : List ℕ) (count shift : ℕ) (h : count ≤ length boxes) where
  pub up-length : length (up shift (take count boxes)) ≡ count
  up-length = length-map (take count boxes) (λ b. b + shift) ∙ length-take-le count boxes h

  pub up_first : (k : ℕ) → k < count → get_or (up shift (take count boxes)) k 0 ≡ get_or boxes k 0 + shift
  up_first k l =
      up-at shift (take count boxes) k (omega (arith, length-take-le count boxes h)) ∙ ap (◌+ shift) (get_or-take count boxes k 0 l)

  pub up-low : (bound k : ℕ) → All (λ b. b < bound) (up shift (take count boxes)) → k < count → get_or boxes k 0 + shift < bound
  up-low bound k a l = rw (← up_first k l) (All-at (λ b. b < bound) (up shift (take count boxes)) 0 a k (omega (arith, up-length)))

  -- while the first boxes stay what they were
  pub up-now : (boxes₁ : List ℕ) (k n : ℕ) → take count boxes₁ ≡ take count boxes → k < count → n ≡ get_or boxes₁ k 0
      → n + shift ≡ get_or (up shift (take count boxes)) k 0
  up-now boxes₁ k n same l e =
      ap (◌+ shift) (e ∙ sym (get_or-take count boxes₁ k 0 l) ∙ ap (λ L. get_or L k 0) same ∙ get_or-take count boxes k 0 l) ∙ sym (up_first k l)

-- what is left of a list: its element of index k, and what is left behind it
left-more : (L : List ℕ) (k : ℕ) → k < length L → drop k L ≡ get_or L k 0 ∷ drop (k + 1) L
left-more L k h = let z : suc k ≡ k + 1 = omega arith in drop-cons L k 0 h ∙ ap (λ j. get_or L k 0 ∷ drop j L) z

left-none : (L : List ℕ) (k : ℕ) → k ≡ length L → drop k L ≡ []
left-none L k e = rw e (drop-length L)

-- ## Looking at the boxes
module _ (cells : List ℕ) (v : ℕ) (L : List ℕ) (k : ℕ) where
  pub are-end : k ≡ length L → true ≡ all_are cells v (drop k L)
  unfolding all_are every
  are-end e = rw (left-none L k e)

  pub are-yes : k < length L → get_or cells (get_or L k 0) 0 ≡ v → all_are cells v (drop (k + 1) L) ≡ all_are cells v (drop k L)
  unfolding all_are every
  are-yes h e = rw (left-more L k h, eq-eqb (get_or cells (get_or L k 0) 0) v e)

  pub are-no : k < length L → (get_or cells (get_or L k 0) 0 ≡ v → ⊥) → false ≡ all_are cells v (drop k L)
  unfolding all_are every
  are-no h e = rw (left-more L k h, ne_eqb (get_or cells (get_or L k 0) 0) v e)

-- ## Listing them
pub list-more : (boxes L : List ℕ) (at k w : ℕ) → k < length L → w ≡ get_or L k 0
    → sets (set boxes (at + k) w) (at + (k + 1)) (drop (k + 1) L) ≡ sets boxes (at + k) (drop k L)
list-more boxes L at k w h e =
    let z : at + (k + 1) ≡ suc (at + k) = omega arith in
    rw (left-more L k h, ← e) (ap (λ j. sets (set boxes (at + k) w) j (drop (k + 1) L)) z)

pub list-end : (boxes L : List ℕ) (at k : ℕ) → k ≡ length L → boxes ≡ sets boxes (at + k) (drop k L)
list-end boxes L at k e = rw (left-none L k e)

-- one column looked at
module _ (marks boxes : List ℕ) (count listed place shift : ℕ) (good : Bool) where
  pub looked-good : (boxes' : List ℕ) → count ≤ listed → listed + count ≤ length boxes → good ≡ true → boxes' ≡ sets boxes listed (up shift (take count boxes))
      → Looked marks boxes count listed place (up shift (take count boxes)) good (set marks place 1) boxes' (listed + count)
  looked-good boxes' h l g e =
      let M = up shift (take count boxes) in
      let many : length M ≡ count = up-length boxes count shift (omega arith) in
      let front : length (take listed boxes) ≡ listed = length-take-le listed boxes (omega arith) in
      let D = drop (listed + length M) boxes in
      let parts = e ∙ sets-eq M boxes listed (omega (arith, many)) in
      record {
        painted = ap (λ b. set marks place (cond b 1 0)) (sym g);
        lists =
            ap (take (listed + count)) parts ∙ take_at (take listed boxes ++ M) D (listed + count) (omega (arith, length-append (take listed boxes) M, many, front))
            ∙ ap (λ b. take listed boxes ++ cond b M []) (sym g);
        stay =
            ap (take count) (parts ∙ append_assoc (take listed boxes) M D) ∙ take-append-le count (take listed boxes) (M ++ D) (omega (arith, front))
            ∙ take-take count listed boxes h;
        more = omega arith;
        few = omega arith;
      }

  pub looked-bad : good ≡ false → Looked marks boxes count listed place (up shift (take count boxes)) good (set marks place 0) boxes listed
  looked-bad g = record {
    painted = ap (λ b. set marks place (cond b 1 0)) (sym g);
    lists = sym (append-nil (take listed boxes)) ∙ ap (λ b. take listed boxes ++ cond b (up shift (take count boxes)) []) (sym g);
    stay = refl;
    more = omega arith;
    few = omega arith;
  }

-- ## Emptying them
pub emptied-none : (cells boxes : List ℕ) (q : ℕ) → get_or cells q 0 ≡ emptied_at cells (take 0 boxes) q
unfolding emptied_at any_of
emptied-none cells boxes q = refl

pub emptied-more : (cells after boxes : List ℕ) (k : ℕ) → k < length boxes → get_or boxes k 0 < length after
    → ((q : ℕ) → get_or after q 0 ≡ emptied_at cells (take k boxes) q)
    → (q : ℕ) → get_or (set after (get_or boxes k 0) 0) q 0 ≡ emptied_at cells (take (k + 1) boxes) q
unfolding emptied_at any_of
emptied-more cells after boxes k h l old q =
    let z : k + 1 ≡ suc k = omega arith in
    go (eqb q (get_or boxes k 0)) refl
    ∙ ap (λ b. cond b 0 (get_or cells q 0))
    (sym (ap (λ j. any_of (eqb q) (take j boxes)) z ∙ ap (any_of (eqb q)) (take-suc boxes k 0 h) ∙ any_of-append (eqb q) (take k boxes) (get_or boxes k 0 ∷ [])))
  where
    either : (a : Bool) (x : ℕ) → ◌≡◌ {A = ℕ} 0 (cond (a || true) 0 x)
    either true x = refl
    either false x = refl

    go : (b : Bool) → eqb q (get_or boxes k 0) ≡ b
        → get_or (set after (get_or boxes k 0) 0) q 0 ≡ cond (any_of (eqb q) (take k boxes) || (eqb q (get_or boxes k 0) || false)) 0 (get_or cells q 0)
    go true e =
        rw e (ap (λ j. get_or (set after (get_or boxes k 0) 0) j 0) (eqb-true q (get_or boxes k 0) e) ∙ get_or-set_same after (get_or boxes k 0) 0 0 l
        ∙ either (any_of (eqb q) (take k boxes)) (get_or cells q 0))
    go false e =
        rw (e, or-false) (get_or-set_other after (get_or boxes k 0) q 0 0 (eqb-false q (get_or boxes k 0) e) ∙ old q)
