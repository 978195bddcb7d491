-- One dimension grown, column after column: the marks that are painted, and the boxes that are listed. Rests on the marks' laws.
use mathlib.Core.Path.{◌≡◌, refl, sym, ap, ap₂, ◌∙◌, subst, fun_ext}
use mathlib.Core.Bool.{Bool, true, false, cond}
use mathlib.Core.List.{List, [], ◌∷◌, ◌++◌, map, flat_map, append-nil}
use Prim.Native.Nat.{ℕ, zero, suc, ◌+◌, ◌-◌, ◌*◌, ◌≤◌, ◌<◌}
use native.Mathlib.Omega.{arith}
use native.Mathlib.Nat.{mul-le-mul_left, mul-le-mul_right}
use lib.ListN.{length, get_or, set, take}
use lib.Seq.{length-take-le, get_or-take}
use Rattle.laws.specs.Lists.{from, keep, All}
use Rattle.laws.proofs.Lists.{keep_append, keep-none}
use Rattle.laws.proofs.Numbers.{from-append, All-from}
use Rattle.laws.proofs.Spread.{flat_map-append}
use Rattle.paving.specs.Grid.{paint}
use Rattle.paving.proofs.Marks.{paint-in, paint-ext, paint-end}
use Rattle.box_groups.specs.Boxes.{all_are, up, moved, good_for, Looked, Growing, Grown}

-- ## Columns, and the boxes moved into them
pub moved_up : (step own x shift : ℕ) (boxes : List ℕ) → shift + own * step ≡ x * step → up shift boxes ≡ moved step own boxes x
unfolding moved
moved_up step own x shift boxes e = ap (λ f. map f boxes) (fun_ext (λ b. let z : b + shift ≡ b + x * step - own * step = omega arith in z))

pub moved-own : (step own : ℕ) (boxes : List ℕ) → boxes ≡ moved step own boxes own
unfolding moved
moved-own step own [] = refl
moved-own step own (b ∷ bs) = let z : b ≡ b + own * step - own * step = omega arith in ap (◌∷ bs) z ∙ ap ((b + own * step - own * step) ∷◌) (moved-own step own bs)

-- ## The columns that pass a test
module _ (t : ℕ → Bool) where
  -- those up to the first one
  pub passed_first : (own : ℕ) → ((x : ℕ) → x < own → t x ≡ false) → t own ≡ true → keep t (from 0 (own + 1)) ≡ own ∷ []
  unfolding keep from
  passed_first own before here =
      ap (keep t) (sym (from-append 0 own 1 own (omega arith))) ∙ keep_append t (from 0 own) (own ∷ [])
      ∙ ap (◌++ keep t (own ∷ [])) (keep-none t (from 0 own) (All-from (λ x. false ≡ t x) 0 own (λ x l h. sym (before x (omega arith))))) ∙ rw (here, keep) refl

  -- and one column more
  pub passed-more : (f : ℕ → List ℕ) (x : ℕ) → flat_map f (keep t (from 0 (x + 1))) ≡ flat_map f (keep t (from 0 x)) ++ cond (t x) (f x) []
  unfolding keep from flat_map
  passed-more f x =
      ap (λ D. flat_map f (keep t D)) (sym (from-append 0 x 1 x (omega arith))) ∙ ap (flat_map f) (keep_append t (from 0 x) (x ∷ []))
      ∙ flat_map-append f (keep t (from 0 x)) (keep t (x ∷ [])) ∙ ap (flat_map f (keep t (from 0 x)) ++◌) (go (t x) refl)
    where
      go : (b : Bool) → t x ≡ b → flat_map f (keep t (x ∷ [])) ≡ cond b (f x) []
      go true e = rw (e, keep) (append-nil (f x))
      go false e = rw (e, keep) refl

-- ## Marks
paint-join : (t : ℕ → Bool) (base j r q : ℕ) (s : List ℕ) → paint t base (j + r) q (paint t base j r s) ≡ paint t base j (r + q) s
unfolding paint
paint-join t base j zero q s =
    let z : j + 0 ≡ j = omega arith in
    let n : q ≡ 0 + q = omega arith in
    ap (λ k. paint t base k q s) z ∙ ap (λ m. paint t base j m s) n
paint-join t base j (suc r) q s =
    let z : j + suc r ≡ j + 1 + r = omega arith in
    let n : suc (r + q) ≡ suc r + q = omega arith in
    ap (λ k. paint t base k q (paint t base (j + 1) r (set s (base + j) (cond (t j) 1 0)))) z ∙ paint-join t base (j + 1) r q (set s (base + j) (cond (t j) 1 0))
    ∙ ap (λ m. paint t base j m s) n

-- the columns before a group's own are unmarked, its own is marked: as painting does
pub paint-first : (t : ℕ → Bool) (base own width : ℕ) (s : List ℕ) → own < width → ((x : ℕ) → x < own → t x ≡ false) → t own ≡ true
    → paint t base (own + 1) (width - (own + 1)) (set (paint (λ _. false) base 0 own s) (base + own) 1) ≡ paint t base 0 width s
paint-first t base own width s l before here =
    let all : own + (width - own) ≡ width = omega arith in
    let z : 0 + own ≡ own = omega arith in
    paint-in t base own width (paint (λ _. false) base 0 own s) 1 l (sym (ap (λ b. cond b 1 0) here))
    ∙ ap (paint t base own (width - own)) (paint-ext (λ _. false) t base 0 own s (λ x lo hi. sym (before x (omega arith))))
    ∙ ap (λ k. paint t base k (width - own) (paint t base 0 own s)) (sym z) ∙ paint-join t base 0 own (width - own) s ∙ ap (λ n. paint t base 0 n s) all

-- ## The loop
-- what is marked and listed when all columns before one have been looked at, after the group's own column
pub record GrownTo (cells marks₁ boxes₀ : List ℕ) (count v base width own step : ℕ) (marks boxes : List ℕ) (listed shift column : ℕ) : Type 0 where
  pub behind : own < column
  pub within : column ≤ width
  pub far : shift + own * step ≡ column * step
  pub places : length marks ≡ length marks₁
  pub room : length boxes ≡ length boxes₀
  pub more : count ≤ listed
  pub few : listed ≤ count * (column - own)
  pub stay : take count boxes ≡ take count boxes₀
  pub painted : paint (good_for cells v step own (take count boxes₀)) base column (width - column) marks
      ≡ paint (good_for cells v step own (take count boxes₀)) base (own + 1) (width - (own + 1)) marks₁
  pub lists : take listed boxes
      ≡ flat_map (moved step own (take count boxes₀)) (keep (good_for cells v step own (take count boxes₀)) (from 0 column))

module _ (cells : List ℕ) (places : ℕ) (boxes₀ : List ℕ) (count v base width own step : ℕ) (h : count ≤ length boxes₀)
    (g : Growing cells places (length boxes₀) (take count boxes₀) v base width own step) where
  abbrev first-boxes : List ℕ
  first-boxes = take count boxes₀

  abbrev good : ℕ → Bool
  good = good_for cells v step own first-boxes

  pub grown-begin : (marks : List ℕ) → GrownTo cells marks boxes₀ count v base width own step marks boxes₀ count step (own + 1)
  unfolding flat_map
  grown-begin marks = record {
    behind = omega arith;
    within = omega (arith, g.in-width);
    far = omega arith;
    places = refl;
    room = refl;
    more = omega arith;
    few = let z : own + 1 - own ≡ 1 = omega arith in rw z (omega arith);
    stay = refl;
    painted = refl;
    lists =
        moved-own step own first-boxes ∙ sym (append-nil (moved step own first-boxes own))
        ∙ sym (ap (flat_map (moved step own first-boxes)) (passed_first good own g.before g.here));
  }

  module _ (marks₁ marks boxes : List ℕ) (listed shift column : ℕ) (to : GrownTo cells marks₁ boxes₀ count v base width own step marks boxes listed shift column) where
    here : up shift (take count boxes) ≡ moved step own first-boxes column
    here = ap (up shift) to.stay ∙ moved_up step own column shift first-boxes to.far

    module _ (lt : column < width) where
      pub column-there : All (λ b. b < length cells) (up shift (take count boxes))
      column-there = subst (All (λ b. b < length cells)) (sym here) (g.there column lt)

      pub column-room : listed + count ≤ length boxes
      column-room =
          let a : count * (column - own + 1) ≤ count * width = mul-le-mul_left count (omega (arith, to.behind)) in
          omega (arith, a, to.few, to.room, ap (◌* width) (length-take-le count boxes₀ h), g.listed)

      pub shift_fits : shift + step ≤ length cells
      shift_fits = let a : (column + 1) * step ≤ width * step = mul-le-mul_right step (omega arith) in omega (arith, a, to.far, g.apart)

      pub grown-next : (marks' boxes' : List ℕ) (r : ℕ) → length marks' ≡ length marks → length boxes' ≡ length boxes
          → Looked marks boxes count listed (base + column) (up shift (take count boxes)) (all_are cells v (up shift (take count boxes))) marks' boxes' r
          → GrownTo cells marks₁ boxes₀ count v base width own step marks' boxes' r (shift + step) (column + 1)
      unfolding good_for
      grown-next marks' boxes' r lm lb k =
          let t : all_are cells v (up shift (take count boxes)) ≡ good column = ap (all_are cells v) here in
          record {
            behind = omega (arith, to.behind);
            within = omega arith;
            far = omega (arith, to.far);
            places = lm ∙ to.places;
            room = lb ∙ to.room;
            more = omega (arith, to.more, k.more);
            few =
                let z : column + 1 - own ≡ column - own + 1 = omega (arith, to.behind) in
                rw z (omega (arith, k.few, to.few));
            stay = k.stay ∙ to.stay;
            painted =
                ap (paint good base (column + 1) (width - (column + 1))) k.painted
                ∙ paint-in good base column width marks (cond (all_are cells v (up shift (take count boxes))) 1 0) lt (ap (λ b. cond b 1 0) t) ∙ to.painted;
            lists =
                k.lists ∙ ap (λ D. D ++ cond (all_are cells v (up shift (take count boxes))) (up shift (take count boxes)) []) to.lists
                ∙ ap₂ (λ b D. flat_map (moved step own first-boxes) (keep good (from 0 column)) ++ cond b D []) t here
                ∙ sym (passed-more good (moved step own first-boxes) column);
          }

    pub grown-end : (marks₀ unmarked : List ℕ) → unmarked ≡ paint (λ _. false) base 0 own marks₀ → marks₁ ≡ set unmarked (base + own) 1 → width ≤ column
        → (listed ≤ length boxes₀) × Grown cells marks₀ (take count boxes₀) v base width own step marks (take listed boxes)
    grown-end marks₀ unmarked e e₁ w =
        let all : column ≡ width = omega (arith, to.within) in
        let a : count * (column - own) ≤ count * width = mul-le-mul_left count (omega (arith, to.within)) in
        let n = length-take-le count boxes₀ h in
        let fits : listed ≤ length boxes₀ = omega (arith, a, to.few, ap (◌* width) n, g.listed) in
        let many = length-take-le listed boxes (omega (arith, to.room)) in (
          fits,
          record {
            painted =
                paint-end good base column width marks w ∙ to.painted
                ∙ ap (paint good base (own + 1) (width - (own + 1))) (e₁ ∙ ap (λ s. set s (base + own) 1) e)
                ∙ paint-first good base own width marks₀ g.in-width g.before g.here;
            listed = to.lists ∙ ap (λ k. flat_map (moved step own first-boxes) (keep good (from 0 k))) all;
            few = omega (arith, many, a, to.few, ap (◌* width) n);
            more = omega (arith, many, n, to.more);
            first =
                get_or-take listed boxes 0 0 (omega (arith, to.more, g.some, n)) ∙ sym (get_or-take count boxes 0 0 (omega (arith, g.some, n)))
                ∙ ap (λ D. get_or D 0 0) to.stay;
          },
        )
