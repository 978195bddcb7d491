-- THE GROUP OF A BOX, dimension after dimension: what is marked and listed once the last ones are grown, and one dimension more. Rests on how a
-- dimension is grown, on the boxes of a set, and on the laws of the group of a box.
use mathlib.Core.Path.{◌≡◌, refl, sym, ap, ap₂, ◌∙◌, subst, fun_ext}
use mathlib.Core.Bool.{Bool, true, false, ◌&&◌, false≢true}
use mathlib.Core.List.{List, [], ◌∷◌, map, flat_map}
use Prim.Native.Nat.{ℕ, suc, ◌+◌, ◌-◌, ◌*◌, ◌/◌, ◌%◌, ◌≤◌, ◌<◌}
use native.Mathlib.Omega.{arith}
use native.Mathlib.Nat.{mul-le-mul_right, mul_comm, div-mul-le_self, div-eq_of_lt}
use lib.Dec.{eqb}
use lib.ListN.{length, get_or, set, take}
use lib.Seq.{length-take-le, take-suc-set}
use borrow.Author.Tests.{eq-eqb, ne_eqb}
use Rattle.laws.specs.Lists.{from, every, keep, All}
use Rattle.laws.proofs.Lists.{every-keep}
use Rattle.grid.specs.Group.{Set, agree}
use Rattle.paving.specs.Grid.{Node, Room, size_of, width_of, NoneFrom, grid, chosen, good_at}
use Rattle.paving.proofs.Room.{size-pos, room-size, node-child}
use Rattle.paving.proofs.Marks.{paint-all, paint-ext, good-here, chosen-paint}
use Rattle.paving.proofs.Skipping.{size-le}
use Rattle.plain_boxes.specs.Digits.{digit_of}
use Rattle.plain_boxes.specs.Groups.{base_of, grown, MarkedGroup}
use Rattle.plain_boxes.proofs.Digits.{above, node-digit, node-whole, digit_low}
use Rattle.plain_boxes.proofs.Widths.{width-none, width-next, width-le}
use Rattle.plain_boxes.proofs.Growing.{block_room, group-begin, group-more}
use Rattle.box_groups.specs.Boxes.{boxes_of, all_are, moved, good_for, Growing, Grown}
use Rattle.box_groups.proofs.Growing.{moved-own}
use Rattle.box_groups.proofs.Boxes.{flat-are, Low, chosen-low, boxes-move, boxes-low, boxes-agree}

-- ## A column of a dimension, and the boxes of the later dimensions in it
module _ (cells sizes : List ℕ) (i node own n step v : ℕ) (L : List ℕ) (S : Set ℕ) (z : step ≡ size_of sizes i) (e : L ≡ boxes_of sizes i (node * n + own) S) where
  column-boxes : (x : ℕ) → moved step own L x ≡ boxes_of sizes i (node * n + x) S
  unfolding moved
  column-boxes x =
      ap (map (λ b. b + x * step - own * step)) e
      ∙ boxes-move sizes i (node * n + own) (node * n + x) S (λ b. b + x * step - own * step)
      (λ o.
      let s = size_of sizes i in
      let q : (node * n + own) * s + o + x * step - own * step ≡ (node * n + x) * s + o = omega (arith, ap (x *◌) z, ap (own *◌) z) in
      q)

  column-good : Low sizes i S → (x : ℕ) → good_for cells v step own L x ≡ agree eqb v S (grid cells sizes i (node * n + x))
  unfolding good_for
  column-good low x = ap (all_are cells v) (column-boxes x) ∙ boxes-agree sizes cells v i (node * n + x) S low

  column-there : Low sizes i S → (len : ℕ) → n ≡ get_or sizes i 0 → Node len sizes (suc i) node → (x : ℕ) → x < n → All (λ b. b < len) (moved step own L x)
  column-there low len w r x lt =
      subst (All (λ b. b < len)) (sym (column-boxes x)) (boxes-low sizes i (node * n + x) len S low (node-child len sizes i node n x w lt r).below)

-- where no box before the first has the value, no column before its own is good
before-own : (cells L : List ℕ) (v step own first : ℕ) → get_or L 0 0 ≡ first → 1 ≤ length L → own * step ≤ first → 1 ≤ step
    → ((q : ℕ) → q < first → get_or cells q 0 ≡ v → ⊥) → (x : ℕ) → x < own → good_for cells v step own L x ≡ false
unfolding good_for all_are moved every
before-own cells [] v step own first e some far pos only x lt = absurd (omega arith)
before-own cells (b ∷ bs) v step own first e some far pos only x lt =
    let a : (x + 1) * step ≤ own * step = mul-le-mul_right step (omega arith) in
    ap (◌&& every (λ c. eqb (get_or cells c 0) v) (map (λ c. c + x * step - own * step) bs))
    (ne_eqb (get_or cells (b + x * step - own * step) 0) v (only (b + x * step - own * step) (omega arith)))

own-good : (cells L : List ℕ) (v step own : ℕ) → all_are cells v L ≡ true → good_for cells v step own L own ≡ true
unfolding good_for
own-good cells L v step own h = ap (all_are cells v) (sym (moved-own step own L)) ∙ h

-- the last d dimensions are grown
pub record GroupTo (cells sizes marks₀ : List ℕ) (room first : ℕ) (marks boxes : List ℕ) (count step block base d : ℕ) : Type 0 where
  pub dims : d ≤ 4
  pub size : step ≡ size_of sizes d
  pub at_block : block ≡ first / size_of sizes d
  pub at_base : base ≡ base_of sizes d
  pub places : length marks ≡ length marks₀
  pub kept : length boxes ≡ room
  pub some : 1 ≤ count
  pub few : count ≤ step
  pub group : MarkedGroup cells sizes first d (first / size_of sizes d) (base_of sizes d) marks₀ marks
  pub lists : take count boxes ≡ boxes_of sizes d (first / size_of sizes d) (chosen marks sizes d (base_of sizes d))
  pub front : get_or (take count boxes) 0 0 ≡ first
  pub are : all_are cells (get_or cells first 0) (take count boxes) ≡ true

-- ## Before the first dimension
pub group-start : (cells sizes marks boxes : List ℕ) (first all : ℕ) → 1 ≤ length boxes → all ≡ width_of sizes 4
    → GroupTo cells sizes marks (length (set boxes 0 first)) first marks (set boxes 0 first) 1 1 first all 0
unfolding boxes_of size_of base_of all_are every
group-start cells sizes marks boxes first all some e =
    let one : take 1 (set boxes 0 first) ≡ first ∷ [] = take-suc-set boxes 0 first (omega arith) in
    record {
      dims = omega arith;
      size = refl;
      at_block = sym (node-whole sizes first);
      at_base = omega (arith, e, width-none sizes);
      places = refl;
      kept = refl;
      some = omega arith;
      few = omega arith;
      group = group-begin cells sizes first marks (base_of sizes 0);
      lists = one ∙ ap (◌∷ []) (sym (node-whole sizes first));
      front = ap (λ D. get_or D 0 0) one;
      are = ap (every (λ b. eqb (get_or cells b 0) (get_or cells first 0))) one ∙ ap (◌&& true) (eq-eqb (get_or cells first 0) (get_or cells first 0) refl);
    }

-- ## One dimension more
module _ (cells sizes marks₀ : List ℕ) (room first : ℕ) (marks boxes : List ℕ) (count step block base d width : ℕ)
    (to : GroupTo cells sizes marks₀ room first marks boxes count step block base d) (lt : d < 4) (w : width ≡ get_or sizes d 0)
    (r : Room (length cells) (length marks₀) sizes 4 0 0) (inside-all : first < size_of sizes 4) where
  n : ℕ
  n = get_or sizes d 0

  node : ℕ
  node = first / size_of sizes (suc d)

  own : ℕ
  own = digit_of sizes first d

  pub filled : 1 ≤ width
  filled = omega (arith, w, r.column.filled d lt)

  pub own_is : block % width ≡ digit_of sizes first d
  unfolding digit_of
  own_is = ap₂ ◌%◌ to.at_block w

  pub block-next : block / width ≡ first / size_of sizes (suc d)
  block-next = ap₂ ◌/◌ to.at_block w ∙ sym (above sizes first d)

  pub base-next : base - width ≡ base_of sizes (suc d)
  unfolding base_of
  base-next = omega (arith, to.at_base, w, width-next sizes d (suc d) refl, width-le sizes (suc d) 4 lt)

  base_more : base_of sizes (suc d) + get_or sizes d 0 ≡ base_of sizes d
  unfolding base_of
  base_more = omega (arith, width-next sizes d (suc d) refl, width-le sizes (suc d) 4 lt)

  pub base-fits : width ≤ base
  base-fits = omega (arith, to.at_base, base_more, w)

  pub size-more : step * width ≡ size_of sizes (suc d)
  unfolding size_of
  size-more = ap₂ ◌*◌ to.size w ∙ mul_comm (size_of sizes d) (get_or sizes d 0)

  size-there : size_of sizes (suc d) ≤ size_of sizes 4
  size-there = size-le sizes (suc d) 4 r.column.filled lt

  pub step_fits : step * width ≤ length cells
  step_fits = omega (arith, size-more, size-there, room-size (length cells) (length marks₀) sizes 4 0 0 r)

  listed_here : take count boxes ≡ boxes_of sizes d (node * n + own) (chosen marks sizes d (base_of sizes (suc d) + n))
  unfolding n node own
  listed_here =
      to.lists ∙ ap₂ (λ c b. boxes_of sizes d c (chosen marks sizes d b)) (sym (node-digit sizes first d)) (sym base_more)

  S : Set ℕ
  S = chosen marks sizes d (base_of sizes (suc d) + n)

  L : List ℕ
  L = take count boxes

  v : ℕ
  v = get_or cells first 0

  good : ℕ → Bool
  good = good_for cells v step own L

  block-there : Room (length cells) (length marks₀) sizes (suc d) node (base_of sizes (suc d))
  unfolding node
  block-there = block_room (length cells) (length marks₀) sizes first (suc d) lt inside-all r

  marks-there : base_of sizes (suc d) + n ≤ length marks
  unfolding n
  marks-there = omega (arith, block-there.marked, width-next sizes d (suc d) refl, to.places)

  own-far : own * step ≤ first
  unfolding own
  own-far =
      let s = size_of sizes d in
      let a : digit_of sizes first d * s ≤ first / s * s = mul-le-mul_right s (omega (arith, node-digit sizes first d)) in
      omega (arith, a, div-mul-le_self first s, ap (digit_of sizes first d *◌) to.size)

  module _ (enough : size_of sizes 4 ≤ room) where
    pub count_fits : count ≤ length boxes
    count_fits = omega (arith, to.few, to.size, to.kept, enough, size-le sizes d 4 r.column.filled to.dims)

    many : length L ≡ count
    unfolding L
    many = length-take-le count boxes count_fits

    columns-fit : length L * n ≤ step * n
    columns-fit = mul-le-mul_right n (omega (arith, many, to.few))

    pub growing : length cells ≤ 65536 → ((q : ℕ) → q < first → get_or cells q 0 ≡ get_or cells first 0 → ⊥)
        → Growing cells (length marks) (length boxes) (take count boxes) (get_or cells first 0) (base - width) width (block % width) step
    unfolding n own L v S node
    growing small only =
        let whole = ap (step *◌) (sym w) ∙ size-more in
        let all = room-size (length cells) (length marks₀) sizes 4 0 0 r in
        rw (base-next, own_is, w)
        (record {
          some = omega (arith, many, to.some);
          in-width = digit_low sizes first d (r.column.filled d lt);
          marked = marks-there;
          listed = omega (arith, columns-fit, whole, size-there, enough, to.kept);
          numbered = small;
          apart = omega (arith, mul_comm (get_or sizes d 0) step, whole, size-there, all);
          there = column-there cells sizes d node own n step v L S to.size listed_here (chosen-low marks sizes d (base_of sizes (suc d) + n)) (length cells) refl
              block-there.column;
          before =
              before-own cells L v step own first to.front (omega (arith, many, to.some)) own-far
              (omega (arith, to.size, size-pos sizes d (λ k h. r.column.filled k (omega arith)))) only;
          here = own-good cells L v step own to.are;
        })

    module _ (marks' boxes' : List ℕ) (listed : ℕ) (lm : length marks' ≡ length marks) (lb : length boxes' ≡ length boxes) (fits : listed ≤ length boxes)
        (g : Grown cells marks (take count boxes) (get_or cells first 0) (base - width) width (block % width) step marks' (take listed boxes')) where
      here : Grown cells marks L v (base_of sizes (suc d)) n own step marks' (take listed boxes')
      unfolding n own L v
      here = rw (base-next, own_is, w) at g

      as-grown : marks' ≡ grown cells sizes first d marks
      unfolding grown good n own L v S node
      as-grown =
          here.painted
          ∙ paint-ext good (good_at cells sizes d node marks (base_of sizes (suc d)) v) (base_of sizes (suc d)) 0 n marks
          (λ x lo hi. sym (good-here cells sizes v d node (base_of sizes (suc d)) n x refl marks (good x) (omega arith)
          (column-good cells sizes d node own n step v L S to.size listed_here (chosen-low marks sizes d (base_of sizes (suc d) + n)) x)))

      marked_next : chosen marks' sizes (suc d) (base_of sizes (suc d)) ≡ keep good (from 0 n) ∷ S
      unfolding good n L S
      marked_next =
          ap (λ s. chosen s sizes (suc d) (base_of sizes (suc d))) (here.painted ∙ sym (paint-all good (base_of sizes (suc d)) n marks))
          ∙ chosen-paint good marks sizes d (base_of sizes (suc d)) marks-there

      listed_next : take listed boxes' ≡ boxes_of sizes (suc d) node (chosen marks' sizes (suc d) (base_of sizes (suc d)))
      unfolding boxes_of n own L v S good
      listed_next =
          here.listed
          ∙ ap (λ f. flat_map f (keep good (from 0 n))) (fun_ext (column-boxes cells sizes d node own n step v L S to.size listed_here))
          ∙ ap (boxes_of sizes (suc d) node) (sym marked_next)

      are-next : all_are cells v (take listed boxes') ≡ true
      unfolding good_for good
      are-next =
          ap (all_are cells v) here.listed ∙ flat-are cells v (moved step own L) (keep good (from 0 n)) ∙ every-keep good (from 0 n)

      many-next : length (take listed boxes') ≡ listed
      many-next = length-take-le listed boxes' (omega (arith, lb, fits))

      pub group-next : GroupTo cells sizes marks₀ room first marks' boxes' listed (step * width) (block / width) (base - width) (d + 1)
      unfolding v L n node
      group-next =
          let z : d + 1 ≡ suc d = omega arith in
          rw z
          (record {
            dims = lt;
            size = size-more;
            at_block = block-next;
            at_base = base-next;
            places = lm ∙ to.places;
            kept = lb ∙ to.kept;
            some = omega (arith, many-next, here.more, many, to.some);
            few = omega (arith, many-next, here.few, columns-fit, ap (step *◌) w);
            group = group-more cells sizes first d marks₀ marks marks' lt (r.column.filled d lt) (omega (arith, r.marked)) to.group as-grown;
            lists = listed_next;
            front = here.first ∙ to.front;
            are = are-next;
          })

-- ## All dimensions
pub group-whole : (cells sizes marks₀ : List ℕ) (room first : ℕ) (marks boxes : List ℕ) (count step block base d : ℕ)
    → GroupTo cells sizes marks₀ room first marks boxes count step block base d → 4 ≤ d → first < size_of sizes 4 → size_of sizes 4 ≤ room
    → MarkedGroup cells sizes first 4 0 0 marks₀ marks × (count ≤ length boxes) × (take count boxes ≡ boxes_of sizes 4 0 (chosen marks sizes 4 0))
unfolding base_of
group-whole cells sizes marks₀ room first marks boxes count step block base d to h lt enough =
    let all : d ≡ 4 = omega (arith, to.dims) in
    let top : first / size_of sizes 4 ≡ 0 = div-eq_of_lt lt in
    let start : base_of sizes 4 ≡ 0 = omega arith in (
      rw (top, start) at (rw all at to.group),
      omega (arith, to.few, to.size, ap (size_of sizes) all, to.kept, enough),
      rw (top, start) at (rw all at to.lists),
    )

-- the first box of a class is the first one with its value
pub first-with-value : (cells : List ℕ) (ok : ℕ → Bool) (first : ℕ) → NoneFrom cells ok 0 first → ok (get_or cells first 0) ≡ true
    → (q : ℕ) → q < first → get_or cells q 0 ≡ get_or cells first 0 → ⊥
unfolding NoneFrom
first-with-value cells ok first none hit q lt e = false≢true (sym (none q (omega arith) lt) ∙ ap ok e ∙ hit)
