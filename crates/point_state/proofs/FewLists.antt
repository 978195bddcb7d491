-- FEW LISTS: there are no more different lists than combinations of one kind of columns for each dimension, and none has more rules than there are. So some
-- rules can't be refused for their lists. Rests on the lists of boxes, and on the digits of a box's number.
use mathlib.Core.Path.{◌≡◌, refl, sym, ap, ap₂, ◌∙◌}
use mathlib.Core.Bool.{Bool, true, false, ◌&&◌, not, true≢false}
use mathlib.Core.List.{List, [], ◌∷◌}
use mathlib.Core.Option.{none}
use Prim.Native.Nat.{ℕ, zero, suc, ◌*◌, ◌^◌, ◌≤◌, ◌<◌}
use native.Mathlib.Nat.{mul-le-mul}
use native.Mathlib.Omega.{arith}
use lib.Dec.{eqb}
use lib.ListN.{length, get_or, take, length-append}
use borrow.Author.Tests.{le-ltb, ne_eqb}
use Rattle.laws.specs.Lists.{filled}
use Rattle.laws.specs.Tests.{Exact, same_list}
use Rattle.laws.proofs.Flags.{not-true}
use Rattle.laws.proofs.Tests.{exact-eqb, exact-list}
use Rattle.laws.proofs.Distinct.{distinct-most}
use Rattle.grid.proofs.Value.{somewhere-some}
use Rattle.definition.specs.Rule.{Rule}
use Rattle.definition.specs.Sheet.{sheet_limits}
use Rattle.definition.specs.Point.{points, replaces, after, list_from, list_at}
use Rattle.definition.specs.Lists.{indexes_from, indexes_at, list_count, too_long, first_refused}
use Rattle.definition.proofs.Lists.{long, all_pass}
use Rattle.definition.proofs.Points.{times_covered, list-next, indexes-next}
use Rattle.paving.specs.Grid.{size_of, Node}
use Rattle.paving_points.proofs.Lists.{lists-counted}
use Rattle.tables.specs.Rules.{rule_at}
use Rattle.tables.specs.Lists.{Within, box_of, start_of}
use Rattle.tables.proofs.Days.{fits-lawful}
use Rattle.tables.proofs.Lists.{box_in}
use Rattle.plain_boxes.specs.Digits.{digits}
use Rattle.plain_boxes.proofs.Digits.{digits-within, digits-box}
use Rattle.point_state.specs.Point.{covers_point}
use Rattle.point_state.specs.Few.{Kinds, DaysCut}
use Rattle.point_state.proofs.Covered.{rules-once, covers-times}

-- ## Numbers that are at most 1
same-times : (a b : ℕ) → a ≤ 1 → b ≤ 1 → not (eqb a 0) ≡ not (eqb b 0) → a ≡ b
same-times zero zero h k e = refl
same-times zero (suc b) h k e = absurd (true≢false (sym (e ∙ ap not (ne_eqb (suc b) 0 (λ z. omega arith)))))
same-times (suc a) zero h k e = absurd (true≢false (sym (ap not (ne_eqb (suc a) 0 (λ z. omega arith))) ∙ e))
same-times (suc zero) (suc zero) h k e = refl
same-times (suc zero) (suc (suc b)) h k e = absurd (omega arith)
same-times (suc (suc a)) (suc b) h k e = absurd (omega arith)

one-longer : {A : Type 0} (replacing : Bool) (x : A) (n : ℕ) (l : List A) → n ≤ 1 → length (after replacing x n l) ≤ suc (length l)
unfolding after
one-longer true x zero l h = omega arith
one-longer true x (suc zero) l h = omega arith
one-longer false x zero l h = omega (arith, length-append l [])
one-longer false x (suc zero) l h = omega (arith, length-append l (x ∷ []))
one-longer replacing x (suc (suc n)) l h = absurd (omega arith)

-- ## Four dimensions
all-four : 4 ≤ 4
all-four = omega arith

pub four-sizes : (years months weeks weekdays : ℕ) → size_of (years ∷ months ∷ weeks ∷ weekdays ∷ []) 4 ≡ weekdays * (weeks * (months * years))
unfolding size_of
four-sizes years months weeks weekdays = ap (λ y. weekdays * (weeks * (months * y))) (let z : years * 1 ≡ years = omega arith in z)

pub four_products : (years months weeks weekdays : ℕ) → years < 65536 → months < 65536 → weeks < 65536 → weekdays < 65536
    → (months * years < 2 ^ 64) × (weeks * (months * years) < 2 ^ 64) × (weekdays * (weeks * (months * years)) < 2 ^ 64)
four_products years months weeks weekdays a b c d =
    let two = mul-le-mul {n₁ = months} {m₁ = years} {n₂ = 65535} {m₂ = 65535} (omega arith) (omega arith) in
    let three = mul-le-mul {n₁ = weeks} {n₂ = 65535} (omega arith) two in
    let four = mul-le-mul {n₁ = weekdays} {n₂ = 65535} (omega arith) three in
    (omega arith, omega arith, omega arith)

module _ (counts ranges rows sizes table : List ℕ) (n : ℕ) (rs : List Rule) (given : DaysCut counts ranges rows sizes table n rs) where
  many : n ≡ length rs
  many = given.days.many

  once : (k : ℕ) → k < length rs → (p : List ℕ) → times_covered (rule_at rs k) p ≤ 1
  once k h p = rules-once rs given.days.fits given.apart p k h

  -- ## No list has more rules than there are
  short : (p : List ℕ) (k : ℕ) → k ≤ length rs → length (list_at (take k rs) p) ≤ k
  unfolding list_from
  short p zero h = omega arith
  short p (suc k) h =
      omega (
        arith,
        ap length (list-next rs k p h),
        one-longer (replaces (rule_at rs k)) (rule_at rs k) (times_covered (rule_at rs k) p) (list_at (take k rs) p) (once k h p),
        short p k (omega arith),
      )

  not-long : n ≤ sheet_limits.entries → (k : ℕ) → k < length rs → long sheet_limits rs k ≡ false
  unfolding too_long
  not-long rules k h =
      not-true (long sheet_limits rs k) (λ t.
      let found = somewhere-some exact-eqb points (too_long sheet_limits.entries rs k) t in
      true≢false (sym found.2 ∙ le-ltb sheet_limits.entries (length (list_at (take (suc k) rs) found.0)) (omega (arith, short found.0 (suc k) h, many))))

  -- ## No more lists than combinations of kinds
  module _ (ks : List ℕ) (four : 4 ≤ length ks) (each : (i : ℕ) → i < 4 → Kinds counts ranges n rows table i (get_or sizes i 0) (get_or ks i 0)) where
    -- the kinds of a box's columns, and the examples of some kinds
    kinds_of : (l : ℕ) → l ≤ 4 → List ℕ → List ℕ
    kinds_of zero h p = []
    kinds_of (suc i) h [] = []
    kinds_of (suc i) h (x ∷ p) = (each i h).kind x ∷ kinds_of i (omega arith) p

    examples_of : (l : ℕ) → l ≤ 4 → List ℕ → List ℕ
    examples_of zero h p = []
    examples_of (suc i) h [] = []
    examples_of (suc i) h (x ∷ p) = (each i h).example x ∷ examples_of i (omega arith) p

    kinds-within : (l : ℕ) (h : l ≤ 4) (p : List ℕ) → Within sizes l p → Within ks l (kinds_of l h p)
    unfolding kinds_of
    kinds-within zero h p w = tt
    kinds-within (suc i) h [] w = absurd w
    kinds-within (suc i) h (x ∷ p) w = ((each i h).low x w.0, kinds-within i (omega arith) p w.1)

    -- a rule covers the example of a box where it covers the box
    alike-covers : (k : ℕ) → k < n → (l : ℕ) (h : l ≤ 4) (p : List ℕ) → Within sizes l p
        → covers_point counts ranges k l (start_of rows table l p) ≡ covers_point counts ranges k l (start_of rows table l (examples_of l h (kinds_of l h p)))
    unfolding covers_point start_of kinds_of examples_of
    alike-covers k here zero h p w = refl
    alike-covers k here (suc i) h [] w = absurd w
    alike-covers k here (suc i) h (x ∷ p) w = ap₂ ◌&&◌ (alike-covers k here i (omega arith) p w.1) ((each i h).alike x w.0 k here)

    module _ (p : List ℕ) (w : Within sizes 4 p) where
      abbrev first : List ℕ
      first = start_of rows table 4 p

      abbrev other : List ℕ
      other = start_of rows table 4 (examples_of 4 all-four (kinds_of 4 all-four p))

      alike-times : (k : ℕ) → k < n → times_covered (rule_at rs k) first ≡ times_covered (rule_at rs k) other
      alike-times k h =
          same-times (times_covered (rule_at rs k) first) (times_covered (rule_at rs k) other) (once k (omega (arith, many)) first) (once k (omega (arith, many)) other)
          (sym (covers-times counts ranges n rs given.days k h first) ∙ alike-covers k h 4 all-four p w ∙ covers-times counts ranges n rs given.days k h other)

      alike-lists : (m : ℕ) → m ≤ length rs → indexes_at (take m rs) first ≡ indexes_at (take m rs) other
      unfolding indexes_from
      alike-lists zero h = refl
      alike-lists (suc k) h =
          indexes-next rs k first h
          ∙ ap₂ (after (replaces (rule_at rs k)) k) (alike-times k (omega (arith, many))) (alike-lists k (omega arith))
          ∙ sym (indexes-next rs k other h)

    -- so each list is that of a combination of examples
    lists-few : (m : ℕ) → m ≤ length rs → list_count rs m ≤ size_of ks 4
    lists-few m h =
        omega (
          arith,
          lists-counted rows sizes table rs (fits-lawful rs given.days.fits) given.cut.cut_by m listed
              (λ p w. ap (λ q. indexes_at (take m rs) (start_of rows table 4 q)) (digits-box sizes 4 0 p w)),
          distinct-most exact-lists filled listed example (size_of sizes 4) (size_of ks 4) (λ b _ _. placed (digits sizes 4 b) (digits-within sizes 4 b given.cut.filled)),
        )
      where
        exact-lists : Exact (same_list eqb)
        exact-lists = exact-list exact-eqb

        listed : ℕ → List ℕ
        listed b = indexes_at (take m rs) (start_of rows table 4 (digits sizes 4 b))

        example : ℕ → List ℕ
        example j = indexes_at (take m rs) (start_of rows table 4 (examples_of 4 all-four (digits ks 4 j)))

        node : Node (size_of ks 4) ks 4 0
        node = record { dims = four; filled = λ i l. omega (arith, (each i l).low 0 (given.cut.filled i l)); below = omega arith }

        placed : (p : List ℕ) → Within sizes 4 p → (j : ℕ) × (j < size_of ks 4) × (indexes_at (take m rs) (start_of rows table 4 p) ≡ example j)
        placed p w =
            let kinds = kinds_of 4 all-four p in
            let within = kinds-within 4 all-four p w in (
              box_of ks 4 0 kinds,
              box_in (size_of ks 4) ks 4 0 kinds node within,
              alike-lists p w m h ∙ ap (λ q. indexes_at (take m rs) (start_of rows table 4 (examples_of 4 all-four q))) (sym (digits-box ks 4 0 kinds within)),
            )

    -- NEITHER 6 NOR 14
    pub few-none : n ≤ sheet_limits.entries → size_of ks 4 ≤ sheet_limits.lists → first_refused sheet_limits rs ≡ none
    few-none rules lists = all_pass sheet_limits rs (λ k h. (not-long rules k h, le-ltb sheet_limits.lists (list_count rs (suc k)) (omega (arith, lists-few (suc k) h))))
