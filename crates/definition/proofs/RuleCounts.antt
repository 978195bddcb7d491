-- COUNTS FIT THEIR FIELDS: what the fold writes has no more rules, items and spans than the form's counts can carry, where the test for 13 fails; and
-- it fails wherever the limits let no more come out than these counts can carry, as in form 2. Rests on how large pages are.
use mathlib.Core.Path.{◌≡◌, refl, sym, subst}
use mathlib.Core.List.{List, [], ◌∷◌, ◌++◌, map, flat_map}
use mathlib.Core.Bool.{Bool, true, false, ◌&&◌}
use Prim.Native.Nat.{ℕ, suc, ◌+◌, ◌*◌, ◌-◌, ◌^◌, ◌≤◌, ◌<◌}
use native.Mathlib.Nat.{mul-le-mul_right}
use native.Mathlib.Omega.{arith}
use lib.Dec.{eqb, leb, ltb}
use lib.ListN.{length, length-append, length-map}
use borrow.Author.Tests.{ltb-true, ltb-false, leb-true, le-ltb}
use Rattle.laws.specs.Lists.{All, any_of}
use Rattle.laws.proofs.Flags.{split-and, split-or}
use Rattle.laws.proofs.Lists.{All-map, All-map₂, All-append, every-all, any-all, all_any}
use Rattle.laws.proofs.Spread.{flat_map-all, flat_map-length}
use Rattle.grid.specs.Cut.{Range}
use Rattle.definition.specs.Field.{got, field, counted, ◌then◌, via, tagged, several}
use Rattle.definition.specs.Rule.{Operator, Normal, Additional, Rule}
use Rattle.definition.specs.Sheet.{Form, Limits, form1, form2, most_rules, most_items, sheet_limits, former_limits, title, counts, head, head_of, rule, opening, rules, decode}
use Rattle.definition.specs.Range.{Ends}
use Rattle.definition.specs.Stop.{stops, drained, left}
use Rattle.definition.specs.Point.{Dimension, weekday_dimension, week_dimension, month_dimension, year_dimension, dimensions}
use Rattle.definition.specs.Day.{Entry, Day}
use Rattle.definition.specs.Group.{Page, pages, items_of, laid_over, as_rule, as_rules, rules_of, folded}
use Rattle.definition.specs.Fold.{fine, drain, item_counts, many_items, passes_counts}
use Rattle.definition.proofs.Bits.{Bytes}
use Rattle.definition.proofs.SheetRead.{encode-decoded}
use Rattle.definition.proofs.Lawful.{Lawful, rules-each, rules-lawful}
use Rattle.definition.proofs.Drained.{fine-drain}
use Rattle.definition.proofs.FoldBox.{drained-all}
use Rattle.definition.proofs.Groups.{group-rules}
use Rattle.definition.proofs.Spans.{Brief}
use Rattle.definition.proofs.Counts.{pages-count, pages-few, pages-brief}

-- a rule with at most i items of each sort and at most s spans
pub record Sized (i s : ℕ) (r : Rule) : Type 0 where
  pub years-few : length r.years ≤ i
  pub monthdays-few : length r.monthdays ≤ i
  pub weeks-few : length r.weeks ≤ i
  pub weekdays-few : length r.weekdays ≤ i
  pub spans-few : length r.spans ≤ s

-- ## The rules of a page
-- there are no more items than runs
pub items-less : (b : Range) (R : List Range) → length (items_of b R) ≤ length R
unfolding items_of
items-less b [] = omega arith
items-less b (r ∷ R) = go (eqb r.0 b.0 && eqb r.1 b.1) refl
  where
    go : (t : Bool) → eqb r.0 b.0 && eqb r.1 b.1 ≡ t → length (items_of b (r ∷ R)) ≤ suc (length R)
    go true e = rw (e, items_of) (omega arith)
    go false e = rw (e, items_of) (omega (arith, length-map {B = Ends} R (λ q. (q.0, q.1 - 1))))

module _ (i s : ℕ) where
  abbrev Lays : Dimension → Type 0
  Lays d = (es : List Ends) (r : Rule) → length es ≤ i → Sized i s r → Sized i s (d.over es r)

  few : {B : Type 0} (es : List Ends) (f : Ends → B) → length es ≤ i → length (map f es) ≤ i
  few es f l = subst (◌≤ i) (sym (length-map es f)) l

  lays-weekdays : Lays weekday_dimension
  lays-weekdays es r l k = record {
    years-few = k.years-few;
    monthdays-few = k.monthdays-few;
    weeks-few = k.weeks-few;
    weekdays-few = few es _ l;
    spans-few = k.spans-few;
  }

  lays-weeks : Lays week_dimension
  lays-weeks es r l k = record {
    years-few = k.years-few;
    monthdays-few = k.monthdays-few;
    weeks-few = few es _ l;
    weekdays-few = k.weekdays-few;
    spans-few = k.spans-few;
  }

  lays-months : Lays month_dimension
  lays-months es r l k = record {
    years-few = k.years-few;
    monthdays-few = few es _ l;
    weeks-few = k.weeks-few;
    weekdays-few = k.weekdays-few;
    spans-few = k.spans-few;
  }

  lays-years : Lays year_dimension
  lays-years es r l k = record {
    years-few = few es _ l;
    monthdays-few = k.monthdays-few;
    weeks-few = k.weeks-few;
    weekdays-few = k.weekdays-few;
    spans-few = k.spans-few;
  }

  -- in whatever order the dimensions stand
  lays : All Lays dimensions
  lays = search (lays-weekdays, lays-weeks, lays-months, lays-years)

  laid-sized : (ds : List Dimension) → All Lays ds → (Rs : List (List Range)) → All (λ R. length R ≤ i) Rs → (r : Rule) → Sized i s r
      → Sized i s (laid_over ds Rs r)
  unfolding laid_over
  laid-sized [] a Rs l r k = k
  laid-sized (d ∷ ds) a [] l r k = k
  laid-sized (d ∷ ds) a (R ∷ Rs) l r k =
      laid-sized ds a.1 Rs l.1 (d.over (items_of d.bounds R) r) (a.0 (items_of d.bounds R) r (omega (arith, items-less d.bounds R, l.0)) k)

  rules-sized : (g : Page) → All (λ R. length R ≤ i) g.1 → Brief s g.0 → All (Sized i s) (rules_of g)
  unfolding rules_of
  rules-sized g l b = go g.0 b
    where
      bare : (o : Operator) (e : Entry) → length e.1 ≤ s → Sized i s (as_rule o e)
      bare o e k = record { years-few = omega arith; monthdays-few = omega arith; weeks-few = omega arith; weekdays-few = omega arith; spans-few = k }

      additional : (d : Day) → Brief s d → All (Sized i s) (map (laid_over dimensions g.1) (map (as_rule Additional) d))
      additional [] k = tt
      additional (e ∷ d) k = (laid-sized dimensions lays g.1 l (as_rule Additional e) (bare Additional e k.0), additional d k.1)

      go : (d : Day) → Brief s d → All (Sized i s) (map (laid_over dimensions g.1) (as_rules d))
      go [] k = tt
      go (e ∷ d) k = (laid-sized dimensions lays g.1 l (as_rule Normal e) (bare Normal e k.0), additional d k.1)

-- ## The whole result
-- a form's counts can carry what the limits allow to come out
pub record Roomy (form : Form) (limits : Limits) : Type 0 where
  pub rules-room : limits.boxes * suc limits.entries + limits.rules < 2 ^ form.rule_count
  pub items-room : suc limits.boxes < 2 * 2 ^ form.item_count
  pub spans-room : suc (limits.entries * limits.spans) < 2 ^ form.item_count

-- "form 2 always can"; and under 01's limits form 1 could
pub roomy2 : Roomy form2 sheet_limits
roomy2 = omega arith

pub roomy-former1 : Roomy form1 former_limits
roomy-former1 = omega arith

pub roomy-former2 : Roomy form2 former_limits
roomy-former2 = omega arith

pub record CountsFit (form : Form) (rs : List Rule) : Type 0 where
  pub rule-count : length rs ≤ most_rules form
  pub item-counts : All (Sized (most_items form) (most_items form)) rs

-- that is what 13 asks
module _ (form : Form) where
  pub few-items : (r : Rule) → many_items form r ≡ false → Sized (most_items form) (most_items form) r
  unfolding many_items
  few-items r h =
      let k = any-all (ltb (most_items form)) (item_counts r) h in
      record {
        years-few = ltb-false _ _ k.0;
        monthdays-few = ltb-false _ _ k.1.0;
        weeks-few = ltb-false _ _ k.1.1.0;
        weekdays-few = ltb-false _ _ k.1.1.1.0;
        spans-few = ltb-false _ _ k.1.1.1.1.0;
      }

  pub items-few : (r : Rule) → Sized (most_items form) (most_items form) r → many_items form r ≡ false
  unfolding many_items
  items-few r k = all_any (ltb (most_items form)) (item_counts r) (
    le-ltb _ _ k.years-few,
    (le-ltb _ _ k.monthdays-few, (le-ltb _ _ k.weeks-few, (le-ltb _ _ k.weekdays-few, (le-ltb _ _ k.spans-few, tt)))),
  )

  pub counts-kept : (rs : List Rule) → passes_counts form rs ≡ false → CountsFit form rs
  unfolding passes_counts
  counts-kept rs h =
      let k = split-or (ltb (most_rules form) (length rs)) (any_of (many_items form) rs) h in
      record { rule-count = ltb-false _ _ k.0; item-counts = All-map few-items rs (any-all (many_items form) rs k.1) }

  pub kept-counts : (rs : List Rule) → CountsFit form rs → passes_counts form rs ≡ false
  unfolding passes_counts
  kept-counts rs k = rw (le-ltb (most_rules form) (length rs) k.rule-count) (all_any (many_items form) rs (All-map items-few rs k.item-counts))

-- what holds of all rules holds of those left
pub left-all : (P : Rule → Type 0) (rs : List Rule) → All P rs → All P (left rs) × (length (left rs) ≤ length rs)
unfolding left
left-all P [] h = (tt, omega arith)
left-all P (r ∷ rs) h = go (stops r) refl (left-all P rs h.1)
  where
    go : (b : Bool) → stops r ≡ b → All P (left rs) × (length (left rs) ≤ length rs) → All P (left (r ∷ rs)) × (length (left (r ∷ rs)) ≤ suc (length rs))
    go true e ih = rw (e, left) (h, omega arith)
    go false e ih = rw (e, left) (ih.0, omega arith)

-- the counts of a rule that a sheet carries
module _ (form : Form) (limits : Limits) where
  count_fits : (limit v : ℕ) → (counted form.item_count limit).fits v ≡ true → (v ≤ most_items form) × (v ≤ limit)
  unfolding field
  count_fits limit v f =
      let k = split-and (ltb v (2 ^ form.item_count)) (leb v limit) f in
      (omega (arith, ltb-true v (2 ^ form.item_count) k.0), leb-true v limit k.1)

  head-sized : (r : Rule) → (rule form limits).fits r ≡ true
      → Sized (most_items form) (most_items form) r × (length r.spans ≤ limits.spans)
  unfolding rule tagged head counts ◌then◌
  head-sized r f =
      let items = counted form.item_count limits.items in
      let y = items.fits (length r.years) in
      let m = items.fits (length r.monthdays) in
      let w = items.fits (length r.weeks) in
      let d = items.fits (length r.weekdays) in
      let s = (counted form.item_count limits.spans).fits (length r.spans) in
      let start = (split-and ((head form limits).fits (head_of r)) _ f).0 in
      let ky = split-and y (m && (w && (d && s))) (split-and ((title form limits).fits (head_of r).0) (y && (m && (w && (d && s)))) start).1 in
      let km = split-and m (w && (d && s)) ky.1 in
      let kw = split-and w (d && s) km.1 in
      let kd = split-and d s kw.1 in (
        record {
          years-few = (count_fits limits.items (length r.years) ky.0).0;
          monthdays-few = (count_fits limits.items (length r.monthdays) km.0).0;
          weeks-few = (count_fits limits.items (length r.weeks) kw.0).0;
          weekdays-few = (count_fits limits.items (length r.weekdays) kd.0).0;
          spans-few = (count_fits limits.spans (length r.spans) kd.1).0;
        },
        (count_fits limits.spans (length r.spans) kd.1).1,
      )

  pub rule-count-fits : (rs : List Rule) → (rules form limits).fits rs ≡ true → length rs ≤ limits.rules
  unfolding rules tagged opening via ◌then◌ field
  rule-count-fits rs f =
      let k = (split-and ((opening form limits).fits (length rs)) ((several (length rs) (rule form limits)).fits rs) f).0 in
      let n = (split-and (ltb form.mark (2 ^ form.mark_width) && eqb form.mark form.mark) _ k).1 in
      leb-true (length rs) limits.rules (split-and (ltb (length rs) (2 ^ form.rule_count)) (leb (length rs) limits.rules) n).1

  -- the rules left of a sheet are none with too many items
  pub left-few-items : (rs : List Rule) → (rules form limits).fits rs ≡ true → All (λ r. many_items form r ≡ false) (left rs)
  left-few-items rs fits =
      (left-all _ rs (every-all (λ r. many_items form r ≡ false) (rule form limits).fits (λ r f. items-few form r (head-sized r f).0) rs (rules-each form limits rs fits))).0

  -- THE LAW
  pub counts-fit : Roomy form limits → (s : List ℕ) → Bytes s → (rs : List Rule) (q : ℕ) → decode form limits s ≡ got rs q → drain limits (drained rs) ≡ fine
      → CountsFit form (folded (drained rs) ++ left rs)
  unfolding folded
  counts-fit roomy s h rs q e f =
      let fits = (encode-decoded form limits s h rs q e).0 in
      let ds = drained rs in
      let d = fine-drain limits ds f in
      let sized = every-all _ (rule form limits).fits head-sized rs (rules-each form limits rs fits) in
      let lawful = drained-all Lawful rs (rules-lawful form limits rs fits) in
      let spans = drained-all (λ r. length r.spans ≤ limits.spans) rs (All-map (λ r k. k.1) rs sized) in
      let rest = left-all (Sized (most_items form) (most_items form)) rs (All-map (λ r k. k.0) rs sized) in
      record {
        rule-count = omega (
          arith,
          roomy.rules-room,
          rule-count-fits rs fits,
          rest.1,
          length-append (flat_map rules_of (pages ds)) (left rs),
          flat_map-length rules_of (suc limits.entries) (pages ds) (group-rules ds limits d.2),
          mul-le-mul_right (suc limits.entries) (pages-count ds lawful),
          mul-le-mul_right (suc limits.entries) d.1,
        );
        item-counts = All-append _ (flat_map rules_of (pages ds)) (left rs)
            (flat_map-all _ rules_of (pages ds)
            (All-map₂ (λ g k b. rules-sized (most_items form) (most_items form) g
            (All-map (λ R l. omega (arith, l, d.1, roomy.items-room)) g.1 k) b)
            (pages ds) (pages-few ds lawful)
            (All-map (λ g k. All-map (λ x l. omega (arith, l, roomy.spans-room)) g.0 k) (pages ds)
            (pages-brief limits limits.spans ds d.2 spans))))
            rest.0;
      }
