-- The invariants of the loops that measure and write pages: what is done and the pages left are all of them. Rests on the laws of one page more.
use mathlib.Core.Path.{◌≡◌, refl, sym, ap, ◌∙◌, subst}
use mathlib.Core.List.{List, [], ◌++◌, append-nil, append_assoc}
use mathlib.Core.Bool.{Bool, true, false, ◌||◌}
use Prim.Native.Nat.{ℕ, ◌+◌, ◌-◌, ◌*◌, ◌≤◌, ◌<◌, ◌^◌}
use native.Mathlib.Omega.{arith}
use lib.ListN.{length}
use Rattle.laws.specs.Lists.{any_of}
use Rattle.laws.proofs.Flags.{or-false, split-or}
use Rattle.definition.specs.Rule.{Rule}
use Rattle.item_writer.specs.Written.{RoomFor, Wrote}
use Rattle.item_writer.proofs.Chain.{wrote_then, room-first, room-rest, room_as, wrote_as, wrote_none}
use Rattle.definition.specs.Sheet.{Form}
use Rattle.definition.specs.Fold.{many_items}
use Rattle.day_writer.specs.Rules.{Countable, rules_bits}
use Rattle.tables.specs.Days.{box_words}
use Rattle.tables.specs.Pages.{page_size, page_at, pages_at, page_rules, pages_rules, PageReady, Pages}
use Rattle.page_writer.proofs.Reading.{cut_out, cut-page, none-bits, none-counted, none-size, more-bits, more-counted, more-size, pages-first, pages-later}

-- ## Flags
or-moves : (page later past : Bool) → page || later || past ≡ later || (past || page)
or-moves true true past = refl
or-moves true false true = refl
or-moves true false false = refl
or-moves false true past = refl
or-moves false false past = sym (or-false past)

-- ## What is done so far
module _ (form : Form) (states counts spans lists pages : List ℕ) (room count : ℕ) where
  abbrev rules_from : ℕ → ℕ → List Rule
  rules_from n place = pages_rules (box_words states counts spans lists) (pages_at n pages place)

  -- so many rules and bits so far, whether one has more items than the form can count, and so many pages left from here on
  pub record Measured (left here rules bits : ℕ) (past : Bool) : Type 0 where
    pub ready : Pages form states counts spans lists pages room left here
    pub ruled : length (rules_from count 0) ≡ rules + length (rules_from left here)
    pub sized : length (rules_bits form (rules_from count 0)) ≡ bits + length (rules_bits form (rules_from left here))
    pub counted : any_of (many_items form) (rules_from count 0) ≡ any_of (many_items form) (rules_from left here) || past
    pub few : rules + 4096 * left ≤ 4096 * count
    pub short : bits + 2 ^ 31 * left ≤ 2 ^ 31 * count

  -- some bits are written, which with those of so many pages left from here on are all; for these there is room
  pub record Writing (old : List ℕ) (place left here : ℕ) (out : List ℕ) (next : ℕ) : Type 0 where
    pub ready : Pages form states counts spans lists pages room left here
    pub done : List ℕ
    pub wrote : Wrote old place done out next
    pub whole : rules_bits form (rules_from count 0) ≡ done ++ rules_bits form (rules_from left here)
    pub countable : Countable form (rules_from left here)
    pub roomy : RoomFor (length out) next (rules_bits form (rules_from left here))

  -- at the beginning
  pub measured-none : Pages form states counts spans lists pages room count 0 → Measured count 0 0 0 false
  measured-none ready = record { ready = ready; ruled = omega arith; sized = omega arith; counted = sym (or-false (any_of (many_items form) (rules_from count 0))); few = omega arith; short = omega arith }

  pub writing-none : Pages form states counts spans lists pages room count 0 → Countable form (rules_from count 0) → (old : List ℕ) (place : ℕ) → RoomFor (length old) place (rules_bits form (rules_from count 0))
      → Writing old place count 0 old place
  writing-none ready countable old place room = record { ready = ready; done = []; wrote = wrote_none refl; whole = refl; countable = countable; roomy = room }

-- so many left, said otherwise
module _ {form : Form} {states counts spans lists pages : List ℕ} {room count left left' here : ℕ} (e : left ≡ left') where
  pub measured-as : {rules bits : ℕ} {past : Bool} → Measured form states counts spans lists pages room count left here rules bits past
      → Measured form states counts spans lists pages room count left' here rules bits past
  measured-as {rules} {bits} {past} m = subst (λ n. Measured form states counts spans lists pages room count n here rules bits past) e m

  pub writing-as : {old : List ℕ} {place : ℕ} {out : List ℕ} {next : ℕ} → Writing form states counts spans lists pages room count old place left here out next
      → Writing form states counts spans lists pages room count old place left' here out next
  writing-as {old} {place} {out} {next} w = subst (λ n. Writing form states counts spans lists pages room count old place n here out next) e w

-- ## Measuring
module _ {form : Form} {states counts spans lists pages : List ℕ} {room count left here rules bits : ℕ} {past : Bool}
    (m : Measured form states counts spans lists pages room count left here rules bits past) where
  abbrev W : ℕ → List ℕ
  W = box_words states counts spans lists

  abbrev from : ℕ → ℕ → List Rule
  from = rules_from form states counts spans lists pages room count

  pub measured-all : left ≡ 0
      → (length (from count 0) ≡ rules) × (length (rules_bits form (from count 0)) ≡ bits) × (any_of (many_items form) (from count 0) ≡ past)
      × (rules ≤ 4096 * count) × (bits ≤ 2 ^ 31 * count)
  measured-all e =
      let none = none-size form W pages here left e in (
        omega (arith, m.ruled, none.0),
        omega (arith, m.sized, none.1),
        m.counted ∙ ap (λ b. b || past) (none-counted form W pages here left e),
        omega (arith, m.few),
        omega (arith, m.short),
      )

  pub measured-page : 0 < left → PageReady form states counts spans lists pages room here
  measured-page some = pages-first form states counts spans lists pages room left here some m.ready

  -- one page more
  pub measured-more : (some : 0 < left) {size : ℕ} (sized : size ≡ page_size pages here) → {r b : ℕ} {page : Bool} → length (page_rules W (page_at (cut_out pages here size) 0)) ≡ r
      → length (rules_bits form (page_rules W (page_at (cut_out pages here size) 0))) ≡ b
      → any_of (many_items form) (page_rules W (page_at (cut_out pages here size) 0)) ≡ page → r ≤ 4096 → b ≤ 2 ^ 31
      → Measured form states counts spans lists pages room count (left - 1) (here + size) (rules + r) (bits + b) (past || page)
  measured-more some {size} sized {r} {b} {page} p q k u v =
      let read = cut-page pages here size sized (omega (arith, sized, (measured-page some).inside)) in
      let later = from (left - 1) (here + size) in
      let more = more-size form W pages here left some size sized _ read r (length later) b (length (rules_bits form later)) p refl q refl in
      record {
        ready = pages-later form states counts spans lists pages room left here size some sized m.ready;
        ruled = omega (arith, m.ruled, more.0);
        sized = omega (arith, m.sized, more.1);
        counted = m.counted ∙ ap (λ b. b || past) (more-counted form W pages here left some size sized _ read ∙ ap (λ b. b || any_of (many_items form) later) k)
            ∙ or-moves page (any_of (many_items form) later) past;
        few = omega (arith, m.few, u);
        short = omega (arith, m.short, v);
      }

-- ## Writing
module _ {form : Form} {states counts spans lists pages : List ℕ} {room count : ℕ} {old : List ℕ} {place left here : ℕ} {out : List ℕ} {next : ℕ}
    (w : Writing form states counts spans lists pages room count old place left here out next) where
  abbrev X : ℕ → List ℕ
  X = box_words states counts spans lists

  abbrev behind : ℕ → ℕ → List ℕ
  behind n at = rules_bits form (rules_from form states counts spans lists pages room count n at)

  pub writing-all : left ≡ 0 → Wrote old place (behind count 0) out next
  writing-all e = wrote_as (w.whole ∙ ap (w.done ++◌) (none-bits form X pages here left e) ∙ append-nil w.done) w.wrote

  pub writing-page : 0 < left → PageReady form states counts spans lists pages room here
  writing-page some = pages-first form states counts spans lists pages room left here some w.ready

  -- one page more
  module _ (some : 0 < left) {size : ℕ} (sized : size ≡ page_size pages here) where
    abbrev page_rules' : List Rule
    page_rules' = page_rules X (page_at (cut_out pages here size) 0)

    abbrev later_rules : List Rule
    later_rules = rules_from form states counts spans lists pages room count (left - 1) (here + size)

    abbrev page_bits : List ℕ
    page_bits = rules_bits form page_rules'

    abbrev later : List ℕ
    later = rules_bits form later_rules

    read : page_at (cut_out pages here size) 0 ≡ page_at pages here
    read = cut-page pages here size sized (omega (arith, sized, (writing-page some).inside))

    more : behind left here ≡ page_bits ++ later
    more = more-bits form X pages here left some size sized _ read

    page-split : (any_of (many_items form) page_rules' ≡ false) × (any_of (many_items form) later_rules ≡ false)
    page-split = split-or _ _ (sym (more-counted form X pages here left some size sized _ read) ∙ w.countable)

    pub page-countable : Countable form page_rules'
    page-countable = page-split.0

    pub page-room : RoomFor (length out) next page_bits
    page-room = room-first page_bits later (room_as more w.roomy)

    pub writing_more : {out' : List ℕ} {next' : ℕ} → Wrote out next page_bits out' next' → Writing form states counts spans lists pages room count old place (left - 1) (here + size) out' next'
    writing_more v = record {
      ready = pages-later form states counts spans lists pages room left here size some sized w.ready;
      done = w.done ++ page_bits;
      wrote = wrote_then w.wrote v;
      whole = w.whole ∙ ap (w.done ++◌) more ∙ sym (append_assoc w.done page_bits later);
      countable = page-split.1;
      roomy = room-rest v later (room_as more w.roomy);
    }
