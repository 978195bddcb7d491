-- How the text of each part of a rule is put together from pieces.
use mathlib.Core.Path.{◌≡◌, refl, sym, ap, ◌∙◌}
use mathlib.Core.List.{List, [], ◌∷◌, ◌++◌, append-nil}
use mathlib.Core.Bool.{Bool, true, false, cond}
use Prim.Native.Nat.{ℕ, ◌+◌, ◌/◌, ◌%◌, ◌≤◌}
use native.Mathlib.Omega.{arith}
use lib.Dec.{eqb}
use lib.ListN.{length, length-append}
use borrow.Author.Tests.{le-leb, eq-eqb, ne_eqb}
use Rattle.grid.specs.Cut.{holds}
use Rattle.definition.specs.Rule.{week_bounds, year_bounds, operator_of, State}
use Rattle.definition.specs.Text.{ascii, digits, decimal, word, padded, plain, ◌then◌, of, unless, only}
use Rattle.definition.specs.Line.{single, item, clock, span_text, state_text, before}
use Rattle.definition.proofs.Lengths.{length_digits}
use Rattle.item_text.specs.declared.day.DaySort.{DaySort}
use Rattle.item_text.specs.declared.day.DaySort.TheVariants.{Years, Weeks}
use Rattle.item_text.specs.Day.{end_text, item_text, behind}
use Rattle.item_text.specs.Time.{plain_span}
use Rattle.item_text.specs.State.{state_of, kind_part, comment_part}

length_front : (t u : List ℕ) → length t ≤ length (t ++ u)
length_front t u = omega (arith, length-append t u)

-- ## An end of an item, by its sort
module _ (sort : DaySort) (v : ℕ) where
  pub years-end : sort ≡ Years → ((end_text sort).write v ≡ digits 4 v) × ((end_text sort).fits v ≡ holds v year_bounds)
  unfolding padded
  years-end e = rw e (refl, refl)

  pub weeks-end : sort ≡ Weeks → ((end_text sort).write v ≡ digits 2 v) × ((end_text sort).fits v ≡ holds v week_bounds)
  unfolding padded
  weeks-end e = rw e (refl, refl)

-- ## An item
module _ (sort : DaySort) (last step : ℕ) where
  pub behind-alone : eqb step 1 ≡ true → behind sort last step ≡ (45 ∷ []) ++ (end_text sort).write last
  unfolding behind ascii
  behind-alone e = rw e (ap (45 ∷◌) (append-nil _))

  pub behind-step : eqb step 1 ≡ false → behind sort last step ≡ (45 ∷ []) ++ ((end_text sort).write last ++ ((47 ∷ []) ++ decimal step))
  unfolding behind ascii
  behind-step e = rw e refl

  -- how long that is, at least and with a step
  pub behind-least : 1 + length ((end_text sort).write last) ≤ length (behind sort last step)
  unfolding behind ascii
  behind-least = omega (arith, length-append ((end_text sort).write last) (cond (eqb step 1) [] (ascii "/" ++ decimal step)))

  pub behind-long : eqb step 1 ≡ false → length (behind sort last step) ≡ 2 + length ((end_text sort).write last) + length (decimal step)
  behind-long e = omega (arith, ap length (behind-step e), length-append ((end_text sort).write last) (47 ∷ decimal step))

  module _ (first : ℕ) where
    pub item-once : single (first, (last, step)) ≡ true → (item_text sort).write (first, (last, step)) ≡ (end_text sort).write first
    unfolding item_text item ◌then◌ of unless
    item-once e = rw e (append-nil _)

    pub item-both : single (first, (last, step)) ≡ false → (item_text sort).write (first, (last, step)) ≡ (end_text sort).write first ++ behind sort last step
    unfolding item_text item ◌then◌ of unless word plain behind
    item-both e = rw e refl

    pub item-least : length ((end_text sort).write first) ≤ length ((item_text sort).write (first, (last, step)))
    unfolding item_text item ◌then◌ of
    item-least = length_front ((end_text sort).write first) _

-- ## Times and spans
pub clock-text : (m : ℕ) → m ≤ 2880 → clock.write m ≡ digits 2 (m / 60) ++ ((58 ∷ []) ++ digits 2 (m % 60))
unfolding clock only of ◌then◌ padded word ascii
clock-text m l = rw (le-leb m 2880 l) refl

pub clock-long : (m : ℕ) → m ≤ 2880 → length (clock.write m) ≡ 5
clock-long m l = omega (
  arith,
  ap length (clock-text m l),
  length-append (digits 2 (m / 60)) (58 ∷ digits 2 (m % 60)),
  length_digits 2 (m / 60),
  length_digits 2 (m % 60),
)

module _ (a b : ℕ) (o : Bool) where
  pub span-open : o ≡ true → plain_span a b o ≡ clock.write a ++ ((45 ∷ []) ++ (clock.write b ++ (43 ∷ [])))
  unfolding span_text only of ◌then◌ unless word ascii
  span-open e = rw e refl

  pub span-shut : o ≡ false → plain_span a b o ≡ clock.write a ++ ((45 ∷ []) ++ clock.write b)
  unfolding span_text only of ◌then◌ unless word ascii
  span-shut e = rw e (ap (λ t. clock.write a ++ (45 ∷ t)) (append-nil (clock.write b)))

  -- eleven bytes, and the `+`
  pub span-long : a ≤ 2880 → b ≤ 2880 → length (plain_span a b o) ≡ 11 + cond o 1 0
  span-long h k = go o refl
    where
      go : (p : Bool) → o ≡ p → length (plain_span a b o) ≡ 11 + cond p 1 0
      go true e = omega (
        arith,
        ap length (span-open e),
        length-append (clock.write a) (45 ∷ (clock.write b ++ (43 ∷ []))),
        length-append (clock.write b) (43 ∷ []),
        clock-long a h,
        clock-long b k,
      )
      go false e = omega (arith, ap length (span-shut e), length-append (clock.write a) (45 ∷ clock.write b), clock-long a h, clock-long b k)

-- ## Kind and comment
pub state-text : (S : State) → state_text.write S ≡ kind_part S ++ comment_part S
unfolding state_text ◌then◌ of unless word plain kind_part comment_part
state-text S = refl

pub state-long : (S : State) → length (state_text.write S) ≡ length (kind_part S) + length (comment_part S)
state-long S = ap length (state-text S) ∙ length-append (kind_part S) (comment_part S)

-- by the kind's number k and the comment n
module _ (k n : ℕ) where
  pub kind-none : k ≡ 0 → n ≡ 0 → [] ≡ kind_part (state_of k n)
  unfolding kind_part
  kind-none e f = sym (rw (eq-eqb k 0 e, eq-eqb n 0 f))

  pub kind-open : k ≡ 0 → (n ≡ 0 → ⊥) → 32 ∷ 111 ∷ 112 ∷ 101 ∷ 110 ∷ [] ≡ kind_part (state_of k n)
  unfolding kind_part ascii
  kind-open e f = sym (rw (eq-eqb k 0 e, ne_eqb n 0 f) refl)

  pub kind-closed : (k ≡ 0 → ⊥) → k ≡ 1 → 32 ∷ 111 ∷ 102 ∷ 102 ∷ [] ≡ kind_part (state_of k n)
  unfolding kind_part ascii
  kind-closed e f = sym (rw (ne_eqb k 0 e, eq-eqb k 1 f) refl)

  pub kind-unknown : (k ≡ 0 → ⊥) → (k ≡ 1 → ⊥) → 32 ∷ 117 ∷ 110 ∷ 107 ∷ 110 ∷ 111 ∷ 119 ∷ 110 ∷ [] ≡ kind_part (state_of k n)
  unfolding kind_part ascii
  kind-unknown e f = sym (rw (ne_eqb k 0 e, ne_eqb k 1 f) refl)

pub comment-none : (S : State) → S.comment ≡ 0 → comment_part S ≡ []
unfolding comment_part
comment-none S e = rw (eq-eqb S.comment 0 e)

pub comment-some : (S : State) → (S.comment ≡ 0 → ⊥) → comment_part S ≡ (32 ∷ 34 ∷ []) ++ (decimal S.comment ++ (34 ∷ []))
unfolding comment_part ascii
comment-some S e = rw (ne_eqb S.comment 0 e) refl

pub comment-long : (S : State) → (S.comment ≡ 0 → ⊥) → length (comment_part S) ≡ 3 + length (decimal S.comment)
comment-long S e = omega (arith, ap length (comment-some S e), length-append (decimal S.comment) (34 ∷ []))

-- ## What stands before a rule
module _ (o : ℕ) where
  pub before-normal : o ≡ 0 → 59 ∷ 32 ∷ [] ≡ before (operator_of o)
  unfolding ascii
  before-normal e = sym (rw (eq-eqb o 0 e))

  pub before-additional : (o ≡ 0 → ⊥) → o ≡ 1 → 44 ∷ 32 ∷ [] ≡ before (operator_of o)
  unfolding ascii
  before-additional e f = sym (rw (ne_eqb o 0 e, eq-eqb o 1 f))

  pub before-fallback : (o ≡ 0 → ⊥) → (o ≡ 1 → ⊥) → 32 ∷ 124 ∷ 124 ∷ 32 ∷ [] ≡ before (operator_of o)
  unfolding ascii
  before-fallback e f = sym (rw (ne_eqb o 0 e, ne_eqb o 1 f))
