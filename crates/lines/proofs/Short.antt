-- HOW LONG A TEXT IS: a rule that a sheet carries takes no more than 1,024 bytes of a line, in either form, also where it has no words. Rests on what a sheet's rule
-- keeps to, and on numbers having few digits.
use mathlib.Core.Path.{◌≡◌, refl}
use mathlib.Core.List.{List, [], ◌∷◌, ◌++◌, map, flat_map}
use mathlib.Core.Bool.{Bool, true, false, cond}
use Prim.Native.Nat.{ℕ, zero, suc, ◌+◌, ◌*◌, ◌-◌, ◌/◌, ◌%◌, ◌^◌, ◌≤◌, ◌<◌}
use Prim.Native.String.{String}
use native.Mathlib.Omega.{arith}
use lib.Dec.{ltb}
use lib.ListN.{length, length-append}
use borrow.Author.Tests.{ltb-false}
use Rattle.laws.specs.Lists.{All}
use Rattle.laws.proofs.Lists.{All-map, All-each, All-read, All-image, every-all}
use Rattle.laws.proofs.Spread.{flat_map-length}
use Rattle.grid.specs.Cut.{Range}
use Rattle.grid.proofs.Cut.{holds-in}
use Rattle.definition.specs.Rule.{Operator, Normal, Additional, Fallback, Kind, Open, Closed, Unknown, State, Span, YearRange, MonthdayRange, months, months_of, dated, WeekRange, WeekDayRange, fixed_days, holiday, Rule, month_bounds, weekday_bounds, year_bounds, week_bounds}
use Rattle.definition.specs.Sheet.{Form, sheet_limits, year_range, week_range, rule}
use Rattle.definition.specs.Day.{minute_of}
use Rattle.definition.specs.Text.{Text, ascii, decimal_in, word, padded, plain, named, ◌then◌, of, unless, only, several}
use Rattle.definition.specs.Line.{Item, item, month_item, weekday_item, month_names, weekday_names, year_steps, week_steps, year_text, week_text, month_text, weekday_text, clock, span_text, kind_word, kind_text, state_text, part, rule_text, before}
use Rattle.definition.proofs.Lawful.{ItemsFit, items-fit}
use Rattle.definition.proofs.Lengths.{length_digits}
use Rattle.definition.proofs.Carried.{comment-carried, counts-carried}
use Rattle.lines.proofs.Carried.{year-step, week-step}

-- ## Numbers
-- a number below a power of ten has no more digits than its exponent
pub decimal-short : (n k v : ℕ) → v < 10 ^ suc k → length (decimal_in n v) ≤ suc k
unfolding decimal_in
decimal-short zero k v l = omega arith
decimal-short (suc n) k v l = go (ltb v 10) refl k l (decimal-short n)
  where
    go : (b : Bool) → ltb v 10 ≡ b → (j : ℕ) → v < 10 ^ suc j → ((i w : ℕ) → w < 10 ^ suc i → length (decimal_in n w) ≤ suc i)
        → length (decimal_in (suc n) v) ≤ suc j
    go true e j m ih = rw (e, decimal_in) (omega arith)
    go false e zero m ih = absurd (omega (arith, ltb-false v 10 e))
    go false e (suc j) m ih = rw (e, decimal_in) (omega (arith, length-append (decimal_in n (v / 10)) ((48 + v % 10) ∷ []), ih j (v / 10) (omega arith)))

-- ## Texts: what a text writes of a value takes at most n bytes
abbrev AtMost : {A : Type 0} → ℕ → Text A → A → Type 0
AtMost n T x = length (T.write x) ≤ n

nothing-short : (b : Bool) (xs : List ℕ) → (length (cond b [] xs) ≤ length xs) × (length (cond b xs []) ≤ length xs)
nothing-short true xs = omega arith
nothing-short false xs = omega arith

module _ {A : Type 0} (T : Text A) (x : A) {n : ℕ} (h : AtMost n T x) where
  then-short : {m : ℕ} (U : Text A) → AtMost m U x → AtMost (n + m) (T then U) x
  unfolding ◌then◌
  then-short U k = omega (arith, length-append (T.write x) (U.write x))

  unless-short : (t : A → Bool) → AtMost n (unless t T) x
  unfolding unless
  unless-short t = omega (arith, nothing-short (t x) (T.write x))

  only-short : (t : A → Bool) → AtMost n (only t T) x
  unfolding only
  only-short t = omega (arith, nothing-short (t x) (T.write x))

word-short : {A : Type 0} (s : String) (x : A) → AtMost (length (ascii s)) (word s) x
unfolding word
word-short s x = omega arith

-- a word between each two, and behind the last in the count
several-short : {A : Type 0} (between : String) (T : Text A) (n : ℕ) (xs : List A) → All (AtMost n T) xs
    → AtMost (length xs * (length (ascii between) + n)) (several between T) xs
unfolding several
several-short between T n [] h = omega arith
several-short between T n (x ∷ xs) h = omega (
  arith,
  length-append (T.write x) (flat_map (λ y. ascii between ++ T.write y) xs),
  h.0,
  flat_map-length (λ y. ascii between ++ T.write y) (length (ascii between) + n) xs
      (All-map (λ y k. omega (arith, length-append (ascii between) (T.write y), k)) xs h.1),
)

-- ## Day items and spans
-- two ends of at most n bytes, `-`, `/` and a step of at most k digits and one
item-short : (end : Text ℕ) (n k : ℕ) → ((v : ℕ) → AtMost n end v) → (steps : Range) (e : Item) → e.1.1 < 10 ^ suc k
    → AtMost (n + (1 + (n + (1 + suc k)))) (item end steps) e
unfolding item of word plain ascii
item-short end n k h steps e l =
    then-short _ e (h e.0) _ (unless-short _ e (then-short _ e (word-short "-" e) _ (then-short _ e (h e.1.0) _
    (unless-short _ e (then-short _ e (word-short "/" e) _ (decimal-short (suc e.1.1) k e.1.1 l)) _))) _)

padded-short : (w : ℕ) (r : Range) (v : ℕ) → AtMost w (padded w r) v
unfolding padded
padded-short w r v = omega (arith, length_digits w v)

named-short : (n : ℕ) (names : List String) → All (λ name. length (ascii name) ≤ n) names → (r : Range) (v : ℕ) → AtMost n (named names r) v
unfolding named
named-short n names h r v = All-read (λ name. length name ≤ n) [] (omega arith) (map ascii names) (All-image _ ascii names h) (v - r.0)

year-short : (y : YearRange) → year_range.fits y ≡ true → AtMost 15 year_text y
unfolding year_text of
year-short y f = item-short (padded 4 year_bounds) 4 4 (padded-short 4 year_bounds) year_steps (y.start, (y.end, y.step))
    (omega (arith, holds-in y.step year_steps (year-step y f)))

week-short : (w : WeekRange) → week_range.fits w ≡ true → AtMost 9 week_text w
unfolding week_text of
week-short w f = item-short (padded 2 week_bounds) 2 2 (padded-short 2 week_bounds) week_steps (w.start, (w.end, w.step))
    (omega (arith, holds-in w.step week_steps (week-step w f)))

month-short : (m : MonthdayRange) → AtMost 9 month_text m
unfolding month_text of ascii
month-short m = only-short _ m
    (item-short (named month_names month_bounds) 3 0 (named-short 3 month_names (search arith) month_bounds) (1, 2) (month_item m) (one m)) _
  where
    one : (m : MonthdayRange) → (month_item m).1.1 < 10
    one (months a b) = omega arith
    one (months_of a b y) = omega arith
    one (dated r) = omega arith

weekday-short : (d : WeekDayRange) → AtMost 7 weekday_text d
unfolding weekday_text of ascii
weekday-short d = only-short _ d
    (item-short (named weekday_names weekday_bounds) 2 0 (named-short 2 weekday_names (search arith) weekday_bounds) (1, 2) (weekday_item d) (one d)) _
  where
    one : (d : WeekDayRange) → (weekday_item d).1.1 < 10
    one (fixed_days a b offset from_start from_end) = omega arith
    one (holiday k offset) = omega arith

clock-short : (m : ℕ) → AtMost 5 clock m
unfolding clock of ascii
clock-short m = only-short _ m (then-short _ m (padded-short 2 (0, 49) (m / 60)) _ (then-short _ m (word-short ":" m) _ (padded-short 2 (0, 60) (m % 60)))) _

span-short : (s : Span) → AtMost 12 span_text s
unfolding span_text of ascii
span-short s =
    only-short _ s (then-short _ s (clock-short (minute_of s.start)) _ (then-short _ s (word-short "-" s) _
    (then-short _ s (clock-short (minute_of s.end)) _ (unless-short _ s (word-short "+" s) _)))) _

-- ## Rules
kind-short : (k : Kind) → length (kind_word k) ≤ 7
unfolding ascii
kind-short Open = omega arith
kind-short Closed = omega arith
kind-short Unknown = omega arith

state-short : (S : State) → S.comment < 10 ^ 8 → AtMost 19 state_text S
unfolding state_text of plain ascii
state-short S l =
    then-short _ S (unless-short _ S (then-short _ S (word-short " " S) kind_text (kind-short S.kind)) _) _
    (unless-short _ S (then-short _ S (word-short " \"" S) _ (then-short _ S (decimal-short (suc S.comment) 7 S.comment l) _ (word-short "\"" S))) _)

-- a part, and the space behind it
part-short : {A : Type 0} {n : ℕ} (T : Text (List A)) (xs : List A) → AtMost n T xs → AtMost (n + 1) (part T) xs
unfolding part ascii
part-short T xs h = unless-short _ xs (then-short T xs h _ (word-short " " xs)) _

-- THE LAW, for a form whose comments have at most 24 bits, and so at most eight digits
pub rule-text-short : (form : Form) → 2 ^ form.comment ≤ 2 ^ 24 → (r : Rule) → (rule form sheet_limits).fits r ≡ true → length (rule_text.write r) ≤ 2 ^ 10
unfolding rule_text of ascii
rule-text-short form narrow r f = omega (arith, counts-carried form sheet_limits r f, whole)
  where
    i : ItemsFit form sheet_limits r
    i = items-fit form sheet_limits r f

    whole : AtMost (length r.years * 16 + 1 +
        (length r.monthdays * 10 + 1 + (5 + length r.weeks * 10 + 1 + (length r.weekdays * 8 + 1 + (length r.spans * 13 + 19))))) rule_text r
    whole =
        then-short _ r
        (part-short _ r.years (several-short "," year_text 15 r.years (every-all _ year_range.fits year-short r.years i.years-fit))) _
        (then-short _ r (part-short _ r.monthdays (several-short "," month_text 9 r.monthdays (All-each _ month-short r.monthdays))) _
        (then-short _ r (part-short _ r.weeks (then-short _ r.weeks (word-short "week " r.weeks) _
        (several-short "," week_text 9 r.weeks (every-all _ week_range.fits week-short r.weeks i.weeks-fit)))) _
        (then-short _ r (part-short _ r.weekdays (several-short "," weekday_text 7 r.weekdays (All-each _ weekday-short r.weekdays))) _
        (then-short _ r (several-short "," span_text 12 r.spans (All-each _ span-short r.spans)) _
        (state-short r.state (omega (arith, narrow, comment-carried form sheet_limits r f)))))))

pub before-short : (o : Operator) → length (before o) ≤ 4
unfolding ascii
before-short Normal = omega arith
before-short Additional = omega arith
before-short Fallback = omega arith
