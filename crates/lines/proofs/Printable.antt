-- NOTHING BUT PRINTABLE ASCII IS WRITTEN, of values that have words. One law for each way to make a text, so that the line's law reads like the line.
use mathlib.Core.Path.{◌≡◌, refl}
use mathlib.Core.List.{List, [], ◌∷◌, map}
use mathlib.Core.Bool.{Bool, true, false, ◌&&◌, cond, not}
use Prim.Native.Nat.{ℕ, zero, suc, ◌-◌, ◌/◌, ◌%◌, ◌^◌, ◌≤◌, ◌<◌}
use Prim.Native.String.{String}
use native.Mathlib.Nat.{mod-lt, div-lt_iff_lt-mul}
use native.Mathlib.Omega.{arith}
use lib.Dec.{leb, ltb}
use borrow.Author.Tests.{ltb-true, leb-true}
use Rattle.laws.specs.Lists.{every, All}
use Rattle.laws.proofs.Flags.{split-and}
use Rattle.laws.proofs.Lists.{All-append, All-map, All-read, All-image, every-all}
use Rattle.laws.proofs.Spread.{flat_map-all}
use Rattle.grid.specs.Cut.{Range}
use Rattle.grid.proofs.Cut.{holds-in}
use Rattle.definition.specs.Rule.{weekday_bounds, week_bounds, month_bounds, year_bounds, Operator, Normal, Additional, Fallback, Kind, Open, Closed, Unknown, Rule}
use Rattle.definition.specs.Text.{Text, ascii, digits, decimal_in, word, padded, plain, named, ◌then◌, of, unless, only, is_none, listed, several}
use Rattle.definition.specs.Line.{item, year_steps, week_steps, month_names, weekday_names, year_text, week_text, month_text, weekday_text, clock, span_text, kind_word, kind_text, comments, state_text, part, rule_text, before, first_normal, line_of, line}

abbrev pub Printable : ℕ → Type 0
Printable b = (32 ≤ b) × (b ≤ 126)

-- the same as a test, for words that are known
abbrev printable : ℕ → Bool
printable b = leb 32 b && leb b 126

known : (bs : List ℕ) → every printable bs ≡ true → All Printable bs
known = every-all Printable printable (λ b h. let k = split-and (leb 32 b) (leb b 126) h in (leb-true 32 b k.0, leb-true b 126 k.1))

-- ## Digits
digits-print : (w v : ℕ) → v < 10 ^ w → All Printable (digits w v)
unfolding digits
digits-print zero v l = tt
digits-print (suc w) v l =
    let k : 0 < 10 ^ w = omega arith in
    (omega (arith, (div-lt_iff_lt-mul {x = v} {y = 10} k).1 (omega arith)), digits-print w (v % 10 ^ w) (mod-lt v k))

decimal-prints : (n v : ℕ) → All Printable (decimal_in n v)
unfolding decimal_in
decimal-prints zero v = tt
decimal-prints (suc n) v = go (ltb v 10) refl (decimal-prints n (v / 10))
  where
    go : (b : Bool) → ltb v 10 ≡ b → All Printable (decimal_in n (v / 10)) → All Printable (decimal_in (suc n) v)
    go true e ih = rw (e, decimal_in) (omega (arith, ltb-true v 10 e), tt)
    go false e ih = rw (e, decimal_in) (All-append Printable (decimal_in n (v / 10)) _ ih (omega arith, tt))

-- ## Texts
record Prints {A : Type 0} (T : Text A) : Type 0 where
  pub prints : (x : A) → T.fits x ≡ true → All Printable (T.write x)

word-prints : {A : Type 0} (s : String) → every printable (ascii s) ≡ true → Prints (word {A = A} s)
unfolding word
word-prints s h = record { prints = λ x f. known (ascii s) h }

padded-prints : (w : ℕ) (r : Range) → r.1 ≤ 10 ^ w → Prints (padded w r)
unfolding padded
padded-prints w r l = record { prints = λ v f. digits-print w v (omega (arith, holds-in v r f)) }

plain-prints : (r : Range) → Prints (plain r)
unfolding plain
plain-prints r = record { prints = λ v f. decimal-prints (suc v) v }

named-prints : (names : List String) → every (λ s. every printable (ascii s)) names ≡ true → (r : Range) → Prints (named names r)
unfolding named
named-prints names h r = record {
  prints = λ v f.
      All-read (All Printable) [] tt (map ascii names)
      (All-image _ ascii names (every-all _ (λ s. every printable (ascii s)) (λ s. known (ascii s)) names h)) (v - r.0);
}

module _ {A : Type 0} {T : Text A} (h : Prints T) where
  then-prints : {U : Text A} → Prints U → Prints (T then U)
  unfolding ◌then◌
  then-prints {U} k = record {
    prints = λ x f. let e = split-and (T.fits x) (U.fits x) f in All-append Printable (T.write x) (U.write x) (h.prints x e.0) (k.prints x e.1);
  }

  of-prints : {B : Type 0} (take : B → A) → Prints (of take T)
  unfolding of
  of-prints take = record { prints = λ y f. h.prints (take y) f }

  unless-prints : (t : A → Bool) → Prints (unless t T)
  unfolding unless
  unless-prints t = record { prints = λ x f. go x (t x) f }
    where
      go : (x : A) (b : Bool) → cond b true (T.fits x) ≡ true → All Printable (cond b [] (T.write x))
      go x true e = tt
      go x false e = h.prints x e

  only-prints : (t : A → Bool) → Prints (only t T)
  unfolding only
  only-prints t = record { prints = λ x f. go x (t x) f }
    where
      go : (x : A) (b : Bool) → b && T.fits x ≡ true → All Printable (cond b (T.write x) [])
      go x true e = h.prints x e
      go x false e = tt

  several-prints : (between : String) → every printable (ascii between) ≡ true → Prints (several between T)
  unfolding several
  several-prints between b = record { prints = go }
    where
      go : (xs : List A) → not (is_none xs) && every T.fits xs ≡ true → All Printable (listed T.write (ascii between) xs)
      go [] f = tt
      go (x ∷ xs) f =
          let k = every-all _ T.fits h.prints (x ∷ xs) f in
          All-append Printable (T.write x) _ k.0
          (flat_map-all Printable _ xs (All-map (λ y. All-append Printable (ascii between) (T.write y) (known (ascii between) b)) xs k.1))

-- ## The line
item-prints : {end : Text ℕ} → Prints end → (steps : Range) → Prints (item end steps)
unfolding item ascii every
item-prints h steps = then-prints (of-prints h _) (unless-prints (then-prints (word-prints "-" refl) (then-prints (of-prints h _)
    (unless-prints (then-prints (word-prints "/" refl) (of-prints (plain-prints steps) _)) _))) _)

clock-prints : Prints clock
unfolding clock ascii every
clock-prints = only-prints
    (then-prints (of-prints (padded-prints 2 (0, 49) (omega arith)) _)
    (then-prints (word-prints ":" refl) (of-prints (padded-prints 2 (0, 60) (omega arith)) _))) _

span-prints : Prints span_text
unfolding span_text ascii every
span-prints = only-prints
    (then-prints (of-prints clock-prints _)
    (then-prints (word-prints "-" refl) (then-prints (of-prints clock-prints _) (unless-prints (word-prints "+" refl) _)))) _

kind-prints : Prints kind_text
unfolding ascii every
kind-prints = record { prints = λ S f. go S.kind }
  where
    go : (k : Kind) → All Printable (kind_word k)
    go Open = known (ascii "open") refl
    go Closed = known (ascii "off") refl
    go Unknown = known (ascii "unknown") refl

state-prints : Prints state_text
unfolding state_text ascii every
state-prints = then-prints (unless-prints (then-prints (word-prints " " refl) kind-prints) _)
    (unless-prints (then-prints (word-prints " \"" refl) (then-prints (of-prints (plain-prints comments) _) (word-prints "\"" refl))) _)

part-prints : {A : Type 0} {T : Text (List A)} → Prints T → Prints (part T)
unfolding part ascii every
part-prints h = unless-prints (then-prints h (word-prints " " refl)) _

rule-prints : Prints rule_text
unfolding rule_text year_text week_text month_text weekday_text ascii every
rule-prints = then-prints (of-prints (part-prints (several-prints (of-prints (item-prints (padded-prints 4 year_bounds (omega arith)) year_steps) _) "," refl)) _)
    (then-prints (of-prints (part-prints (several-prints (only-prints (of-prints (item-prints (named-prints month_names refl month_bounds) _) _) _) "," refl)) _)
    (then-prints (of-prints (part-prints
    (then-prints (word-prints "week " refl)
    (several-prints (of-prints (item-prints (padded-prints 2 week_bounds (omega arith)) week_steps) _) "," refl))) _)
    (then-prints (of-prints (part-prints
    (several-prints (only-prints (of-prints (item-prints (named-prints weekday_names refl weekday_bounds) _) _) _) "," refl)) _)
    (then-prints (of-prints (several-prints span-prints "," refl) _) (of-prints state-prints _)))))

before-prints : (o : Operator) → All Printable (before o)
unfolding ascii every
before-prints Normal = known (ascii "; ") refl
before-prints Additional = known (ascii ", ") refl
before-prints Fallback = known (ascii " || ") refl

-- THE LAW
pub line-printable : (rs : List Rule) → line.fits rs ≡ true → All Printable (line.write rs)
unfolding line line_of
line-printable [] f = tt
line-printable (r ∷ rs) f =
    let k = every-all _ rule_text.fits rule-prints.prints (r ∷ rs) (split-and (first_normal (r ∷ rs)) _ f).1 in
    All-append Printable (rule_text.write r) _ k.0
    (flat_map-all Printable _ rs (All-map (λ q. All-append Printable (before q.operator) (rule_text.write q) (before-prints q.operator)) rs k.1))
